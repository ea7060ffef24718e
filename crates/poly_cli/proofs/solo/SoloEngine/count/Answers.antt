use Rattle.std.proofs.Common.{List, length, subst, ◌≡◌, ◌∙◌, ap}
use Rattle.poly_design.specs.declared.placement.Placement.{Placement}
use Rattle.poly_tiling.specs.Listings.{IsListOfTilings}
use Rattle.poly_cli.proofs.Counted.{book_counted}
use Rattle.poly_cli.proofs.solo.SoloEngine.count.Goals as goal

pub returns-clause-count : goal.returns-clause-count
returns-clause-count c =
    let n = c.numbers.result.listed in
    let design = ap (λ s. s.design) c.settle_book.ensures.same ∙ ap (λ s. s.design) c.self.view_is in
    subst (λ d. (all : List (List Placement)) × IsListOfTilings d all × (n ≡ length all)) design
    (book_counted c.settle_book.new.book c.whole.ensures.whole c.listings_show.ensures c.in_ok-settle_book.ensures.none n c.numbers.ensures.listed)
