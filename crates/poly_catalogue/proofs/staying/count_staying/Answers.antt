use Rattle.std.proofs.Common.{Bool, List, length, subst, sym, ◌∙◌, ◌≡◌, ◌<◌, false, get_or, ℕ}
use Rattle.poly_tiling.specs.Lists.{mem, tally}
use Rattle.poly_catalogue.specs.Stays.{passes}
use Rattle.poly_catalogue.proofs.Passing.{passing}
use Rattle.poly_catalogue.proofs.staying.count_staying.Goals as goal

pub returns-clause-count : goal.returns-clause-count
returns-clause-count c =
    let w = c.args.view.now in
    let x = c.args.delta.now in
    let flags : List Bool = c.flag_numbers.new.flags.items in
    let exact = subst (λ (l : List ℕ). (p : ℕ) → p < length flags → get_or flags p false ≡ mem l p) c.deref.ensures.value c.flag_numbers.ensures.flags in
    c.count_passing.ensures.count ∙ (λ i. tally (passes (c.deref-2.ensures.value i) w x) (c.all.ensures i))
    ∙ passing w x flags (length c.args.flags.now.items) c.args.listing.now c.requires.from c.requires.flags (sym c.flag_numbers.ensures.long) exact
