use Rattle.std.proofs.Common.{ap, map, subst, sym, ◌∙◌}
use Rattle.std.specs.List.{All}
use Rattle.poly_tiling.specs.TilingOrder.{placed}
use Rattle.poly_cli.specs.Listings.{IsPrintable}
use Rattle.poly_cli.specs.Questions.{list_text}
use Rattle.poly_cli.specs.Runs.{Writes}
use Rattle.poly_cli.proofs.Printable.{all_printable}
use Rattle.poly_cli.proofs.answering.Answerer.list_all.Goals as goal

pub print-requires : goal.print-requires
print-requires g c =
    let q = c.args.quiet.now in
    subst (λ v. All (IsPrintable v) c.tilings.result.now) (sym (c.deref.ensures ∙ c.view.ensures.value))
    (subst (All (IsPrintable q.view)) (sym c.tilings.ensures.value) (all_printable q c.design-design.ensures.all c.numbers_show.ensures c.listings_show.ensures))

pub returns-clause-says : goal.returns-clause-says
returns-clause-says g c =
    let q = c.args.quiet.now in
    let same = ap (λ v. list_text (map (placed v) c.tilings.result.now)) (c.deref.ensures ∙ c.view.ensures.value) ∙ ap (λ l. list_text (map (placed q.view) l)) c.tilings.ensures.value in
    subst (Writes c.print.result (g.W.Write.contents c.args.writer.now) (g.W.Write.contents c.print.new.writer)) same c.print.ensures
