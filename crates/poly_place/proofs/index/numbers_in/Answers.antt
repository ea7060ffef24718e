use Rattle.std.proofs.Common.{ap, sym, ◌∙◌}
use Rattle.poly_place.specs.Index.{Row}
use Rattle.poly_place.proofs.Rows.{row_at, row_none}
use Rattle.poly_place.proofs.index.numbers_in.Goals as goal

pub returns-in-Some : goal.returns-in-Some
returns-in-Some c = c.numbers.ensures ∙ ap (λ (r : Row). r.1) c.index-rows-at.is ∙ sym (row_at c.args.rows.now c.args.item.now c.in-Some.at c.index-rows-at.result (sym c.find.ensures.index ∙ c.in-Some.is))

pub returns-in-None : goal.returns-in-None
returns-in-None c = sym (row_none c.args.rows.now c.args.item.now (sym c.find.ensures.index ∙ c.in-None.is))
