use Rattle.std.proofs.Common.{ap, sym, ◌∙◌}
use Rattle.std.specs.Prelude.{slice_set}
use Rattle.poly_place.specs.Index.{Row}
use Rattle.poly_place.proofs.Rows.{added, added_none}
use Rattle.poly_place.proofs.index.add.Goals as goal

pub returns-in_ok-push-in-Some-clause-ok : goal.returns-in_ok-push-in-Some-clause-ok
returns-in_ok-push-in-Some-clause-ok c =
    let n = c.args.number in
    ap (λ (s : Row). slice_set c.args.rows.now c.in-Some.at s) c.in_ok-push-in-Some.ensures.ok
    ∙ added c.args.rows.now c.args.item.now n c.in-Some.at c.index-rows-at.result c.requires (sym c.find.ensures.index ∙ c.in-Some.is)

pub returns-in-None-clause-ok : goal.returns-in-None-clause-ok
returns-in-None-clause-ok c = added_none c.args.rows.now c.args.item.now c.args.number (sym c.find.ensures.index ∙ c.in-None.is)
