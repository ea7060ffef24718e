use Rattle.std.proofs.Common.{ap, arith, length, sym, ◌∙◌}
use Rattle.std.proofs.lemmas.Bool.{le-leb}
use Rattle.poly_atom.proofs.Crowds.{crowded}
use Rattle.poly_atom.proofs.hopelessness.is_wide_hopeless.Goals as goal

pub returns-then-items-le-MOST_ITEMS : goal.returns-then-items-le-MOST_ITEMS
returns-then-items-le-MOST_ITEMS c =
    let few = c.if-items-le-MOST_ITEMS.true in
    let same = ap length c.items.ensures.value in
    let many = c.in-None.ensures.many in
    le-leb (length c.items.result.now) 320 few ∙ sym (crowded c.args.view.now c.args.atoms.now c.items.ensures.well (omega (arith, few, same, many)))
