use Rattle.std.proofs.Common.{ap, sym, ◌∙◌}
use Rattle.poly_tiling.specs.Names.{below}
use Rattle.poly_atom.proofs.Merge.{below_self}
use Rattle.poly_atom.proofs.order.is_below.Goals as goal

pub returns-then-first-second : goal.returns-then-first-second
returns-then-first-second c = sym (ap (λ n. below c.args.view.now c.args.first n) (sym c.if-first-second.true) ∙ below_self c.args.view.now c.args.first)
