use Rattle.std.proofs.Common.{subst, sym}
use Rattle.poly_tiling.specs.Leading.{AreDigits}
use Rattle.poly_tiling.proofs.order.key_of.Goals as goal

pub leading-requires-clause-digits : goal.leading-requires-clause-digits
leading-requires-clause-digits c = subst (λ row. AreDigits c.args.base row) (sym c.row.ensures) c.requires.digits
