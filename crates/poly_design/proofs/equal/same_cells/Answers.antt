use Rattle.std.proofs.Common.{sym, ◌∙◌}
use Rattle.poly_shape.proofs.Flood.{cells_decide}
use Rattle.poly_design.proofs.equal.same_cells.Goals as goal

pub returns : goal.returns
returns c = let d = cells_decide c.args.a c.args.b in (λ t. d.0 (sym c.eq.ensures ∙ t), λ e. c.eq.ensures ∙ d.1 e)
