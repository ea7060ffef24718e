use Rattle.std.proofs.Common.{List, ap, length, subst, sym, ℕ, ◌∙◌}
use Rattle.poly_frame.specs.Matrices.{RowOf}
use Rattle.poly_frame.specs.Open.{open_in}
use Rattle.poly_frame.proofs.FrameSteps.{kept_start}
use Rattle.poly_frame.proofs.frame.steps.start.Goals as goal

pub returns-clause-kept : goal.returns-clause-kept
returns-clause-kept c =
    let v = c.args.node.now.view.now in
    let A = c.args.node.now.trail.now in
    let matrix = c.args.node.now.matrix.now in
    let live = c.reserve.ensures.items in
    kept_start v A matrix c.args.node.now.table.now c.reserve.new.self.items c.args.steps.now.have.items c.reserve-2.new.self.items c.reserve-3.new.self.items c.requires.table c.requires.have c.requires.len (ap length live ∙ c.requires.row_len) (c.reserve-2.ensures.items ∙ c.clear.ensures.items) (c.reserve-3.ensures.items ∙ c.clear-2.ensures.items)
    (subst (λ (xs : List ℕ). RowOf (λ p. open_in v A p) matrix xs) (sym live) c.requires.row)
