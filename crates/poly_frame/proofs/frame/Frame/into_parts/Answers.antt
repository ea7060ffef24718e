use Rattle.std.proofs.Common.{subst, sym}
use Rattle.std.proofs.lemmas.Option.{IfSome_then}
use Rattle.poly_frame.specs.FrameTable.{HasOpen}
use Rattle.poly_frame.specs.Matrices.{matrix_of}
use Rattle.poly_frame.specs.Walk.{Walk}
use Rattle.poly_frame.specs.declared.frame.matrix.Matrix.{Matrix}
use Rattle.poly_frame.proofs.Opens.{has_open_after}
use Rattle.poly_frame.proofs.frame.Frame.into_parts.Goals as goal

pub returns-clause-all : goal.returns-clause-all
returns-clause-all c =
    let s = c.self.inside in
    let t = c.self.invariant.levels.table in
    let v = s.stand.view.now in
    let all = has_open_after v s.trail.items s.stand.base (matrix_of s.stand.columns) t.matrix t.all in
    IfSome_then c.into_own.result c.into_own.ensures (λ m e.
    subst (λ (w : Walk). HasOpen w.scene w.atoms m) c.self.view_is
    (subst (λ (k : Matrix). HasOpen v s.trail.items k) (sym e) all))
