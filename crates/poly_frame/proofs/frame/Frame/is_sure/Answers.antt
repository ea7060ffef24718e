use Rattle.std.proofs.Common.{arith, length, subst, true, ◌-◌, ◌<◌, ◌≡◌, ◌≤◌}
use Rattle.std.proofs.lemmas.Bool.{ltb-true}
use Rattle.poly_frame.specs.FrameConsistent.{is_consistent}
use Rattle.poly_frame.specs.Walk.{Walk}
use Rattle.poly_frame.proofs.FrameConsistent.{consistent_top}
use Rattle.poly_frame.proofs.frame.Frame.is_sure.Goals as goal

pub returns : goal.returns
returns c = λ y.
    let s = c.self.inside in
    let low : s.stand.given ≤ length s.trail.items = omega (arith, c.self.invariant.lists.begun, s.trail.ok.0) in
    let more : length s.trail.items - s.stand.given < s.consistent = omega (arith, ltb-true _ _ y, c.len.ensures, s.trail.ok.0) in
    subst (λ (w : Walk). is_consistent w.scene w.atoms ≡ true) c.self.view_is (consistent_top s.stand.view.now s.trail.items s.stand.given s.consistent c.self.invariant.right low more)
