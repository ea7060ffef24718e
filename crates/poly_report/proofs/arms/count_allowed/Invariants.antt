use Rattle.std.proofs.Common.{drop, not, ◌&&◌, ◌+◌, ◌≡◌, ◌≤◌}
use Rattle.poly_tiling.specs.Lists.{mem, tally}
use Rattle.poly_frame.specs.Open.{ruled_out}
use Rattle.poly_report.proofs.arms.count_allowed.Given as goal

abbrev pub invariant-loop-a : goal.invariant-loop-a
invariant-loop-a l = record {
  same : l.n + tally (λ a. mem l.frame.scene.live a.placement && not (ruled_out l.frame.scene l.frame.atoms a.placement)) (drop l.a-index l.arms) ≡ tally (λ a. mem l.frame.scene.live a.placement && not (ruled_out l.frame.scene l.frame.atoms a.placement)) l.arms;
  few : l.n ≤ l.a-index;
}
