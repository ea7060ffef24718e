use Rattle.std.proofs.Common.{[], drop, length, map, take, true, ◌*◌, ◌+◌, ◌++◌, ◌≡◌, ◌≤◌}
use Rattle.poly_atom.specs.declared.atom.Atom.TheVariants.{Lacks}
use Rattle.poly_report.specs.Shapes.{arms_list}
use Rattle.poly_report.specs.Sizes.{arms_total}
use Rattle.poly_report.specs.Holds.{arms_hold}
use Rattle.poly_report.specs.Leaves.{arms_tilings}
use Rattle.poly_report.specs.Paths.{arms_paths}
use Rattle.poly_report.proofs.cut.+walk.Given as goal

abbrev pub decreases-walk : goal.decreases-walk
decreases-walk l = 4 * goal.size-walk l

abbrev pub decreases-walk_arms : goal.decreases-walk_arms
decreases-walk_arms l = 4 * goal.size-walk_arms l + 1

abbrev pub decreases-walk_taken : goal.decreases-walk_taken
decreases-walk_taken l = 4 * goal.size-walk_taken l + 1

abbrev pub invariant-walk_arms-loop-arm : goal.invariant-walk_arms-loop-arm
invariant-walk_arms-loop-arm l =
    let before = map (λ a. a.placement) (take l.arm-index l.arms) in
    let more = arms_list (drop l.arm-index l.arms) in
    let v = l.fn.frame.scene in
    let A = l.fn.frame.atoms in
    record {
      level : l.level ≡ length A;
      frame : l.frame ≡ record { scene = v; atoms = A ++ map (λ q. Lacks q) before; given = l.fn.frame.given };
      steps : l.arm-index + arms_total more ≤ arms_total (arms_list l.arms);
      says : arms_hold v A [] (arms_list l.arms) ≡ arms_hold v A before more;
      tilings : l.keep ≡ true → l.out.tilings.items ++ arms_tilings v A before more ≡ l.fn.out.tilings.items ++ arms_tilings v A [] (arms_list l.arms);
      paths : l.keep ≡ true → l.out.paths ++ arms_paths l.fn.frame.given v A before more ≡ l.fn.out.paths ++ arms_paths l.fn.frame.given v A [] (arms_list l.arms);
    }
