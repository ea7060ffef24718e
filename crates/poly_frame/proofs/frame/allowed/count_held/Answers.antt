use Rattle.std.proofs.Common.{Bool, List, ap, arith, drop, false, get_or, length, not, sym, true, ℕ, ◌&&◌, ◌+◌, ◌<◌, ◌∙◌, ◌≡◌}
use Rattle.std.proofs.lemmas.List.{at_drop_more}
use Rattle.poly_tiling.specs.Lists.{one, tally}
use Rattle.poly_tiling.specs.Puzzle.{has_item}
use Rattle.poly_frame.specs.FrameConsistent.{items_fit}
use Rattle.poly_frame.specs.Open.{dead}
use Rattle.poly_frame.proofs.frame.allowed.count_held.Goals as goal
use Rattle.poly_frame.proofs.frame.allowed.count_held.Goals.{then-covers+then-is_sound, else-covers, else-covers-via-then-covers+else-is_sound, else-covers-via-else-covers}

-- counts one more member, or none if the next one fails the test
step : (f : ℕ → Bool) (xs : List ℕ) (k n m : ℕ) (b : Bool) → k < length xs → n + tally f (drop k xs) ≡ tally f xs → f (get_or xs k 0) ≡ b → m ≡ n + one b → m + tally f (drop (k + 1) xs) ≡ tally f xs
step f xs k n m b low same is more = omega (arith, at_drop_more (λ ys. tally f ys) xs k 0 low, same, ap one is, more)

pub loop-p-preserved : goal.loop-p-preserved
loop-p-preserved c =
    let v = c.args.node.now.view.now in
    let A = c.args.node.now.trail.now in
    let xs = c.args.members.now in
    let k = c.loop-p.p-index in
    let sound = λ (p : ℕ). items_fit v A p && not (dead v A p) in
    let same = step (λ p. has_item v p c.args.item.now && sound p) xs k c.loop-p.n in
    let test = λ (b : Bool) (is : c.covers.result ≡ b). ap (λ has. has && sound (get_or xs k 0)) (sym c.covers.ensures ∙ is) in
    elim c.if-covers.branch [
      | then-covers+then-is_sound w ↦ record {
        same = same c.if-covers.n true c.loop-p-test.true c.loop-p.invariant.same (test true w.if-covers.true ∙ sym w.is_sound.ensures ∙ w.if-is_sound.true) w.n-is;
        few = omega (arith, c.loop-p.invariant.few, w.n-is);
      }
      | else-covers w ↦ record {
        same = same c.if-covers.n false c.loop-p-test.true c.loop-p.invariant.same (elim w.else-covers.branch [
          | else-covers-via-then-covers+else-is_sound u ↦ test true u.if-covers.true ∙ sym u.is_sound.ensures ∙ u.if-is_sound.false
          | else-covers-via-else-covers u ↦ test false u.if-covers.false
        ]) (omega (arith, w.n-is));
        few = omega (arith, c.loop-p.invariant.few, w.n-is);
      }
    ]
