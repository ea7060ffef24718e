use Rattle.std.proofs.Common.{◌≡◌, ◌≤◌, ◌+◌, ◌*◌, ◌++◌, ◌∷◌, take, length}
use Rattle.std.specs.List.{flat_map}
use Rattle.poly_text.specs.Replies.{placement_text, covered}
use Rattle.poly_text.proofs.replies.ReplyLine.put_placements.Given as goal

abbrev pub invariant-loop-placement : goal.invariant-loop-placement
invariant-loop-placement l = record {
  text : l.self ≡ l.fn.self ++ flat_map (λ q. 32 ∷ placement_text q) (take l.placement-index l.placements);
  short : length l.self ≤ length l.fn.self + 24 * covered (take l.placement-index l.placements);
}
