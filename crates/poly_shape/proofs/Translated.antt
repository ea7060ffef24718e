-- Cells moved one after another.
use Rattle.std.proofs.Common.{◌≡◌, ℕ, ◌+◌, ◌<◌, ◌≤◌, List, length, get_or, take, sym, subst, ◌∙◌, arith}
use Rattle.std.proofs.lemmas.List.{same_lists, get_or-take, get_or-map, length-take-le, length-map}
use Rattle.std.proofs.lemmas.Bool.Decides.{nat_tests}
use Rattle.std.specs.Ordering.{nat_cmp, ordering_then}
use Rattle.poly_grid.specs.Spot.{Spot}
use Rattle.poly_shape.specs.Order.{IsAscending, spot_cmp}
use Rattle.poly_shape.specs.Moves.{spot_moved, moved_by, StaysInRange}

pub record IsMovedTo (right down : ℕ) (cells : List Spot) (n : ℕ) (moved : List Spot) : Type 0 where
  pub whole : length moved ≡ 16
  pub each : (k : ℕ) (d : Spot) → k < n → get_or moved k d ≡ spot_moved right down (get_or cells k d)
  pub stays : (k : ℕ) (d : Spot) → k < n → ((get_or cells k d).x + right < 64) × ((get_or cells k d).y + down < 64)

pub moved_all : (right down : ℕ) (cells : List Spot) (moved : List Spot) → IsMovedTo right down cells (length cells) moved → length cells ≤ 16 → take (length cells) moved ≡ moved_by right down cells
moved_all right down cells moved is few =
    let len : length (take (length cells) moved) ≡ length cells = length-take-le (length cells) moved (omega (arith, is.whole)) in
    same_lists _ _ (len ∙ sym (length-map cells (spot_moved right down)))
    (λ k d lt. get_or-take (length cells) moved k d (omega (arith, len)) ∙ is.each k d (omega (arith, len)) ∙ sym (get_or-map (spot_moved right down) cells k d d (omega (arith, len))))

pub stays_all : (right down : ℕ) (cells : List Spot) (moved : List Spot) → IsMovedTo right down cells (length cells) moved → StaysInRange right down cells
stays_all right down cells moved is c here = subst (λ v. (v.x + right < 64) × (v.y + down < 64)) here.2 (is.stays here.0 c here.1)

same_order : (a b n : ℕ) → nat_cmp (a + n) (b + n) ≡ nat_cmp a b
same_order a b n = grind (arith, nat_tests)

moved_order : (right down : ℕ) (a b : Spot) → spot_cmp (spot_moved right down a) (spot_moved right down b) ≡ spot_cmp a b
moved_order right down a b = λ i. ordering_then (same_order a.y b.y down i) (same_order a.x b.x right i)

pub moved_ascending : (right down : ℕ) (cells : List Spot) → IsAscending spot_cmp cells → IsAscending spot_cmp (moved_by right down cells)
moved_ascending right down cells up i j d lt le =
    let len = length-map cells (spot_moved right down) in
    rw (get_or-map (spot_moved right down) cells i d d (omega (arith, len)), get_or-map (spot_moved right down) cells j d d (omega (arith, len)))
    (moved_order right down _ _ ∙ up i j d lt (omega (arith, len)))
