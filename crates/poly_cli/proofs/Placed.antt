-- The placements that the numbers of a tiling name, put in order.
use Rattle.std.proofs.Common.{◌≡◌, ◌≢◌, ℕ, Bool, true, false, List, refl, sym, ◌∙◌, ap, arith, get_or, true≢false}
use Rattle.std.specs.declared.cmp.Ordering.{Ordering}
use Rattle.std.specs.declared.cmp.Ordering.TheVariants.{Less, Equal, Greater}
use Rattle.std.specs.Ordering.{is_lt, ordering_reverse}
use Rattle.std.specs.Cmp.{IsTotalOrder}
use Rattle.std.specs.List.{AllPairs, Contains, filter}
use Rattle.std.specs.List.Sorted.{IsPermutation, IsSorted}
use Rattle.std.proofs.lemmas.List.MinMax.{ranks_by}
use Rattle.std.proofs.lemmas.List.Sorted.{sorted_far, Contains-permutation, IsPermutation-sym}
use Rattle.std.proofs.lemmas.Map.Keys.{IsDistinct-IsPermutation}
use Rattle.std.proofs.lemmas.Map.Made.{AllPairs-from_IsDistinct, IsDistinct-from_AllPairs}
use Rattle.poly_shape.specs.Order.{IsAscending}
use Rattle.poly_shape.proofs.Ascending.{same_ascending}
use Rattle.poly_design.specs.PlacementOrder.{placement_cmp, placement_total}
use Rattle.poly_design.specs.declared.placement.Placement.{Placement}
use Rattle.poly_design.proofs.Outside.{same_placement}
use Rattle.poly_design.proofs.Same.{placement_test, placement_decides}
use Rattle.poly_tiling.specs.Lists.{mem}
use Rattle.poly_tiling.specs.Puzzle.{View}
use Rattle.poly_tiling.specs.Shows.{names}
use Rattle.poly_tiling.specs.TilingOrder.{placed}
use Rattle.poly_tiling.proofs.Lists.{filter_in, in_filter, in_mem, mem_in}
use Rattle.poly_tiling.proofs.Contained.{contains_in, in_contains}
use Rattle.poly_tiling.proofs.Shown.{in_names, names_in}
use Rattle.poly_tiling.proofs.Tilings.{parts}
use Rattle.poly_cli.specs.Listings.{IsPrintable}

-- a sorted list in which no two are the same ascends
ascending_from : {X : Type 0} {R : X → X → Ordering} (o : IsTotalOrder R) → ((x y : X) → R x y ≡ Equal → x ≡ y) → (xs : List X) → IsSorted R xs → AllPairs (λ x y. x ≢ y) xs → IsAscending R xs
ascending_from {X} {R} o exact xs sorted differ i j d lt le = go (R (get_or xs i d) (get_or xs j d)) refl
  where
    go : (c : Ordering) → R (get_or xs i d) (get_or xs j d) ≡ c → R (get_or xs i d) (get_or xs j d) ≡ Less
    go Less e = e
    go Equal e = absurd (differ i j d lt le (exact _ _ e))
    go Greater e =
        let back : is_lt (R (get_or xs j d) (get_or xs i d)) ≡ true = ap is_lt (o.antisymm (get_or xs j d) (get_or xs i d) ∙ ap ordering_reverse e) in
        absurd (true≢false (sym back ∙ sorted_far (λ x y. is_lt (R x y)) (ranks_by o (λ x. x)) xs sorted i j d (omega (arith, lt)) le))

same_either : (p q : Placement) → placement_test p q ≡ placement_test q p
same_either p q = go (placement_test p q) (placement_test q p) refl refl
  where
    go : (a b : Bool) → placement_test p q ≡ a → placement_test q p ≡ b → placement_test p q ≡ placement_test q p
    go true b e f = e ∙ sym ((placement_decides q p).1 (sym ((placement_decides p q).0 e)))
    go false true e f = (placement_decides p q).1 (sym ((placement_decides q p).0 f)) ∙ sym f
    go false false e f = e ∙ sym f

differ_moved : (ps qs : List Placement) → IsPermutation ps qs → AllPairs (λ x y. x ≢ y) ps → AllPairs (λ x y. x ≢ y) qs
differ_moved ps qs moved differ = AllPairs-from_IsDistinct placement_decides qs (IsDistinct-IsPermutation placement_test same_either ps qs moved (IsDistinct-from_AllPairs placement_decides ps differ))

-- the placements of a tiling, sorted, are its placements in placement order
pub sorted_is_placed : (v : View) (T : List ℕ) (S : List Placement) → IsPrintable v T → IsPermutation (names v T) S → IsSorted placement_cmp S → S ≡ placed v T
sorted_is_placed v T S h moved sorted = same_ascending placement_total S (placed v T) (ascending_from placement_total same_placement S sorted (differ_moved (names v T) S moved h.differ)) h.ascends to from
  where
    live : List ℕ
    live = filter (λ n. mem T n) v.live

    to : (p : Placement) → Contains S p → Contains (placed v T) p
    to p here =
        let n = names_in v T p (contains_in (names v T) p (Contains-permutation S (names v T) p (IsPermutation-sym (names v T) S moved) here)) in
        in_contains (placed v T) p (in_names v live n.0 p (in_filter (λ n. mem T n) v.live n.0 ((parts v T h.tiling).placed n.0 n.1) (in_mem T n.0 n.1)) n.2)

    from : (p : Placement) → Contains (placed v T) p → Contains S p
    from p here =
        let n = names_in v live p (contains_in (placed v T) p here) in
        Contains-permutation (names v T) S p moved (in_contains (names v T) p (in_names v T n.0 p (mem_in T n.0 (filter_in (λ n. mem T n) v.live n.0 n.1).1) n.2))
