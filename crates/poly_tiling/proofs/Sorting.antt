-- Sorting numbers and then removing repeats gives an ascending list with the same members.
use Rattle.std.proofs.Common.{List, [], eqb, refl, true, ℕ, ◌<◌, ◌∷◌, ◌≡◌}
use Rattle.std.proofs.lemmas.List.Filters.{dedup_is}
use Rattle.std.proofs.lemmas.List.Kept.{AllPairs-from_increasing, Contains-dedup_nat, Contains-from_dedup}
use Rattle.std.proofs.lemmas.List.Sorted.{Contains-permutation, IsPermutation-sym}
use Rattle.std.proofs.lemmas.Map.Keys.{IsStrictlyIncreasing-dedup}
use Rattle.std.specs.List.{AllPairs, dedup}
use Rattle.std.specs.List.Retain.{DiffersFromLast, IsFiltered}
use Rattle.std.specs.List.Sorted.{IsPermutation, IsSorted}
use Rattle.std.specs.Ordering.{nat_cmp}
use Rattle.poly_tiling.specs.Lists.{ascending, mem}
use Rattle.poly_tiling.proofs.Lists.{in_mem, mem_in, same_truth}
use Rattle.poly_tiling.proofs.Ascending.{ascending_from}
use Rattle.poly_tiling.proofs.Contained.{contains_in, in_contains, pairs_head, pairs_rest}

pub pairs_ascend : (xs : List ℕ) → AllPairs (λ x y. x < y) xs → ascending xs ≡ true
pairs_ascend [] h = refl
pairs_ascend (x ∷ xs) h = ascending_from x xs (λ y i. pairs_head (λ x y. x < y) x xs h y i) (pairs_ascend xs (pairs_rest (λ x y. x < y) x xs h))

pub sorted_ascend : (sorted out : List ℕ) → IsSorted nat_cmp sorted → IsFiltered (DiffersFromLast eqb) [] sorted out → ascending out ≡ true
sorted_ascend sorted out up kept = rw (dedup_is eqb sorted out kept) (pairs_ascend (dedup eqb sorted) (AllPairs-from_increasing (dedup eqb sorted) (IsStrictlyIncreasing-dedup sorted up)))

pub sorted_same : (xs sorted out : List ℕ) → IsPermutation xs sorted → IsFiltered (DiffersFromLast eqb) [] sorted out → (n : ℕ) → mem out n ≡ mem xs n
sorted_same xs sorted out moved kept n =
    let e = dedup_is eqb sorted out kept in
    rw e (same_truth _ _
    (λ h. in_mem xs n (contains_in xs n (Contains-permutation sorted xs n (IsPermutation-sym xs sorted moved) (Contains-from_dedup eqb sorted n (in_contains (dedup eqb sorted) n (mem_in (dedup eqb sorted) n h))))))
    (λ h. in_mem (dedup eqb sorted) n (contains_in (dedup eqb sorted) n (Contains-dedup_nat sorted n (Contains-permutation xs sorted n moved (in_contains xs n (mem_in xs n h)))))))
