-- The orders of cells and of sets of cells, and ascending lists.
use Rattle.std.specs.Prelude.{◌≡◌, ◌↔◌, ◌⊎◌, ◌≢◌, ◌≤◌, ◌==◌, Bool, List, ◌++◌, length}
use Rattle.std.specs.declared.cmp.Ordering.{Ordering}
use Rattle.std.specs.declared.cmp.Ordering.TheVariants.{Less}
use Rattle.std.specs.List.{AllPairs, Contains}
use Rattle.std.specs.Ordering.{nat_cmp, eq_by_cmp, on, then_cmp, eq_of_both, as_partial_cmp}
use Rattle.std.specs.Cmp.Rules.{comparing}
use Rattle.std.proofs.Common.{rules, refl}
use Rattle.std.specs.Cmp.{IsTotalOrder, IsEquivalence, IsPartialOrder, partial_order_from_agreeing_total}
use Rattle.std.specs.Cmp.Lexicographic.{slice_cmp, pointwise, lists_total, lists_ties}
use Rattle.std.specs.Hash.{HashWrites, u8, slice, Alike, same_Alike, on_Alike, and-Alike, items_Alike}
use Rattle.std.proofs.lemmas.Bool.Decides.{Decides-eqb}
use Rattle.poly_grid.specs.Spot.{Spot}

-- by row, then by column
abbrev pub spot_cmp : Spot → Spot → Ordering
spot_cmp = then_cmp (on (λ s. s.y) nat_cmp) (on (λ s. s.x) nat_cmp)

abbrev pub spot_eq : Spot → Spot → Bool
spot_eq = eq_of_both (on (λ s. s.y) ◌==◌) (on (λ s. s.x) ◌==◌)

-- sets of cells are compared as the lists of their cells
abbrev pub cells_cmp : List Spot → List Spot → Ordering
cells_cmp = slice_cmp spot_cmp

-- each element is below those after it
abbrev pub IsAscending : {X : Type 0} → (X → X → Ordering) → List X → Type 0
IsAscending cmp xs = AllPairs (λ a b. cmp a b ≡ Less) xs

pub spot_total : IsTotalOrder spot_cmp
spot_total = search (comparing, rules)

pub spot_equiv : IsEquivalence spot_eq
spot_equiv = search (comparing, rules)

pub spot_ties : (x y : Spot) → spot_eq x y ≡ eq_by_cmp spot_cmp x y
spot_ties = search (comparing, rules)

pub cells_total : IsTotalOrder cells_cmp
cells_total = lists_total spot_total

pub cells_ties : (x y : List Spot) → pointwise spot_eq x y ≡ eq_by_cmp cells_cmp x y
cells_ties = lists_ties spot_cmp spot_ties

pub cells_laws : IsPartialOrder (pointwise spot_eq) (as_partial_cmp cells_cmp)
cells_laws = partial_order_from_agreeing_total cells_cmp cells_total (λ x y. refl) cells_ties

-- new has exactly what old has, and x
abbrev pub Adds : {X : Type 0} → List X → X → List X → Type 0
Adds {X} old x new = (y : X) → Contains new y ↔ (Contains old y ⊎ (x ≡ y))

-- 1 to 16 elements, none of them twice
pub record AreFewDistinct {X : Type 0} (xs : List X) : Type 0 where
  pub some : 1 ≤ length xs
  pub few : length xs ≤ 16
  pub distinct : AllPairs (λ a b. a ≢ b) xs

-- the two lists have the same elements
abbrev pub HasSame : {X : Type 0} → List X → List X → Type 0
HasSame {X} xs ys = (y : X) → Contains xs y ↔ Contains ys y

-- what a cell feeds to a hasher: its row, then its column
abbrev pub spot_writes : Spot → HashWrites
spot_writes s = u8 s.y ++ u8 s.x

-- equal sets feed a hasher alike
pub cells_alike : Alike (pointwise spot_eq) (slice spot_writes)
cells_alike = items_Alike (and-Alike (on_Alike (λ s. s.y) (same_Alike u8 Decides-eqb)) (on_Alike (λ s. s.x) (same_Alike u8 Decides-eqb)))
