-- The order of tilings, which are compared as the lists of their placements in placement order.
use Rattle.std.specs.Cmp.Lexicographic.{slice_cmp}
use Rattle.std.specs.List.{filter}
use Rattle.std.specs.Ordering.{nat_cmp}
use Rattle.std.specs.Option.{option_flatten}
use Rattle.std.specs.Prelude.{List, Option, Some, cond, slice_get, ℕ, [], ◌+◌, ◌↔◌, ◌∷◌, ◌≡◌}
use Rattle.std.specs.declared.cmp.Ordering.{Ordering}
use Rattle.poly_design.specs.declared.placement.Placement.{Placement}
use Rattle.poly_tiling.specs.Lists.{mem}
use Rattle.poly_tiling.specs.Puzzle.{View}
use Rattle.poly_tiling.specs.Names.{WellNamed, placement_cmp}
use Rattle.poly_tiling.specs.Shows.{names}

-- the placements of the tiling in placement order, which is also the order of the live numbers
abbrev pub placed : View → List ℕ → List Placement
placed v T = names v (filter (λ n. mem T n) v.live)

abbrev pub tiling_cmp : View → List ℕ → List ℕ → Ordering
tiling_cmp v A B = slice_cmp placement_cmp (placed v A) (placed v B)

-- the positions of the list's numbers that T has too; the first number of the list is at position `first`
abbrev pub ranks_from : ℕ → List ℕ → List ℕ → List ℕ
ranks_from first [] T = []
ranks_from first (n ∷ numbers) T = cond (mem T n) (first ∷ ranks_from (first + 1) numbers T) (ranks_from (first + 1) numbers T)

-- Two tilings compare as the ascending lists of the positions that their numbers have among the live numbers.
abbrev pub RanksCompare : Type 0
RanksCompare = (v : View) (A B : List ℕ) → WellNamed v → slice_cmp nat_cmp (ranks_from 0 v.live A) (ranks_from 0 v.live B) ≡ tiling_cmp v A B

-- the table has the position of each number among the live ones, and no other position
abbrev pub ArePositions : List ℕ → List (Option ℕ) → Type 0
ArePositions live table = (n k : ℕ) → (slice_get table n ≡ Some (Some k)) ↔ (slice_get live k ≡ Some n)

abbrev pub position_at : List (Option ℕ) → ℕ → Option ℕ
position_at table n = option_flatten (slice_get table n)
