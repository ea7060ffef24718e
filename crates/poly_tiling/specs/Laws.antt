-- What is proved of tilings and their numbers.
use Rattle.std.specs.Prelude.{List, true, ℕ, ◌↔◌, ◌≡◌}
use Rattle.poly_shape.specs.Order.{HasSame}
use Rattle.poly_design.specs.Layout.{Layout}
use Rattle.poly_design.specs.declared.placement.Placement.{Placement}
use Rattle.poly_tiling.specs.Lists.{ascending}
use Rattle.poly_tiling.specs.Puzzle.{View, is_tiling}
use Rattle.poly_tiling.specs.Names.{Grown, Names, WellNamed}
use Rattle.poly_tiling.specs.Tilings.{IsTiling}
use Rattle.poly_tiling.specs.Shows.{Shows, given, names}

-- Assigning new numbers doesn't change whether a list is a tiling.
abbrev pub NumbersMayGrow : Type 0
NumbersMayGrow = (v w : View) (T : List ℕ) → WellNamed v → Grown v w → is_tiling w T ≡ is_tiling v T

-- If a view shows a design, an ascending list of numbers that name placements is a tiling of the view exactly if the
-- placements that it names are a tiling of the design.
abbrev pub NumbersShow : Type 0
NumbersShow = (v : View) (d : Layout) (T : List ℕ) → WellNamed v → Shows v d → ascending T ≡ true → given v T ≡ true →
    (is_tiling v T ≡ true) ↔ IsTiling d (names v T)

-- the only ascending list of numbers that names exactly these placements
pub record IsNumbered (v : View) (S : List Placement) (T : List ℕ) : Type 0 where
  pub ascends : ascending T ≡ true
  pub given_out : given v T ≡ true
  pub same : HasSame (names v T) S
  pub only : (U : List ℕ) → ascending U ≡ true → given v U ≡ true → HasSame (names v U) S → U ≡ T

-- If a view shows a design, each tiling of the design, as a set, is named by exactly one ascending list of numbers, and
-- this list is a tiling of the view.
abbrev pub NumbersReach : Type 0
NumbersReach = (v : View) (d : Layout) (S : List Placement) → WellNamed v → Shows v d → IsTiling d S →
    (T : List ℕ) × (is_tiling v T ≡ true) × IsNumbered v S T

-- If two views show the same design, and the later one names what the earlier one names, by the same numbers, then the later
-- view is the earlier one, perhaps with more numbers.
abbrev pub SameDesignGrows : Type 0
SameDesignGrows = (v w : View) (d : Layout) → WellNamed v → WellNamed w → Shows v d → Shows w d → Names v w → Grown v w
