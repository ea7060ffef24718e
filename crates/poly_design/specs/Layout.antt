-- A design as contracts see it.
use Rattle.std.specs.Prelude.{ℕ, List, Option, unwrap_or}
use Rattle.std.specs.Map.{lookup}
use Rattle.std.specs.BTreeMap.{is_at}
use Rattle.poly_grid.specs.declared.grid.Grid.{Grid}
use Rattle.poly_grid.specs.Spot.{Spot}
use Rattle.poly_shape.specs.Order.{spot_cmp}
use Rattle.poly_design.specs.Name.{name_cmp}
use Rattle.poly_design.specs.declared.mode.Mode.{Mode}
use Rattle.poly_design.specs.declared.mode.Mode.TheVariants.{Blocked}
use Rattle.poly_design.specs.declared.spec.Spec.{Spec}

-- the grid, the unblocked cells, each with its mode, and the pieces by name; in a design both lists ascend by their keys
pub record Layout : Type 0 where
  pub grid : Grid
  pub cells : List (Spot × Mode)
  pub pieces : List (List ℕ × Spec)

-- the mode of a cell by a list of entries: a cell without an entry is blocked
abbrev pub mode_at : List (Spot × Mode) → Spot → Mode
mode_at cells c = unwrap_or (lookup (is_at (spot_cmp c)) cells) Blocked

abbrev pub mode_of : Layout → Spot → Mode
mode_of d c = mode_at d.cells c

-- the piece of a name, if there is one
abbrev pub spec_of : Layout → List ℕ → Option Spec
spec_of d name = lookup (is_at (name_cmp name)) d.pieces
