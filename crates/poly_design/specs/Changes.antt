-- Changes of a design, and their inverses.
use Rattle.std.specs.Prelude.{◌≡◌, ℕ, List, Option, None, Some}
use Rattle.std.specs.Map.{remove_entry}
use Rattle.std.specs.BTreeMap.{insert_entry, is_at}
use Rattle.poly_grid.specs.Spot.{Spot}
use Rattle.poly_shape.specs.Order.{spot_cmp}
use Rattle.poly_design.specs.Name.{name_cmp}
use Rattle.poly_design.specs.declared.mode.Mode.{Mode}
use Rattle.poly_design.specs.declared.mode.Mode.TheVariants.{Required, Optional, Blocked}
use Rattle.poly_design.specs.declared.spec.Spec.{Spec}
use Rattle.poly_design.specs.declared.change.Change.{Change}
use Rattle.poly_design.specs.declared.change.Change.TheVariants.{Cell, Piece}
use Rattle.poly_design.specs.Layout.{Layout, mode_of, spec_of}

-- the entries, with that mode for the cell; a blocked cell has no entry
abbrev pub set_mode : List (Spot × Mode) → Spot → Mode → List (Spot × Mode)
set_mode cells c Required = insert_entry spot_cmp cells c Required
set_mode cells c Optional = insert_entry spot_cmp cells c Optional
set_mode cells c Blocked = remove_entry (is_at (spot_cmp c)) cells

-- the entries, with that piece under the name; without a piece the name has no entry
abbrev pub set_spec : List (List ℕ × Spec) → List ℕ → Option Spec → List (List ℕ × Spec)
set_spec pieces name None = remove_entry (is_at (name_cmp name)) pieces
set_spec pieces name (Some spec) = insert_entry name_cmp pieces name spec

-- the design with the change's after side in place of whatever was there
abbrev pub changed : Layout → Change → Layout
changed d (Cell c before after) = record { grid = d.grid; cells = set_mode d.cells c after; pieces = d.pieces }
changed d (Piece name before after) = record { grid = d.grid; cells = d.cells; pieces = set_spec d.pieces name after }

-- the change with its sides exchanged
abbrev pub inverse_of : Change → Change
inverse_of (Cell c before after) = Cell c after before
inverse_of (Piece name before after) = Piece name after before

-- the change's before side is what the design holds
abbrev pub HasBefore : Layout → Change → Type 0
HasBefore d (Cell c before after) = mode_of d c ≡ before
HasBefore d (Piece name before after) = spec_of d name ≡ before
