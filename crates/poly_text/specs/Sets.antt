-- The set that cells make.
use Rattle.std.specs.Prelude.{◌≡◌, List, Option, Some, None, Result, Ok, Err}
use Rattle.poly_grid.specs.Spot.{Spot}
use Rattle.poly_grid.specs.declared.refusal.Refusal.{Refusal}
use Rattle.poly_grid.specs.declared.refusal.Refusal.TheVariants.{BadShape}
use Rattle.poly_shape.specs.Cells.{IsCells}
use Rattle.poly_shape.specs.Order.{AreFewDistinct, HasSame}

-- the set of the cells, or none if there are no cells, over 16 cells, or a cell twice
abbrev pub MakesSet : List Spot → Option (List Spot) → Type 0
MakesSet cells (Some set) = AreFewDistinct cells × IsCells set × HasSame set cells
MakesSet cells None = AreFewDistinct cells → ⊥

-- the set of the cells, or `BadShape` if the cells make no set
abbrev pub SetSays : List Spot → Result (List Spot) Refusal → Type 0
SetSays cells (Ok set) = MakesSet cells (Some set)
SetSays cells (Err e) = (e ≡ BadShape) × MakesSet cells None
