-- The placements of a design, as a set.
use Rattle.std.specs.Prelude.{◌≡◌, ◌≢◌, ℕ, ◌<◌, ◌≤◌, List, length, Option, Some}
use Rattle.std.specs.List.{Contains}
use Rattle.poly_grid.specs.Spot.{Spot}
use Rattle.poly_grid.specs.Grid.{turn_count}
use Rattle.poly_shape.specs.Order.{IsAscending}
use Rattle.poly_shape.specs.Moves.{StaysInRange, moved_by}
use Rattle.poly_shape.specs.Shape.{IsImage}
use Rattle.poly_design.specs.declared.listing.TheConstants.{MAX_PLACEMENTS}
use Rattle.poly_design.specs.declared.mode.Mode.TheVariants.{Blocked}
use Rattle.poly_design.specs.declared.spec.Spec.{Spec}
use Rattle.poly_design.specs.declared.placement.Placement.{Placement}
use Rattle.poly_design.specs.Layout.{Layout, mode_of}
use Rattle.poly_design.specs.PlacementOrder.{placement_cmp}

-- the cells are the image moved right and down within the range; each of them is free, and together they are not forbidden
pub record IsMovedTo (IsFree : Spot → Type 0) (forbidden : List (List Spot)) (image : List Spot) (right down : ℕ) (cells : List Spot) : Type 0 where
  pub in_range : StaysInRange right down image
  pub moved : cells ≡ moved_by right down image
  pub free : (c : Spot) → Contains cells c → IsFree c
  pub allowed : ¬ Contains forbidden cells

-- the piece can lie on the cells: they are an orientation of its shape, moved, all of them are free, and they aren't forbidden
pub record IsPlace (IsFree : Spot → Type 0) (spec : Spec) (cells : List Spot) : Type 0 where
  pub turn : ℕ
  pub image : List Spot
  pub right : ℕ
  pub down : ℕ
  pub known : turn < turn_count spec.shape.grid spec.mirror
  pub turned : IsImage spec.shape.grid turn spec.shape.cells image
  pub lies : IsMovedTo IsFree spec.forbidden image right down cells

abbrev pub IsUnblocked : Layout → Spot → Type 0
IsUnblocked d c = mode_of d c ≢ Blocked

-- the design has a piece of the placement's name, and this piece can lie on the placement's cells
pub record IsPlacement (d : Layout) (p : Placement) : Type 0 where
  pub spec : Spec
  pub has : Contains d.pieces (p.name, spec)
  pub place : IsPlace (IsUnblocked d) spec p.cells

-- p is a placement of the piece of this name; a piece that is missing has none
abbrev pub IsOfPiece : (Spot → Type 0) → List ℕ → Option Spec → Placement → Type 0
IsOfPiece IsFree name spec p = (p.name ≡ name) × ((s : Spec) × (spec ≡ Some s) × IsPlace IsFree s p.cells)

-- there are at most 20,000 placements: no list of different ones is longer
abbrev pub FewPlacements : Layout → Type 0
FewPlacements d = (list : List Placement) → IsAscending placement_cmp list → ((p : Placement) → Contains list p → IsPlacement d p) → length list ≤ MAX_PLACEMENTS
