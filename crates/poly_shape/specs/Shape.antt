-- The orientations of a shape: its images under the rotations, and with mirror under the reflections too, each moved to its
-- normal position.
use Rattle.std.specs.Prelude.{◌≡◌, ℕ, pos, ◌+ℤ◌, ◌<◌, Bool, List}
use Rattle.std.specs.List.{Contains}
use Rattle.poly_grid.specs.declared.grid.Grid.{Grid}
use Rattle.poly_grid.specs.declared.grid.Point.{Point}
use Rattle.poly_grid.specs.Spot.{Spot}
use Rattle.poly_grid.specs.Grid.{turned_of, turn_count}
use Rattle.poly_shape.specs.Order.{IsAscending, spot_cmp, cells_cmp}
use Rattle.poly_shape.specs.Figure.{Figure}

abbrev pub point_of : Spot → Point
point_of s = record { x = pos s.x; y = pos s.y }

-- the least column and the least row are 0
pub record IsNormal (cells : List Spot) : Type 0 where
  pub left : (c : Spot) × Contains cells c × (c.x ≡ 0)
  pub top : (c : Spot) × Contains cells c × (c.y ≡ 0)

-- the turn takes the cell a to the point that is b moved by a shift
abbrev pub LiesAt : Grid → ℕ → Point → Spot → Spot → Type 0
LiesAt g t shift a b = turned_of g t (point_of a) ≡ record { x = pos b.x +ℤ shift.x; y = pos b.y +ℤ shift.y }

-- image has the turned cells, moved to their normal position, in ascending order
pub record IsImage (g : Grid) (t : ℕ) (cells image : List Spot) : Type 0 where
  pub shift : Point
  pub ascending : IsAscending spot_cmp image
  pub normal : IsNormal image
  pub only : (b : Spot) → Contains image b → (a : Spot) × Contains cells a × LiesAt g t shift a b
  pub all : (a : Spot) → Contains cells a → (b : Spot) × Contains image b × LiesAt g t shift a b

-- the list ascends, and has exactly the images under the rotations, and with mirror under the reflections too
pub record AreOrientations (s : Figure) (mirror : Bool) (list : List (List Spot)) : Type 0 where
  pub ascending : IsAscending cells_cmp list
  pub only : (image : List Spot) → Contains list image → (t : ℕ) × (t < turn_count s.grid mirror) × IsImage s.grid t s.cells image
  pub all : (t : ℕ) (image : List Spot) → t < turn_count s.grid mirror → IsImage s.grid t s.cells image → Contains list image
