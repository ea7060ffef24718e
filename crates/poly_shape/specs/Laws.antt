-- Laws that the definition of orientations meets.
use Rattle.std.specs.Prelude.{◌≡◌, ℕ, Bool, true, false, List}
use Rattle.std.specs.List.{Contains}
use Rattle.poly_grid.specs.Spot.{Spot}
use Rattle.poly_shape.specs.Figure.{Figure}
use Rattle.poly_shape.specs.Moves.{moved_by}
use Rattle.poly_shape.specs.Shape.{IsNormal, AreOrientations}
use Rattle.poly_shape.specs.Shapes.{IsShape}

-- a shape is one of its own orientations
abbrev pub ShapesAreTheirOrientations : Type 0
ShapesAreTheirOrientations = (s : Figure) (mirror : Bool) (list : List (List Spot)) → IsShape s → AreOrientations s mirror list → Contains list s.cells

-- an orientation by rotations alone is one of the orientations by all turns
abbrev pub RotationsAreAmongAll : Type 0
RotationsAreAmongAll = (s : Figure) (rotations all : List (List Spot)) → AreOrientations s false rotations → AreOrientations s true all
    → (image : List Spot) → Contains rotations image → Contains all image

-- no two different lists are the orientations of one shape with the same mirror
abbrev pub OrientationsAreOneList : Type 0
OrientationsAreOneList = (s : Figure) (mirror : Bool) (a b : List (List Spot)) → AreOrientations s mirror a → AreOrientations s mirror b → a ≡ b

-- a translate of cells at their normal position determines these cells, and how far they were moved
abbrev pub TranslatesTellTheNormalPlace : Type 0
TranslatesTellTheNormalPlace = (a b : List Spot) (right down right' down' : ℕ) → IsNormal a → IsNormal b → moved_by right down a ≡ moved_by right' down' b
    → (a ≡ b) × (right ≡ right') × (down ≡ down')

-- with the same mirror throughout, each orientation of a shape has the same list of orientations as the shape
abbrev pub OrientationsAreShared : Type 0
OrientationsAreShared = (s : Figure) (mirror : Bool) (list other : List (List Spot)) (image : List Spot) → IsShape s → AreOrientations s mirror list → Contains list image
    → AreOrientations (record { grid = s.grid; cells = image }) mirror other → other ≡ list
