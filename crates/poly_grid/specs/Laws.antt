-- What is true of the neighbours and the turns at every point of the endless grid, and of the order of cells.
use Rattle.std.specs.Prelude.{◌≡◌, ◌↔◌, ◌⊎◌, ◌<◌, ◌+◌, ◌%◌, ℕ, Bool, true, false}
use Rattle.std.specs.declared.cmp.Ordering.{Ordering}
use Rattle.std.specs.declared.cmp.Ordering.TheVariants.{Less, Equal}
use Rattle.poly_grid.specs.contracts.cell.CellOrd.TheImpl as cell_ord
use Rattle.poly_grid.specs.declared.grid.Grid.{Grid}
use Rattle.poly_grid.specs.declared.grid.Point.{Point}
use Rattle.poly_grid.specs.Grid.{AreNeighbours, turn_count, turned_of}
use Rattle.poly_grid.specs.Spot.{Spot}

-- the first turn, followed by the second, is the turn `both`
abbrev pub IsComposite : Grid → ℕ → ℕ → ℕ → Type 0
IsComposite g first second both = (p : Point) → turned_of g second (turned_of g first p) ≡ turned_of g both p

-- turn 0 leaves each point where it is
abbrev pub FirstTurnStays : Type 0
FirstTurnStays = (g : Grid) (p : Point) → turned_of g 0 p ≡ p

-- one turn after another is a turn, and one rotation after another is a rotation
abbrev pub TurnsCompose : Type 0
TurnsCompose = (g : Grid) (mirror : Bool) (t u : ℕ) → t < turn_count g mirror → u < turn_count g mirror
    → (both : ℕ) × (both < turn_count g mirror) × IsComposite g t u both

-- each turn is undone by a turn, and each rotation by a rotation
abbrev pub TurnsAreUndone : Type 0
TurnsAreUndone = (g : Grid) (mirror : Bool) (t : ℕ) → t < turn_count g mirror
    → (u : ℕ) × (u < turn_count g mirror) × IsComposite g t u 0

-- no two turns are the same at every point
abbrev pub TurnsDiffer : Type 0
TurnsDiffer = (g : Grid) (t u : ℕ) → t < turn_count g true → u < turn_count g true
    → ((p : Point) → turned_of g t p ≡ turned_of g u p) → t ≡ u

-- a rotation followed by turn 1 is the next rotation; the last rotation followed by turn 1 is turn 0
abbrev pub RotationsArePowers : Type 0
RotationsArePowers = (g : Grid) (t : ℕ) → t < turn_count g false → IsComposite g t 1 ((t + 1) % turn_count g false)

-- the first reflection followed by rotation t is reflection t, if the reflections are counted from 0
abbrev pub ReflectionsFollow : Type 0
ReflectionsFollow = (g : Grid) (t : ℕ) → t < turn_count g false
    → IsComposite g (turn_count g false) t (turn_count g false + t)

-- each neighbour of a point has that point as a neighbour
abbrev pub NeighboursAreMutual : Type 0
NeighboursAreMutual = (g : Grid) (p q : Point) → AreNeighbours g p q → AreNeighbours g q p

-- a turn carries neighbours, and only neighbours, to neighbours
abbrev pub TurnsKeepNeighbours : Type 0
TurnsKeepNeighbours = (g : Grid) (t : ℕ) (p q : Point) → t < turn_count g true
    → (AreNeighbours g p q ↔ AreNeighbours g (turned_of g t p) (turned_of g t q))

-- the order that `Cell` has
abbrev cell_cmp : Spot → Spot → Ordering
cell_cmp = (cell_ord.ghosts).cmp

-- a's row is before b's, or the rows are the same and a's column is before b's
abbrev pub IsBefore : Spot → Spot → Type 0
IsBefore a b = (a.y < b.y) ⊎ ((a.y ≡ b.y) × (a.x < b.x))

-- cells are ordered by row, then by column, and no two different cells compare as equal
abbrev pub CellsGoByRow : Type 0
CellsGoByRow = (a b : Spot) → ((cell_cmp a b ≡ Less) ↔ IsBefore a b) × ((cell_cmp a b ≡ Equal) ↔ (a ≡ b))
