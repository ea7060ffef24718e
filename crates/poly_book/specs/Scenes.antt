-- The matrices of a view.
use Rattle.std.specs.Prelude.{List, MatchOption, Option}
use Rattle.std.specs.List.{All}
use Rattle.poly_frame.specs.FrameTable.{HasOpen}
use Rattle.poly_frame.specs.Matrices.{IsMatrix, IsWhole}
use Rattle.poly_frame.specs.declared.frame.matrix.Matrix.{Matrix}
use Rattle.poly_tiling.specs.Puzzle.{View}
use Rattle.poly_book.specs.declared.narrowed.Narrowed.{Narrowed}

-- if a matrix was made, it is that of the view
abbrev pub IsMatrixOf : View → Option Matrix → Type 0
IsMatrixOf v o = MatchOption o (Unit {0}) (λ m. IsWhole v m)

-- the matrix of some atoms has a column for each placement that is open at them
abbrev pub IsNarrowed : View → Narrowed → Type 0
IsNarrowed v n = IsMatrix v n.matrix × HasOpen v n.atoms.items n.matrix

abbrev pub AreNarrowed : View → List Narrowed → Type 0
AreNarrowed v ns = All (IsNarrowed v) ns
