-- What a worker explored last.
use Rattle.std.specs.Prelude.{ℕ}
use Rattle.poly_tiling.specs.Puzzle.{View}

-- the design at an edition, by numbers
pub record Seen : Type 0 where
  pub edition : ℕ
  pub view : View
