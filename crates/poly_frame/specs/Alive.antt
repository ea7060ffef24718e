-- What a frame keeps to tell which placements are dead.
use Rattle.std.specs.Prelude.{List, length, not, take, ℕ, ◌<◌, ◌≡◌, ◌≤◌}
use Rattle.poly_tiling.specs.Puzzle.{View}
use Rattle.poly_atom.specs.declared.atom.Atom.{Atom}
use Rattle.poly_frame.specs.Bits.{has_bit}
use Rattle.poly_frame.specs.Open.{dead}
use Rattle.poly_frame.specs.declared.frame.node.Node.{Node}

-- either there are no bits, or the bit of each number is set exactly if the number isn't dead at the first `given` atoms
pub record AliveShows (v : View) (A : List Atom) (given : ℕ) (alive : List ℕ) : Type 0 where
  pub low : given ≤ length A
  pub bits : 0 < length alive → (p : ℕ) → has_bit alive p ≡ not (dead v (take given A) p)

-- the bits of the node are right for its given atoms
abbrev pub KnowsDead : Node → Type 0
KnowsDead n = AliveShows n.view.now n.trail.now n.given n.alive.now
