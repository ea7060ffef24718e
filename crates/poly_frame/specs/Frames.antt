-- What a frame keeps.
use Rattle.std.specs.Prelude.{List, reverse, ℕ, Vec, ◌+◌, ◌≡◌, ◌≤◌, length, vec_len}
use Rattle.std.specs.Global.{Global}
use Rattle.std.specs.Vec.{vec_capacity}
use Rattle.poly_tiling.specs.Puzzle.{View}
use Rattle.poly_atom.specs.declared.atom.Atom.{Atom}
use Rattle.poly_atom.specs.Hopeless.{base}
use Rattle.poly_frame.specs.Alive.{AliveShows}
use Rattle.poly_frame.specs.FrameMembers.{SizesShow}
use Rattle.poly_frame.specs.FrameConsistent.{ConsistentShows}
use Rattle.poly_frame.specs.FrameSteps.{HasRoom, StepsKeep}
use Rattle.poly_frame.specs.Layers.{PileShows}
use Rattle.poly_frame.specs.declared.frame.TheConstants.{STEPS}
use Rattle.poly_frame.specs.declared.frame.layers.Layer.{Layer}
use Rattle.poly_frame.specs.declared.frame.matrix.Matrix.{Matrix}
use Rattle.poly_frame.specs.declared.frame.table.Table.{Table}
use Rattle.poly_frame.specs.declared.frame.steps.Steps.{Steps}

-- the trail is the given atoms and at most 4,096 steps, with room for 4,096; the members are the base, with room for the pins,
-- and for one member for each given atom and each of 4,096 steps; the options have room for all placements of the design
pub record IsKept (v : View) (trail : Vec Atom Global) (given : ℕ) (members options : Vec ℕ Global) : Type 0 where
  pub begun : given ≤ vec_len trail
  pub few : vec_len trail ≤ given + STEPS
  pub steps : given + STEPS ≤ vec_capacity trail
  pub base : members.items ≡ base v trail.items
  pub room : length v.pins + (given + STEPS) ≤ vec_capacity members
  pub answers : length v.live ≤ vec_capacity options

-- the lists, the sizes, the consistent levels, the layers and the bits are right for the trail, with room for 4,096 steps
pub record IsFrame (v : View) (trail : Vec Atom Global) (given : ℕ) (members sizes : Vec ℕ Global) (consistent : ℕ) (options : Vec ℕ Global) (matrix : Matrix) (t : Table) (s : Steps) (base : ℕ) (under : List Layer) (alive : List ℕ) : Type 0 where
  pub lists : IsKept v trail given members options
  pub grown : SizesShow v trail.items given sizes.items
  pub right : ConsistentShows v trail.items given consistent
  pub changes : STEPS ≤ vec_capacity sizes
  pub levels : StepsKeep v trail.items base matrix t s
  pub room : HasRoom matrix s
  pub pile : PileShows v trail.items given base (reverse under)
  pub lives : AliveShows v trail.items given alive
