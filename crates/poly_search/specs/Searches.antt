-- What a search of a task finds.
use Rattle.std.specs.Prelude.{◌≡◌, ℕ, ◌≤◌, List, false, true}
use Rattle.poly_atom.specs.declared.atom.Atom.{Atom}
use Rattle.poly_tiling.specs.Puzzle.{View}
use Rattle.poly_report.specs.Trees.{Plan}
use Rattle.poly_report.specs.Holds.{holds}
use Rattle.poly_report.specs.Leaves.{rests, tilings}
use Rattle.poly_report.specs.Opened.{opened}
use Rattle.poly_report.specs.Sizes.{all_fewer, fits, inner, is_rest}

-- The tree fits and holds for the atoms, and takes and leaves out only open placements. It has at most `nodes` nodes that aren't
-- Rest, its root isn't Rest, and each of its rests has fewer open placements than the atoms. The tilings and the rests are its
-- leaves.
pub record IsExplored (v : View) (A : List Atom) (nodes : ℕ) (t : Plan) (found : List (List ℕ)) (left : List (List Atom)) : Type 0 where
  pub fits : fits t ≡ true
  pub holds : holds v A t ≡ true
  pub opened : opened v A t ≡ true
  pub inner : inner t ≤ nodes
  pub root : is_rest t ≡ false
  pub smaller : all_fewer v A (rests v A t) ≡ true
  pub tilings : found ≡ tilings v A t
  pub rests : left ≡ rests v A t
