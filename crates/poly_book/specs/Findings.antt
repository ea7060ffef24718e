-- What a search found.
use Rattle.std.specs.Prelude.{List, Some, true, ℕ, ◌≡◌}
use Rattle.poly_tiling.specs.Puzzle.{View}
use Rattle.poly_atom.specs.declared.atom.Atom.{Atom}
use Rattle.poly_report.specs.Gather.{IsCutUp}
use Rattle.poly_report.specs.Opened.{opened}
use Rattle.poly_report.specs.Sizes.{fits}
use Rattle.poly_report.specs.Trees.{Plan}
use Rattle.poly_tasks.specs.Tasks.{Task, atoms_of, find_task}

-- the tree fits and holds for the atoms, names only open placements, and the tilings and the lists are its leaves
pub record IsFound (v : View) (A : List Atom) (tree : Plan) (found : List (List ℕ)) (left : List (List Atom)) : Type 0 where
  pub small : fits tree ≡ true
  pub cut : IsCutUp v A tree found left
  pub free : opened v A tree ≡ true

-- the pending task of the number has these atoms
abbrev pub HasAtoms : List Task → ℕ → List Atom → Type 0
HasAtoms ts k A = (t : Task) × (find_task k ts ≡ Some t) × (A ≡ atoms_of t)
