-- The paths of a tree's rests: what follows the given atoms in each rest. `g` is the number of the given atoms.
use Rattle.std.specs.Prelude.{ℕ, cond, drop, List, [], ◌∷◌, ◌++◌}
use Rattle.poly_tiling.specs.Puzzle.{View}
use Rattle.poly_atom.specs.declared.atom.Atom.{Atom}
use Rattle.poly_atom.specs.declared.atom.Atom.TheVariants.{Has, Lacks}
use Rattle.poly_report.specs.Trees.{Plan, Rests, Finds, Branches, Splits, Arms, NoArms, OneArm}
use Rattle.poly_frame.specs.Open.{dead}
use Rattle.poly_report.specs.Holds.{arm_atoms}

abbrev mutual
  pub paths : ℕ → View → List Atom → Plan → List (List Atom)
  paths g v A Rests = drop g A ∷ []
  paths g v A Finds = []
  paths g v A (Branches i arms) = arms_paths g v A [] arms
  paths g v A (Splits q taken left) = cond (dead v A q) [] (paths g v (A ++ Has q ∷ []) taken) ++ paths g v (A ++ Lacks q ∷ []) left

  pub arms_paths : ℕ → View → List Atom → List ℕ → Arms → List (List Atom)
  arms_paths g v A before NoArms = []
  arms_paths g v A before (OneArm p t arms) = cond (dead v A p) [] (paths g v (A ++ arm_atoms before p) t) ++ arms_paths g v A (before ++ p ∷ []) arms
