-- The leaves of a tree that holds: its tilings, and the rests that are still to be searched.
use Rattle.std.specs.Prelude.{ℕ, cond, List, [], ◌∷◌, ◌++◌}
use Rattle.poly_tiling.specs.Puzzle.{View}
use Rattle.poly_atom.specs.declared.atom.Atom.{Atom}
use Rattle.poly_atom.specs.declared.atom.Atom.TheVariants.{Has, Lacks}
use Rattle.poly_atom.specs.Hopeless.{base}
use Rattle.poly_atom.specs.Atoms.{in_family}
use Rattle.poly_report.specs.Trees.{Plan, Rests, Finds, Branches, Splits, Arms, NoArms, OneArm}
use Rattle.poly_frame.specs.Open.{dead}
use Rattle.poly_report.specs.Holds.{arm_atoms}

abbrev mutual
  pub tilings : View → List Atom → Plan → List (List ℕ)
  tilings v A Rests = []
  tilings v A Finds = cond (in_family v A (base v A)) (base v A ∷ []) []
  tilings v A (Branches i arms) = arms_tilings v A [] arms
  tilings v A (Splits q taken left) = cond (dead v A q) [] (tilings v (A ++ Has q ∷ []) taken) ++ tilings v (A ++ Lacks q ∷ []) left

  pub arms_tilings : View → List Atom → List ℕ → Arms → List (List ℕ)
  arms_tilings v A before NoArms = []
  arms_tilings v A before (OneArm p t arms) = cond (dead v A p) [] (tilings v (A ++ arm_atoms before p) t) ++ arms_tilings v A (before ++ p ∷ []) arms

abbrev mutual
  pub rests : View → List Atom → Plan → List (List Atom)
  rests v A Rests = A ∷ []
  rests v A Finds = []
  rests v A (Branches i arms) = arms_rests v A [] arms
  rests v A (Splits q taken left) = cond (dead v A q) [] (rests v (A ++ Has q ∷ []) taken) ++ rests v (A ++ Lacks q ∷ []) left

  pub arms_rests : View → List Atom → List ℕ → Arms → List (List Atom)
  arms_rests v A before NoArms = []
  arms_rests v A before (OneArm p t arms) = cond (dead v A p) [] (rests v (A ++ arm_atoms before p) t) ++ arms_rests v A (before ++ p ∷ []) arms
