-- When a tree holds.
use Rattle.std.specs.Prelude.{ℕ, Bool, true, not, ◌&&◌, ◌||◌, List, [], ◌∷◌, ◌++◌, map}
use Rattle.std.specs.List.{list_all}
use Rattle.poly_tiling.specs.Puzzle.{View}
use Rattle.poly_atom.specs.declared.atom.Atom.{Atom}
use Rattle.poly_atom.specs.declared.atom.Atom.TheVariants.{Has, Lacks}
use Rattle.poly_frame.specs.Open.{open_in, dead, arms_fit}
use Rattle.poly_report.specs.Trees.{Plan, Rests, Finds, Branches, Splits, Arms, NoArms, OneArm, heads}

-- the atoms that an arm adds: its placement `p` is taken, and the placements of the arms before it are left out
abbrev pub arm_atoms : List ℕ → ℕ → List Atom
arm_atoms before p = map (λ q. Lacks q) before ++ Has p ∷ []

abbrev mutual
  pub holds : View → List Atom → Plan → Bool
  holds v A Rests = true
  holds v A Finds = list_all (λ p. not (open_in v A p)) v.live
  holds v A (Branches i arms) = arms_fit v A i (heads arms) && arms_hold v A [] arms
  holds v A (Splits q taken left) = holds v (A ++ Lacks q ∷ []) left && (dead v A q || holds v (A ++ Has q ∷ []) taken)

  pub arms_hold : View → List Atom → List ℕ → Arms → Bool
  arms_hold v A before NoArms = true
  arms_hold v A before (OneArm p t arms) = (dead v A p || holds v (A ++ arm_atoms before p) t) && arms_hold v A (before ++ p ∷ []) arms
