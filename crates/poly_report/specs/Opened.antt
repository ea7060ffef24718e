-- Trees that take and leave only open placements of the design, like the trees that `explore` grows. The placement of an arm
-- is open once the placements of the earlier arms are left out.
use Rattle.std.specs.Prelude.{Bool, List, [], cond, map, not, true, ℕ, ◌&&◌, ◌++◌, ◌∷◌}
use Rattle.std.specs.List.{list_all}
use Rattle.poly_tiling.specs.Lists.{mem}
use Rattle.poly_tiling.specs.Puzzle.{View}
use Rattle.poly_atom.specs.declared.atom.Atom.{Atom}
use Rattle.poly_atom.specs.declared.atom.Atom.TheVariants.{Has, Lacks}
use Rattle.poly_atom.specs.Hopeless.{hopeless}
use Rattle.poly_frame.specs.Open.{open_in}
use Rattle.poly_report.specs.Trees.{Arms, Branches, Finds, NoArms, OneArm, Plan, Rests, Splits}
use Rattle.poly_report.specs.Holds.{arm_atoms}

-- a placement of the design that is open
abbrev pub can_take : View → List Atom → ℕ → Bool
can_take v A p = mem v.live p && open_in v A p

abbrev mutual
  pub opened : View → List Atom → Plan → Bool
  opened v A Rests = true
  opened v A Finds = true
  opened v A (Branches i arms) = arms_opened v A [] arms
  opened v A (Splits q taken left) = can_take v A q && (opened v (A ++ Has q ∷ []) taken && opened v (A ++ Lacks q ∷ []) left)

  pub arms_opened : View → List Atom → List ℕ → Arms → Bool
  arms_opened v A before NoArms = true
  arms_opened v A before (OneArm p t arms) = can_take v (A ++ map (λ q. Lacks q) before) p && (opened v (A ++ arm_atoms before p) t && arms_opened v A (before ++ p ∷ []) arms)

-- each of the lists is hopeless exactly if `A` is
abbrev pub as_hopeless : View → List Atom → List (List Atom) → Bool
as_hopeless v A Bs = list_all (λ B. cond (hopeless v A) (hopeless v B) (not (hopeless v B))) Bs
