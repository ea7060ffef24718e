-- What contracts see of a tree of the program.
use Rattle.std.specs.Prelude.{List, [], ◌∷◌}
use Rattle.poly_report.specs.declared.tree.Arm.{Arm}
use Rattle.poly_report.specs.declared.tree.Tree.{Tree, Rest, Found, Branch', Split', Row_of-Arm, end_of-Arm, more_of-Arm}
use Rattle.poly_report.specs.Trees.{Plan, Rests, Finds, Branches, Splits, Arms, NoArms, OneArm}

abbrev mutual
  pub plan_of : Tree → Plan
  plan_of Rest = Rests
  plan_of Found = Finds
  plan_of (Branch' item shape row) = Branches item (arms_of row)
  plan_of (Split' n p taken q left) = Splits n (plan_of taken) (plan_of left)

  pub arms_of : {m : _} → Row_of-Arm m → Arms
  arms_of end_of-Arm = NoArms
  arms_of (more_of-Arm p t rest) = OneArm p (plan_of t) (arms_of rest)

abbrev pub arms_list : List Arm → Arms
arms_list [] = NoArms
arms_list (a ∷ as') = OneArm a.placement (plan_of a.tree) (arms_list as')
