-- The plan of a Branch, by the elements of its vector of arms.
use Rattle.std.proofs.Common.{Global, Vec, ap, refl, ◌∙◌, ◌≡◌}
use mathlib.Core.Former.{Count}
use Rattle.poly_tiling.specs.declared.item.Item.{Item}
use Rattle.poly_report.specs.Trees.{Branches, OneArm}
use Rattle.poly_report.specs.declared.tree.Arm.{Arm}
use Rattle.poly_report.specs.declared.tree.Tree.{Branch, Branch', Row_of-Arm, Tree, end_of-Arm, items-the_row-Arm, items_hidden-the_row-Arm-0, more_of-Arm}
use Rattle.poly_report.specs.Shapes.{arms_list, arms_of, plan_of}

abbrev row_of : Tree → (n : Count) × Row_of-Arm n
row_of (Branch' i _ row) = (_, row)
row_of _ = (_, end_of-Arm)

arms_of_row : (n : _) (row : Row_of-Arm n) → arms_of row ≡ arms_list (items-the_row-Arm n row)
arms_of_row n end_of-Arm = refl
arms_of_row n (more_of-Arm p t rest) = ap (OneArm p (plan_of t)) (arms_of_row _ rest)

pub plan_of-Branch : (i : Item) (arms : Vec Arm Global) → plan_of (Branch i arms) ≡ Branches i (arms_list arms.items)
plan_of-Branch i arms = let row = row_of (Branch i arms) in ap (Branches i) (arms_of_row row.0 row.1 ∙ ap arms_list (items_hidden-the_row-Arm-0 arms))
