use Rattle.std.proofs.Common.{◌≡◌, ◌++◌, ◌∷◌, [], ap, sym, refl, ◌∙◌}
use Rattle.poly_report.specs.Shapes.{plan_of, arms_list}
use Rattle.poly_search.specs.Chains.{chain}
use Rattle.poly_search.proofs.Links.{chain_last}
use Rattle.poly_search.proofs.growth.link.Goals as goal

pub loop-arm-preserved : goal.loop-arm-preserved
loop-arm-preserved c =
    let front = c.pop.new.self.items in
    let arm = c.in-Some.arm in
    let last : c.loop-arm.arms.items ≡ front ++ arm ∷ [] = c.in-Some.ensures.items in
    ap (λ t. chain (arms_list front) t) c.in_ok-tree.ensures.tree
    ∙ sym (chain_last front arm.placement (plan_of arm.tree) arm (plan_of c.loop-arm.tree) refl refl)
    ∙ ap (λ xs. chain (arms_list xs) (plan_of c.loop-arm.tree)) (sym last)
    ∙ c.loop-arm.invariant
