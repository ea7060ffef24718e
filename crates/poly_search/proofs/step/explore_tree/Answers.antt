use Rattle.std.proofs.Common.{ap, refl, subst, sym, ◌∙◌}
use Rattle.poly_tiling.specs.Lists.{mem}
use Rattle.poly_search.specs.Searches.{IsExplored}
use Rattle.poly_search.proofs.step.explore_tree.Goals as goal

pub returns-clause-tree : goal.returns-clause-tree
returns-clause-tree c =
    let e = c.in_ok-explored.explored in
    let g = c.in_ok-explored.ensures.tree in
    subst (λ t. IsExplored c.args.view.now c.args.atoms.now c.args.nodes t e.leaves.tilings.items e.leaves.rests) (sym (g.1 refl)) g.2

pub explore_within-requires : goal.explore_within-requires
explore_within-requires c =
    let r = c.requires in
    record { whole = r.whole; part = r.whole.part; all = λ q live is_open. ap (λ xs. mem xs q) r.whole.all ∙ live; some = r.some; few = r.few }
