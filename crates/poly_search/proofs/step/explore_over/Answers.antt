use Rattle.std.proofs.lemmas.Result.{IfOk-weaker}
use Rattle.poly_search.proofs.step.explore_over.Goals as goal

pub returns-clause-fits : goal.returns-clause-fits
returns-clause-fits c = IfOk-weaker c.explore_tree-explored.result _ _ (λ x e. e.fits) c.explore_tree-explored.ensures.tree

pub returns-clause-holds : goal.returns-clause-holds
returns-clause-holds c = IfOk-weaker c.explore_tree-explored.result _ _ (λ x e. e.holds) c.explore_tree-explored.ensures.tree

pub returns-clause-opened : goal.returns-clause-opened
returns-clause-opened c = IfOk-weaker c.explore_tree-explored.result _ _ (λ x e. e.opened) c.explore_tree-explored.ensures.tree

pub returns-clause-inner : goal.returns-clause-inner
returns-clause-inner c = IfOk-weaker c.explore_tree-explored.result _ _ (λ x e. e.inner) c.explore_tree-explored.ensures.tree

pub returns-clause-root : goal.returns-clause-root
returns-clause-root c = IfOk-weaker c.explore_tree-explored.result _ _ (λ x e. e.root) c.explore_tree-explored.ensures.tree

pub returns-clause-smaller : goal.returns-clause-smaller
returns-clause-smaller c = IfOk-weaker c.explore_tree-explored.result _ _ (λ x e. e.smaller) c.explore_tree-explored.ensures.tree

pub returns-clause-tilings : goal.returns-clause-tilings
returns-clause-tilings c = IfOk-weaker c.explore_tree-explored.result _ _ (λ x e. e.tilings) c.explore_tree-explored.ensures.tree

pub returns-clause-rests : goal.returns-clause-rests
returns-clause-rests c = IfOk-weaker c.explore_tree-explored.result _ _ (λ x e. e.rests) c.explore_tree-explored.ensures.tree

pub returns-clause-why : goal.returns-clause-why
returns-clause-why c = c.explore_tree-explored.ensures.why

pub explore_tree-explored-requires : goal.explore_tree-explored-requires
explore_tree-explored-requires c = record { whole = c.requires.whole; some = c.requires.some; few = c.requires.few }
