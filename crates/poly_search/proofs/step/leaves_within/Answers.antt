use Rattle.poly_search.proofs.step.leaves_within.Goals as goal

pub returns-clause-tree : goal.returns-clause-tree
returns-clause-tree c =
    let g = c.in_ok-explored.ensures.tree in
    (g.0, g.2)

pub returns-clause-own : goal.returns-clause-own
returns-clause-own c = c.in_ok-explored.ensures.own

pub explore_within-requires : goal.explore_within-requires
explore_within-requires c =
    let r = c.requires in
    record { whole = r.whole; part = r.part; all = r.all; some = r.some; few = r.few }
