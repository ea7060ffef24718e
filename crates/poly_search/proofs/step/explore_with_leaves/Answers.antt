use Rattle.poly_search.proofs.step.explore_with_leaves.Goals as goal

pub returns-clause-fits : goal.returns-clause-fits
returns-clause-fits c = c.explore_over-explored.ensures.fits

pub returns-clause-holds : goal.returns-clause-holds
returns-clause-holds c = c.explore_over-explored.ensures.holds

pub returns-clause-opened : goal.returns-clause-opened
returns-clause-opened c = c.explore_over-explored.ensures.opened

pub returns-clause-inner : goal.returns-clause-inner
returns-clause-inner c = c.explore_over-explored.ensures.inner

pub returns-clause-root : goal.returns-clause-root
returns-clause-root c = c.explore_over-explored.ensures.root

pub returns-clause-smaller : goal.returns-clause-smaller
returns-clause-smaller c = c.explore_over-explored.ensures.smaller

pub returns-clause-tilings : goal.returns-clause-tilings
returns-clause-tilings c = c.explore_over-explored.ensures.tilings

pub returns-clause-rests : goal.returns-clause-rests
returns-clause-rests c = c.explore_over-explored.ensures.rests

pub returns-clause-why : goal.returns-clause-why
returns-clause-why c = c.explore_over-explored.ensures.why
