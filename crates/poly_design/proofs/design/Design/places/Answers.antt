use Rattle.poly_design.proofs.Rows.{only_memory}
use Rattle.poly_design.proofs.design.Design.places.Goals as goal

pub returns-clause-ok : goal.returns-clause-ok
returns-clause-ok c = rw (← c.self.view_is) (c.all_placements.ensures.ok c.self.inside.grid)

pub returns-clause-why : goal.returns-clause-why
returns-clause-why c = only_memory _ _ (c.all_placements.ensures.why c.self.inside.grid) c.self.invariant.design.few_placements
