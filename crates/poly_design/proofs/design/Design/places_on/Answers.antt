use Rattle.poly_design.proofs.design.Design.places_on.Goals as goal

pub returns-clause-ok : goal.returns-clause-ok
returns-clause-ok c = rw (← c.self.view_is) (c.placements_on.ensures.ok c.self.inside.grid)
