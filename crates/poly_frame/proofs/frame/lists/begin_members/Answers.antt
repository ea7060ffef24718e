use Rattle.poly_frame.proofs.frame.lists.begin_members.Goals as goal

pub returns-clause-base : goal.returns-clause-base
returns-clause-base c = c.make_base.ensures.items
