use Rattle.std.proofs.Common.{◌∙◌}
use Rattle.poly_frame.proofs.frame.lists.begin_lists.Goals as goal

pub returns-clause-trail : goal.returns-clause-trail
returns-clause-trail c = c.in_ok-begin_trail.ensures.items

pub returns-clause-sizes : goal.returns-clause-sizes
returns-clause-sizes c = c.in_ok-reserve.ensures.items ∙ c.clear.ensures.items
