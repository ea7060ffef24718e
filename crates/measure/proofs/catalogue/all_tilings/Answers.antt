use Rattle.measure.proofs.Found.{found_once, found_tilings}
use Rattle.measure.proofs.catalogue.all_tilings.Goals as goal

pub returns-clause-tilings : goal.returns-clause-tilings
returns-clause-tilings c = found_tilings c.in_ok-view.view c.in_ok-tilings.tilings.items c.in_ok-tilings.ensures.all

pub returns-clause-once : goal.returns-clause-once
returns-clause-once c = found_once c.in_ok-view.view c.in_ok-tilings.tilings.items c.in_ok-tilings.ensures.all
