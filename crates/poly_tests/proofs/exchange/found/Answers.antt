use Rattle.poly_tests.proofs.Found.{found_once, found_tilings}
use Rattle.poly_tests.proofs.exchange.found.Goals as goal

pub returns-clause-tilings : goal.returns-clause-tilings
returns-clause-tilings c = found_tilings c.args.view.now c.in_ok-list.list.items c.in_ok-list.ensures.all

pub returns-clause-once : goal.returns-clause-once
returns-clause-once c = found_once c.args.view.now c.in_ok-list.list.items c.in_ok-list.ensures.all
