use Rattle.std.proofs.Common.{ap}
use Rattle.poly_book.specs.Keeps.{state_of}
use Rattle.poly_book.proofs.settle.note_for_change.Goals as goal

pub returns-clause-same : goal.returns-clause-same
returns-clause-same c = ap state_of c.catch_up.ensures.stays
