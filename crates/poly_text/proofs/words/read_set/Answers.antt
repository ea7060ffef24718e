use Rattle.std.proofs.Common.{lit<}
use Rattle.poly_text.proofs.FewCells.{set_made}
use Rattle.poly_text.proofs.words.read_set.Goals as goal

pub returns-clause-ok : goal.returns-clause-ok
returns-clause-ok c =
    let read = c.in_ok-count.ensures.read in
    let made = c.new.ensures in
    (read.0, read.1, set_made 17 c.in_ok-count.count c.cells_of.new.room read.0 c.new.result c.ok.result c.ok.ensures.value (lit< tt) read.2 made.ok made.kept made.when)
