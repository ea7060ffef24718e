use Rattle.std.proofs.Common.{lit<}
use Rattle.poly_text.proofs.FewCells.{shape_follows}
use Rattle.poly_text.proofs.command.edits.shape_of.Goals as goal

pub returns : goal.returns
returns c =
    let read = c.in_ok-count.ensures.read in
    let made = c.from_cells.ensures in
    shape_follows c.args.grid 17 c.in_ok-count.count c.cells_of.new.room read.0 _ c.from_cells.result (lit< tt) read.1 read.2 made.ok made.when made.why
