use Rattle.std.proofs.Common.{inr}
use Rattle.poly_text.proofs.CellsRead.{cells_step, cells_stop, cells_done}
use Rattle.poly_text.proofs.puzzle.piece.cells_of.Goals as goal

pub returns-in_default : goal.returns-in_default
returns-in_default c = inr (cells_stop c.args.values.now c.loop-value.value-index c.value-item.result c.loop-value.cells.items _ c.loop-value-test.true c.value-item.is c.in_default.ensures c.loop-value.invariant)

pub loop-value-preserved : goal.loop-value-preserved
loop-value-preserved c = cells_step c.args.values.now c.loop-value.value-index c.value-item.result c.loop-value.cells.items _ c.in-Some.cell _ c.loop-value-test.true c.value-item.is c.in-Some.ensures c.in_ok-push.ensures.items c.loop-value.invariant

pub returns : goal.returns
returns c = cells_done c.args.values.now c.loop-value.value-index c.loop-value.cells.items _ c.loop-value-test.false c.loop-value.invariant
