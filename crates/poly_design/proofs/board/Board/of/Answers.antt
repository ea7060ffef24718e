use Rattle.std.proofs.Common.{subst}
use Rattle.std.specs.List.{All}
use Rattle.std.specs.Map.{keys_of}
use Rattle.std.proofs.lemmas.List.Elements.{All-push}
use Rattle.poly_design.specs.Limits.{IsInRange}
use Rattle.poly_shape.specs.Order.{spot_cmp}
use Rattle.poly_design.proofs.Sets.{keys_more, keys_all, ascending_from_sorted}
use Rattle.poly_design.proofs.board.Board.of.Goals as goal

pub loop-cell-preserved : goal.loop-cell-preserved
loop-cell-preserved c = record {
  walked = rw c.in_ok-add.ensures.ok (keys_more c.loop-cell.board c.args.modes.now.entries _ _ c.in-Some.cell.now _ c.loop-cell.invariant.walked c.in-Some.ensures.steps);
  in_range = rw c.in_ok-add.ensures.ok (All-push IsInRange c.loop-cell.board c.in-Some.cell.now c.loop-cell.invariant.in_range c.in_ok-add.ensures.in_range);
}

pub returns-clause-ok : goal.returns-clause-ok
returns-clause-ok c = keys_all c.loop-cell.board c.args.modes.now.entries _ c.loop-cell.invariant.walked c.in-None.ensures.steps.0

pub returns-clause-in_range : goal.returns-clause-in_range
returns-clause-in_range c = subst (All IsInRange) (keys_all c.loop-cell.board c.args.modes.now.entries _ c.loop-cell.invariant.walked c.in-None.ensures.steps.0) c.loop-cell.invariant.in_range

pub returns-clause-ascending : goal.returns-clause-ascending
returns-clause-ascending c = ascending_from_sorted spot_cmp (keys_of c.args.modes.now.entries) c.into_iter-cell-iterator.ensures.into_iter_gives.5
