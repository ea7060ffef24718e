use Rattle.std.proofs.Common.{arith}
use Rattle.poly_text.specs.Views.{said_view}
use Rattle.poly_text.proofs.PiecesRead.{piece_step, length_insert, of_grid_insert, spec_grid, are_of_grid}
use Rattle.poly_text.proofs.puzzle.piece.pieces_of.Goals as goal

pub loop-value-preserved : goal.loop-value-preserved
loop-value-preserved c =
    let i = c.loop-value.invariant in
    let entries = c.in_ok-insert.ensures.entries in
    record {
      so_far = λ r rest. i.so_far r (piece_step c.args.format c.args.grid c.args.values.now c.loop-value.value-index c.value-item.result c.loop-value.taken.entries (said_view c.in_ok-said.said) c.in_ok-spec.spec r
          c.loop-value-test.true c.value-item.is c.in_ok-said.ensures c.in_ok-spec.ensures (rw entries at rest));
      few = rw entries (omega (arith, i.few, length_insert c.loop-value.taken.entries c.in_ok-said.said.name c.in_ok-spec.spec));
      of_grid = rw entries (of_grid_insert c.args.grid c.loop-value.taken.entries c.in_ok-said.said.name c.in_ok-spec.spec i.of_grid (spec_grid c.args.grid c.loop-value.taken.entries (said_view c.in_ok-said.said) c.in_ok-spec.spec c.in_ok-spec.ensures));
    }

pub returns-clause-of_grid : goal.returns-clause-of_grid
returns-clause-of_grid c = are_of_grid c.args.grid c.loop-value.taken.entries c.loop-value.invariant.of_grid
