use Rattle.std.proofs.Common.{arith, get_or, length, ◌<◌, ◌^◌}
use Rattle.std.proofs.lemmas.List.{length-set}
use Rattle.poly_tiling.proofs.Positions.{count_fits, mark_more, number_fits}
use Rattle.poly_tiling.proofs.order.position_table.Goals as goal

pub loop-position-preserved : goal.loop-position-preserved
loop-position-preserved c =
    let list = c.args.list.now in
    let fits : get_or list c.loop-position.position 0 < length c.loop-position.positions.items = omega (arith, c.loop-position.invariant.whole, number_fits list c.args.count c.loop-position.position 0 c.requires.below c.loop-position-test.true) in
    record {
      whole = omega (arith, length-set c.loop-position.positions.items (get_or list c.loop-position.position 0), c.loop-position.invariant.whole);
      marked = mark_more list c.loop-position.positions.items c.loop-position.position 0 c.requires.once c.loop-position-test.true fits c.loop-position.invariant.marked;
    }

pub overflow_cast-position : goal.overflow_cast-position
overflow_cast-position c =
    let l = count_fits c.args.list.now (2 ^ 32) c.requires.once (λ k _. let f = c.type_inv.list k in omega (arith, f)) in
    omega (arith, l, c.loop-position-test.true)
