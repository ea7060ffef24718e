use Rattle.std.proofs.Common.{ap, arith, length, sym, ◌&&◌, ◌*◌, ◌+◌, ◌-◌, ◌∙◌}
use Rattle.std.proofs.Math.Nat.{mul-le-mul_left}
use Rattle.poly_tiling.specs.Puzzle.{has_item}
use Rattle.poly_frame.specs.Bits.{has_bit}
use Rattle.poly_frame.specs.FrameItems.{item_of}
use Rattle.poly_frame.specs.Open.{open_in}
use Rattle.poly_frame.proofs.FrameQueries.{row_says}
use Rattle.poly_frame.proofs.frame.queries.list_row.Goals as goal

pub returns-clause-items : goal.returns-clause-items
returns-clause-items c =
    let s = c.args.steps.now in
    let matrix = c.args.node.now.matrix.now in
    let t = c.args.node.now.table.now in
    let v = c.args.node.now.view.now in
    let A = c.args.node.now.trail.now in
    let at = ap (λ n. n - matrix.width) (c.len.ensures ∙ s.live.ok.0) in
    c.list_both.ensures.items (λ p. open_in v A p && has_item v p (item_of v c.args.b)) (λ j h.
    row_says v A c.args.node.now.base matrix t s.live.items s.have.items s.raised.items s.marks.items c.requires.kept (c.len.result - matrix.width) c.args.b at c.requires.row j h
    ∙ ap (λ ws. has_bit ws (64 * (c.len.result - matrix.width) + j) && has_bit matrix.rows.items (64 * (matrix.width * c.args.b) + j)) (sym c.deref.ensures.value))

pub list_both-requires-clause-wide : goal.list_both-requires-clause-wide
list_both-requires-clause-wide c = c.requires.kept.table.matrix.wide

pub list_both-requires-clause-narrow : goal.list_both-requires-clause-narrow
list_both-requires-clause-narrow c = c.requires.kept.table.matrix.narrow

pub list_both-requires-clause-live : goal.list_both-requires-clause-live
list_both-requires-clause-live c = omega (arith, c.deref.ensures.len, c.len.ensures, c.requires.kept.wide)

pub list_both-requires-clause-rows : goal.list_both-requires-clause-rows
list_both-requires-clause-rows c =
    let matrix = c.args.node.now.matrix.now in
    let fits = mul-le-mul_left {m = c.args.b + 1} {n = length c.args.node.now.view.now.bounds} matrix.width (omega (arith, c.requires.row)) in
    omega (arith, fits, c.requires.kept.table.matrix.rows_len)
