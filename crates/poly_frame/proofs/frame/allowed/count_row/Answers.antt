use Rattle.std.proofs.Common.{ap, not, sym, ℕ, ◌&&◌, ◌*◌, ◌-◌, ◌∙◌, arith}
use Rattle.poly_tiling.specs.Lists.{mem, tally}
use Rattle.poly_tiling.specs.Puzzle.{has_item}
use Rattle.poly_frame.specs.Bits.{in_both}
use Rattle.poly_frame.specs.Open.{open_in, ruled_out}
use Rattle.poly_frame.proofs.FrameArms.{loose_parts, loose_says}
use Rattle.poly_frame.proofs.frame.allowed.count_row.Goals as goal

pub returns : goal.returns
returns c =
    let s = c.args.steps.now in
    let matrix = c.args.node.now.matrix.now in
    let t = c.args.node.now.table.now in
    let v = c.args.node.now.view.now in
    let A = c.args.node.now.trail.now in
    let K = c.requires.kept in
    let i = c.args.item.now in
    let b = c.args.b in
    let g = λ (p : ℕ). open_in v A p && has_item v p i in
    let h = λ (p : ℕ). has_item v p i && (mem v.live p && not (ruled_out v A p)) in
    let at = ap (λ n. n - matrix.width) (c.len.ensures ∙ s.live.ok.0) in
    let loose = c.count_both.ensures.value g (λ j l.
    loose_says v A c.args.node.now.base matrix t s.live.items s.have.items s.raised.items s.marks.items K i (c.len.result - matrix.width) b at c.requires.row c.requires.same j l
    ∙ ap (λ ws. in_both ws (c.len.result - matrix.width) matrix.rows.items (matrix.width * b) j) (sym c.deref.ensures.value)) in
    let held = c.count_held_at-held.ensures.value ∙ ap (λ xs. tally h xs) c.requires.members in
    omega (arith, loose, held, loose_parts v A c.args.node.now.base matrix t s.live.items s.have.items s.raised.items s.marks.items K i)
