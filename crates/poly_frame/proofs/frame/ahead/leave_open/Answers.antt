use Rattle.std.proofs.Common.{List, ap, arith, drop, length, not, take, ◌&&◌, ◌*◌, ◌+◌, ◌-◌, ◌∙◌, ◌≡◌}
use Rattle.std.specs.List.{list_any}
use Rattle.poly_frame.specs.Bits.{has_bit}
use Rattle.poly_frame.specs.Matrices.{bit_index}
use Rattle.poly_frame.proofs.Words.{part_bits}
use Rattle.poly_frame.proofs.frame.ahead.leave_open.Goals as goal

pub returns-clause-row : goal.returns-clause-row
returns-clause-row c = λ x h.
    let s = c.args.steps.now in
    let m = c.args.node.now.matrix.now in
    let w = m.width in
    let live = c.deref-2.result.now in
    let at = c.len.result - length c.args.row.now in
    let rows = c.deref.result.now in
    let is = c.items_of.result.now in
    let size : length live ≡ length s.live.items = ap length c.deref-2.ensures.value in
    let part : length live - at ≡ w = omega (arith, size, c.len.ensures, s.live.ok.0, c.requires.len, c.requires.kept.wide) in
    let first : at ≡ length s.live.items - w = omega (arith, c.len.ensures, s.live.ok.0, c.requires.len) in
    let was = has_bit s.live.items (64 * (length s.live.items - w) + x) in
    c.close_each.ensures.bits x (omega (arith, c.requires.len, h))
    ∙ ap (λ n. has_bit (take (length live - at) (drop at live)) x && not (list_any (λ b. has_bit rows (bit_index n b x)) is)) c.requires.len
    ∙ ap (λ y. y && not (list_any (λ b. has_bit rows (bit_index w b x)) is))
    (part_bits live at w (length live - at) x part h ∙ ap (λ ws. has_bit ws (64 * at + x)) c.deref-2.ensures.value ∙ ap (λ n. has_bit s.live.items (64 * n + x)) first)
    ∙ ap (λ (ws : List _). was && not (list_any (λ b. has_bit ws (bit_index w b x)) is)) c.deref.ensures.value
    ∙ ap (λ (xs : List _). was && not (list_any (λ b. has_bit m.rows.items (bit_index w b x)) xs)) c.items_of.ensures
