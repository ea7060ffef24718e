use Rattle.std.proofs.Common.{List, ap, arith, drop, get_or, leb, length, not, sym, take, ℕ, ◌&&◌, ◌*◌, ◌+◌, ◌-◌, ◌/◌, ◌≤◌, ◌∙◌, ◌≡◌}
use Rattle.std.specs.List.{list_any}
use Rattle.poly_frame.specs.Bits.{has_bit}
use Rattle.poly_frame.specs.Matrices.{bit_index}
use Rattle.poly_frame.proofs.Words.{part_bits, part_len, replaced_before, replaced_bits, same_word}
use Rattle.poly_frame.proofs.frame.steps.close.Goals as goal

pub returns-clause-row : goal.returns-clause-row
returns-clause-row c = λ j h.
    let old = c.args.live.now.items in
    let here = c.deref_mut.result.now in
    let new = c.close_row.new.row in
    let w = c.args.matrix.now.width in
    let at = c.args.at in
    let is = c.args.indices.now in
    let have = c.args.have.now in
    let rows = c.deref.result.now in
    let limits = c.deref-2.result.now in
    let wide : at + w - at ≡ w = omega arith in
    let size : length here ≡ c.args.live.now.len = ap length c.deref_mut.ensures.value ∙ sym c.args.live.now.ok.0 in
    let fits : at + w ≤ c.args.live.now.len = omega (arith, c.requires.live, c.args.live.now.ok.0) in
    let part = part_len here at w (at + w - at) wide (omega (arith, size, fits)) in
    let same : length new ≡ w = c.close_row.ensures.len ∙ part in
    let was = has_bit old (64 * at + j) in
    replaced_bits here new _ _ c.args.live.now.len at w size fits same j h
    ∙ c.close_row.ensures.bits j (omega (arith, part, h))
    ∙ ap (λ (n : ℕ). has_bit (take (at + w - at) (drop at here)) j && not (list_any (λ b. leb (get_or limits b 0) (get_or have b 0) && has_bit rows (bit_index n b j)) is)) part
    ∙ ap (λ b. b && not (list_any (λ b. leb (get_or limits b 0) (get_or have b 0) && has_bit rows (bit_index w b j)) is)) (part_bits here at w (at + w - at) j wide h ∙ ap (λ xs. has_bit xs (64 * at + j)) c.deref_mut.ensures.value)
    ∙ ap (λ (xs : List ℕ). was && not (list_any (λ b. leb (get_or limits b 0) (get_or have b 0) && has_bit xs (bit_index w b j)) is)) c.deref.ensures.value
    ∙ ap (λ (xs : List ℕ). was && not (list_any (λ b. leb (get_or xs b 0) (get_or have b 0) && has_bit c.args.matrix.now.rows.items (bit_index w b j)) is)) c.deref-2.ensures.value

pub returns-clause-before : goal.returns-clause-before
returns-clause-before c = λ x h.
    let old = c.args.live.now.items in
    let here = c.deref_mut.result.now in
    let w = c.args.matrix.now.width in
    let at = c.args.at in
    let wide : at + w - at ≡ w = omega arith in
    let size : length here ≡ c.args.live.now.len = ap length c.deref_mut.ensures.value ∙ sym c.args.live.now.ok.0 in
    let fits : at + w ≤ c.args.live.now.len = omega (arith, c.requires.live, c.args.live.now.ok.0) in
    let same : length c.close_row.new.row ≡ w = c.close_row.ensures.len ∙ part_len here at w (at + w - at) wide (omega (arith, size, fits)) in
    same_word old _ x (replaced_before here c.close_row.new.row _ _ c.args.live.now.len at w size fits same (x / 64) (omega (arith, h)) ∙ ap (λ xs. get_or xs (x / 64) 0) c.deref_mut.ensures.value)
