use Rattle.std.proofs.Common.{refl, ◌&&◌, ◌*◌, ◌+◌, ◌-◌, ◌/◌, ◌≤◌, ◌∙◌, ◌≡◌, ap, arith, drop, get_or, length, not, sym, take}
use Rattle.poly_frame.specs.Bits.{has_bit}
use Rattle.poly_frame.proofs.Words.{part_bits, part_len, replaced_before, replaced_bits, same_word, written_len}
use Rattle.poly_frame.proofs.bits.take_out_row.Goals as goal

pub returns-clause-row : goal.returns-clause-row
returns-clause-row c = λ j h.
    let old = c.args.words.now.items in
    let here = c.deref_mut.result.now in
    let new = c.take_out_words.new.words in
    let w = c.args.width in
    let at = c.args.at in
    let from = c.args.from in
    let wide : at + w - at ≡ w = omega arith in
    let long : from + w - from ≡ w = omega arith in
    let size : length here ≡ c.args.words.now.len = ap length c.deref_mut.ensures.value ∙ sym c.args.words.now.ok.0 in
    let fits : at + w ≤ c.args.words.now.len = omega (arith, c.requires.words, c.args.words.now.ok.0) in
    let part = part_len here at w (at + w - at) wide (omega (arith, size, fits)) in
    let same : length new ≡ w = c.take_out_words.ensures.len ∙ part in
    replaced_bits here new _ _ c.args.words.now.len at w size fits same j h
    ∙ c.take_out_words.ensures.bits j (omega (arith, part, h))
    ∙ ap (λ b. b && not (has_bit (take (from + w - from) (drop from c.args.rows.now)) j)) (part_bits here at w (at + w - at) j wide h ∙ ap (λ xs. has_bit xs (64 * at + j)) c.deref_mut.ensures.value)
    ∙ ap (λ b. has_bit old (64 * at + j) && not b) (part_bits c.args.rows.now from w (from + w - from) j long h)

pub returns-clause-before : goal.returns-clause-before
returns-clause-before c = λ x h.
    let old = c.args.words.now.items in
    let here = c.deref_mut.result.now in
    let w = c.args.width in
    let at = c.args.at in
    let wide : at + w - at ≡ w = omega arith in
    let size : length here ≡ c.args.words.now.len = ap length c.deref_mut.ensures.value ∙ sym c.args.words.now.ok.0 in
    let fits : at + w ≤ c.args.words.now.len = omega (arith, c.requires.words, c.args.words.now.ok.0) in
    let same : length c.take_out_words.new.words ≡ w = c.take_out_words.ensures.len ∙ part_len here at w (at + w - at) wide (omega (arith, size, fits)) in
    same_word old _ x (replaced_before here c.take_out_words.new.words _ _ c.args.words.now.len at w size fits same (x / 64) (omega (arith, h)) ∙ ap (λ xs. get_or xs (x / 64) 0) c.deref_mut.ensures.value)

pub slice_bounds-take_out_words-count : goal.slice_bounds-take_out_words-count
slice_bounds-take_out_words-count c = omega arith

pub slice_bounds-take_out_words-count-2 : goal.slice_bounds-take_out_words-count-2
slice_bounds-take_out_words-count-2 c = omega arith

pub take_out_words-requires : goal.take_out_words-requires
take_out_words-requires c =
    let here = c.deref_mut.result.now in
    let w = c.args.width in
    let at = c.args.at in
    let from = c.args.from in
    part_len here at w (at + w - at) (omega arith) (omega (arith, c.requires.words, ap length c.deref_mut.ensures.value)) ∙ sym (part_len c.args.rows.now from w (from + w - from) (omega arith) c.requires.rows)

pub returns-clause-len : goal.returns-clause-len
returns-clause-len c = written_len _ c.args.words.now.items c.args.words.now.len c.args.words.now.ok.0

pub returns-clause-capacity : goal.returns-clause-capacity
returns-clause-capacity c = refl
