use Rattle.std.proofs.Common.{◌++◌, ◌+◌, ◌-◌, ◌/◌, ◌<◌, ◌≡◌, ◌∙◌, ℕ, ap, arith, drop, get_or, length, sym, take, vec_len}
use Rattle.std.proofs.lemmas.Grind.{common_steps}
use Rattle.std.proofs.lemmas.List.{get_or-take}
use Rattle.poly_frame.proofs.Words.{joined_at, joined_before, part_at, same_row, same_word}
use Rattle.poly_frame.proofs.bits.copy_last.Goals as goal

pub returns-clause-before : goal.returns-clause-before
returns-clause-before c = λ x h.
    let ws = c.args.words.now.items in
    let at = c.len-at.result in
    let front = c.split_at_mut-before.result.0.now in
    let new = c.copy_from_slice.new.self in
    let w = c.args.width in
    let whole : c.resize.new.self.len ≡ at + w = grind (arith, common_steps, c.resize.ensures.len, c.resize.ensures.succeeds (omega (arith, c.len-at.ensures, c.requires.room))) in
    let same : length new ≡ w = omega (arith, c.copy_from_slice.ensures.len, c.split_at_mut-before.ensures.back_len, c.deref_mut.ensures.len, whole) in
    let read : (k : ℕ) → k < at → get_or front k 0 ≡ get_or ws k 0 =
    λ k l. ap (λ xs. get_or xs k 0) c.split_at_mut-before.ensures.front ∙ get_or-take at c.deref_mut.result.now k 0 l ∙ ap (λ xs. get_or xs k 0) c.deref_mut.ensures.value
    ∙ c.resize.ensures.by_index.0 k 0 (omega (arith, l)) (omega (arith, l, c.len-at.ensures)) in
    same_word ws _ x (joined_before front new _ at w c.resize.new.self.len c.split_at_mut-before.ensures.front_len same whole (x / 64) (omega (arith, h, c.len-at.ensures)) ∙ read (x / 64) (omega (arith, h, c.len-at.ensures)))

pub returns-clause-row : goal.returns-clause-row
returns-clause-row c = λ j h.
    let ws = c.args.words.now.items in
    let at = c.len-at.result in
    let front = c.split_at_mut-before.result.0.now in
    let new = c.copy_from_slice.new.self in
    let w = c.args.width in
    let rest = drop (length (front ++ new)) c.resize.new.self.items in
    let k = j / 64 in
    let l : k < w = omega (arith, h) in
    let whole : c.resize.new.self.len ≡ at + w = grind (arith, common_steps, c.resize.ensures.len, c.resize.ensures.succeeds (omega (arith, c.len-at.ensures, c.requires.room))) in
    let same : length new ≡ w = omega (arith, c.copy_from_slice.ensures.len, c.split_at_mut-before.ensures.back_len, c.deref_mut.ensures.len, whole) in
    let read : (k : ℕ) → k < at → get_or front k 0 ≡ get_or ws k 0 =
    λ k l. ap (λ xs. get_or xs k 0) c.split_at_mut-before.ensures.front ∙ get_or-take at c.deref_mut.result.now k 0 l ∙ ap (λ xs. get_or xs k 0) c.deref_mut.ensures.value
    ∙ c.resize.ensures.by_index.0 k 0 (omega (arith, l)) (omega (arith, l, c.len-at.ensures)) in
    same_row ws _ (vec_len c.args.words.now - w) (vec_len c.args.words.now) j
    (ap (λ n. get_or (take c.resize.new.self.len ((front ++ new) ++ rest)) (n + k) 0) (sym c.len-at.ensures)
    ∙ joined_at front new rest at w c.resize.new.self.len c.split_at_mut-before.ensures.front_len same whole k l
    ∙ ap (λ xs. get_or xs k 0) c.copy_from_slice.ensures.after
    ∙ part_at front (at - w) w _ k (omega (arith, c.split_at_mut-before.ensures.front_len, c.len-at.ensures, c.requires.some)) l
    ∙ read (at - w + k) (omega (arith, l, c.len-at.ensures, c.requires.some))
    ∙ ap (λ n. get_or ws (n - w + k) 0) c.len-at.ensures)
