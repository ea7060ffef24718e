use Rattle.std.proofs.Common.{ap, arith, eqb, length, sym, ◌%◌, ◌*◌, ◌+◌, ◌/◌, ◌∙◌, ◌≡◌, ◌||◌}
use Rattle.std.proofs.Math.Nat.{mul-le-mul_left}
use Rattle.std.specs.List.{list_any}
use Rattle.poly_frame.specs.Bits.{has_bit}
use Rattle.poly_frame.specs.Matrices.{bit_index}
use Rattle.poly_frame.proofs.FrameOpen.{inside_past, put_past_front}
use Rattle.poly_frame.proofs.frame.matrix.put_each.Goals as goal

pub split_at_mut-words-requires : goal.split_at_mut-words-requires
split_at_mut-words-requires c =
    let all = mul-le-mul_left {m = 1} {n = c.args.items} c.args.width (omega (arith, c.requires.some)) in
    omega (arith, all, c.requires.len, c.requires.wide)

pub put_bit-requires-clause-low : goal.put_bit-requires-clause-low
put_bit-requires-clause-low c =
    inside_past c.args.width c.args.items (c.args.j / 64) (length c.split_at_mut-words.result.1.now) c.args.indices.now (omega (arith, c.requires.wide)) (c.split_at_mut-words.ensures.back_len ∙ c.requires.len) c.requires.low

pub returns-clause-bits : goal.returns-clause-bits
returns-clause-bits c = λ x.
    let front = c.split_at_mut-words.result.0.now in
    let tail = c.split_at_mut-words.result.1.now in
    let k = c.args.j / 64 in
    let t = c.args.j % 64 in
    let whole : 64 * k + t ≡ c.args.j = omega arith in
    put_past_front front tail c.put_bit.new.words c.args.width k t c.args.indices.now c.split_at_mut-words.ensures.front_len c.put_bit.ensures.bits x
    ∙ ap (λ ws. has_bit ws x || list_any (λ b. eqb (bit_index c.args.width b (64 * k + t)) x) c.args.indices.now) (sym c.split_at_mut-words.ensures.value)
    ∙ ap (λ j. has_bit c.args.rows.now x || list_any (λ b. eqb (bit_index c.args.width b j) x) c.args.indices.now) whole
