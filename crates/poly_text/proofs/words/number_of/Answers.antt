use Rattle.std.proofs.Common.{◌^◌, ◌-◌, ◌∙◌}
use Rattle.std.specs.Char.{is_digit, digit_value}
use Rattle.std.proofs.lemmas.Bool.{lt-ltb}
use Rattle.poly_text.proofs.Numbers.{number_step, all_step}
use Rattle.poly_text.proofs.words.number_of.Goals as goal

pub loop-byte-preserved : goal.loop-byte-preserved
loop-byte-preserved c =
    let lt = c.loop-byte-test.true in
    let digit = c.in_ok-digit.ensures.value in
    record {
      so_far = number_step c.args.word.now c.loop-byte.byte-index _ _ _ _ _ (2 ^ 64 - 1) lt c.from.ensures c.loop-byte.invariant.so_far
          (c.from-in-loop-byte.ensures ∙ digit.1) c.saturating_mul.ensures c.saturating_add-number.ensures;
      digits = all_step (λ b. is_digit b 10) c.args.word.now c.loop-byte.byte-index _ _ lt c.from.ensures (lt-ltb (digit_value c.from.result) 10 digit.0) c.loop-byte.invariant.digits;
    }
