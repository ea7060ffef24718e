use Rattle.std.proofs.Common.{arith, get_or, inr, length, refl, subst, ℕ, ◌*◌, ◌+◌, ◌<◌, ◌≤◌, ◌∙◌}
use Rattle.std.proofs.Math.ListN.{set}
use Rattle.std.proofs.lemmas.List.{length-set}
use Rattle.poly_frame.specs.Bits.{IsLess}
use Rattle.poly_frame.proofs.Words.{four_done, four_len, four_other}
use Rattle.poly_frame.proofs.bits.take_out_fours.Goals as goal

pub loop-c-preserved : goal.loop-c-preserved
loop-c-preserved c =
    let old = c.args.words.now in
    let xs = c.args.first.now in
    let ys = c.args.second.now in
    let zs = c.args.third.now in
    let ws = c.loop-c.words in
    let k = 4 * c.loop-c.c in
    let one = c.less_three-one.result in
    let two = c.less_three-two.result in
    let three = c.less_three-three.result in
    let four = c.less_three-four.result in
    let size : k + 3 < length ws = omega (arith, c.loop-c-test.true, c.requires.words, c.loop-c.invariant.len) in
    let same : (i : ℕ) (new : ℕ) → k ≤ i → IsLess new (get_or ws i 0) (get_or xs i 0) (get_or ys i 0) (get_or zs i 0) → IsLess new (get_or old i 0) (get_or xs i 0) (get_or ys i 0) (get_or zs i 0) =
    λ i new h e. subst (λ (x : ℕ). IsLess new x (get_or xs i 0) (get_or ys i 0) (get_or zs i 0)) (c.loop-c.invariant.rest i h) e in
    record {
      len = four_len ws k one two three four size ∙ c.loop-c.invariant.len;
      done = λ i h. four_done ws k one two three four size (λ i x. IsLess x (get_or old i 0) (get_or xs i 0) (get_or ys i 0) (get_or zs i 0)) c.loop-c.invariant.done
          (same k one (omega arith) c.less_three-one.ensures) (same (k + 1) two (omega arith) c.less_three-two.ensures) (same (k + 2) three (omega arith) c.less_three-three.ensures) (same (k + 3) four (omega arith) c.less_three-four.ensures) i (omega (arith, h));
      rest = λ i h. four_other ws k one two three four size i (inr (omega (arith, h))) ∙ c.loop-c.invariant.rest i (omega (arith, h));
    }

pub loop-c-init : goal.loop-c-init
loop-c-init c = record {
  len = refl;
  done = λ i h. absurd (omega (arith, h));
  rest = λ i h. refl;
}

pub less_three-one-requires-clause-first : goal.less_three-one-requires-clause-first
less_three-one-requires-clause-first c = omega (arith, c.loop-c-test.true, c.requires.words, c.requires.first)

pub less_three-one-requires-clause-second : goal.less_three-one-requires-clause-second
less_three-one-requires-clause-second c = omega (arith, c.loop-c-test.true, c.requires.words, c.requires.second)

pub less_three-one-requires-clause-third : goal.less_three-one-requires-clause-third
less_three-one-requires-clause-third c = omega (arith, c.loop-c-test.true, c.requires.words, c.requires.third)

pub less_three-two-requires-clause-first : goal.less_three-two-requires-clause-first
less_three-two-requires-clause-first c = omega (arith, c.loop-c-test.true, c.requires.words, c.requires.first)

pub less_three-two-requires-clause-second : goal.less_three-two-requires-clause-second
less_three-two-requires-clause-second c = omega (arith, c.loop-c-test.true, c.requires.words, c.requires.second)

pub less_three-two-requires-clause-third : goal.less_three-two-requires-clause-third
less_three-two-requires-clause-third c = omega (arith, c.loop-c-test.true, c.requires.words, c.requires.third)

pub less_three-three-requires-clause-first : goal.less_three-three-requires-clause-first
less_three-three-requires-clause-first c = omega (arith, c.loop-c-test.true, c.requires.words, c.requires.first)

pub less_three-three-requires-clause-second : goal.less_three-three-requires-clause-second
less_three-three-requires-clause-second c = omega (arith, c.loop-c-test.true, c.requires.words, c.requires.second)

pub less_three-three-requires-clause-third : goal.less_three-three-requires-clause-third
less_three-three-requires-clause-third c = omega (arith, c.loop-c-test.true, c.requires.words, c.requires.third)

pub less_three-four-requires-clause-first : goal.less_three-four-requires-clause-first
less_three-four-requires-clause-first c = omega (arith, c.loop-c-test.true, c.requires.words, c.requires.first)

pub less_three-four-requires-clause-second : goal.less_three-four-requires-clause-second
less_three-four-requires-clause-second c = omega (arith, c.loop-c-test.true, c.requires.words, c.requires.second)

pub less_three-four-requires-clause-third : goal.less_three-four-requires-clause-third
less_three-four-requires-clause-third c = omega (arith, c.loop-c-test.true, c.requires.words, c.requires.third)

pub bounds-words-k : goal.bounds-words-k
bounds-words-k c = omega (arith, c.loop-c-test.true, c.requires.words, c.loop-c.invariant.len)

pub bounds-words-k-in-loop-c : goal.bounds-words-k-in-loop-c
bounds-words-k-in-loop-c c = omega (arith, c.loop-c-test.true, c.requires.words, c.loop-c.invariant.len)

pub bounds-words-k-in-loop-c-2 : goal.bounds-words-k-in-loop-c-2
bounds-words-k-in-loop-c-2 c = omega (arith, c.loop-c-test.true, c.requires.words, c.loop-c.invariant.len)

pub bounds-words-k-in-loop-c-3 : goal.bounds-words-k-in-loop-c-3
bounds-words-k-in-loop-c-3 c = omega (arith, c.loop-c-test.true, c.requires.words, c.loop-c.invariant.len)

pub bounds-words-k-in-loop-c-4 : goal.bounds-words-k-in-loop-c-4
bounds-words-k-in-loop-c-4 c = omega (arith, c.loop-c-test.true, c.requires.words, c.loop-c.invariant.len)

pub bounds-words-k-in-loop-c-5 : goal.bounds-words-k-in-loop-c-5
bounds-words-k-in-loop-c-5 c = omega (arith, c.loop-c-test.true, c.requires.words, c.loop-c.invariant.len, length-set c.loop-c.words (4 * c.loop-c.c) c.less_three-one.result)

pub bounds-words-k-in-loop-c-6 : goal.bounds-words-k-in-loop-c-6
bounds-words-k-in-loop-c-6 c = omega (arith, c.loop-c-test.true, c.requires.words, c.loop-c.invariant.len, length-set c.loop-c.words (4 * c.loop-c.c) c.less_three-one.result, length-set (set c.loop-c.words (4 * c.loop-c.c) c.less_three-one.result) (4 * c.loop-c.c + 1) c.less_three-two.result)

pub bounds-words-k-in-loop-c-7 : goal.bounds-words-k-in-loop-c-7
bounds-words-k-in-loop-c-7 c = omega (arith, c.loop-c-test.true, c.requires.words, c.loop-c.invariant.len, length-set c.loop-c.words (4 * c.loop-c.c) c.less_three-one.result, length-set (set c.loop-c.words (4 * c.loop-c.c) c.less_three-one.result) (4 * c.loop-c.c + 1) c.less_three-two.result, length-set (set (set c.loop-c.words (4 * c.loop-c.c) c.less_three-one.result) (4 * c.loop-c.c + 1) c.less_three-two.result) (4 * c.loop-c.c + 2) c.less_three-three.result)

pub returns-clause-len : goal.returns-clause-len
returns-clause-len c = c.loop-c.invariant.len

pub returns-clause-done : goal.returns-clause-done
returns-clause-done c = λ i h. c.loop-c.invariant.done i (omega (arith, h, c.loop-c-test.false))

pub returns-clause-rest : goal.returns-clause-rest
returns-clause-rest c = λ i h. c.loop-c.invariant.rest i (omega (arith, h, c.loop-c.auto.c-end))
