use Rattle.std.proofs.Common.{arith, get_or, length, refl, ◌*◌, ◌+◌, ◌<◌, ◌∙◌}
use Rattle.std.proofs.Math.ListN.{set}
use Rattle.std.proofs.lemmas.List.{length-set}
use Rattle.poly_frame.specs.Bits.{IsLessSix}
use Rattle.poly_frame.proofs.Words.{four_done, four_len}
use Rattle.poly_frame.proofs.bits.without_six_fours.Goals as goal

pub loop-c-preserved : goal.loop-c-preserved
loop-c-preserved c =
    let ws = c.loop-c.words in
    let k = 4 * c.loop-c.c in
    let one = c.less_six-one.result in
    let two = c.less_six-two.result in
    let three = c.less_six-three.result in
    let four = c.less_six-four.result in
    let size : k + 3 < length ws = omega (arith, c.loop-c-test.true, c.requires.words, c.loop-c.invariant.len) in
    record {
      len = four_len ws k one two three four size ∙ c.loop-c.invariant.len;
      done = λ i h. four_done ws k one two three four size (λ i x. IsLessSix x (get_or c.args.row.now i 0) (get_or c.args.first.now i 0) (get_or c.args.second.now i 0) (get_or c.args.third.now i 0) (get_or c.args.fourth.now i 0) (get_or c.args.fifth.now i 0) (get_or c.args.sixth.now i 0)) c.loop-c.invariant.done
          c.less_six-one.ensures c.less_six-two.ensures c.less_six-three.ensures c.less_six-four.ensures i (omega (arith, h));
    }

pub loop-c-init : goal.loop-c-init
loop-c-init c = record {
  len = refl;
  done = λ i h. absurd (omega (arith, h));
}

pub less_six-one-requires-clause-first : goal.less_six-one-requires-clause-first
less_six-one-requires-clause-first c = omega (arith, c.loop-c-test.true, c.requires.words, c.requires.first)

pub less_six-one-requires-clause-second : goal.less_six-one-requires-clause-second
less_six-one-requires-clause-second c = omega (arith, c.loop-c-test.true, c.requires.words, c.requires.second)

pub less_six-one-requires-clause-third : goal.less_six-one-requires-clause-third
less_six-one-requires-clause-third c = omega (arith, c.loop-c-test.true, c.requires.words, c.requires.third)

pub less_six-one-requires-clause-fourth : goal.less_six-one-requires-clause-fourth
less_six-one-requires-clause-fourth c = omega (arith, c.loop-c-test.true, c.requires.words, c.requires.fourth)

pub less_six-one-requires-clause-fifth : goal.less_six-one-requires-clause-fifth
less_six-one-requires-clause-fifth c = omega (arith, c.loop-c-test.true, c.requires.words, c.requires.fifth)

pub less_six-one-requires-clause-sixth : goal.less_six-one-requires-clause-sixth
less_six-one-requires-clause-sixth c = omega (arith, c.loop-c-test.true, c.requires.words, c.requires.sixth)

pub less_six-two-requires-clause-first : goal.less_six-two-requires-clause-first
less_six-two-requires-clause-first c = omega (arith, c.loop-c-test.true, c.requires.words, c.requires.first)

pub less_six-two-requires-clause-second : goal.less_six-two-requires-clause-second
less_six-two-requires-clause-second c = omega (arith, c.loop-c-test.true, c.requires.words, c.requires.second)

pub less_six-two-requires-clause-third : goal.less_six-two-requires-clause-third
less_six-two-requires-clause-third c = omega (arith, c.loop-c-test.true, c.requires.words, c.requires.third)

pub less_six-two-requires-clause-fourth : goal.less_six-two-requires-clause-fourth
less_six-two-requires-clause-fourth c = omega (arith, c.loop-c-test.true, c.requires.words, c.requires.fourth)

pub less_six-two-requires-clause-fifth : goal.less_six-two-requires-clause-fifth
less_six-two-requires-clause-fifth c = omega (arith, c.loop-c-test.true, c.requires.words, c.requires.fifth)

pub less_six-two-requires-clause-sixth : goal.less_six-two-requires-clause-sixth
less_six-two-requires-clause-sixth c = omega (arith, c.loop-c-test.true, c.requires.words, c.requires.sixth)

pub less_six-three-requires-clause-first : goal.less_six-three-requires-clause-first
less_six-three-requires-clause-first c = omega (arith, c.loop-c-test.true, c.requires.words, c.requires.first)

pub less_six-three-requires-clause-second : goal.less_six-three-requires-clause-second
less_six-three-requires-clause-second c = omega (arith, c.loop-c-test.true, c.requires.words, c.requires.second)

pub less_six-three-requires-clause-third : goal.less_six-three-requires-clause-third
less_six-three-requires-clause-third c = omega (arith, c.loop-c-test.true, c.requires.words, c.requires.third)

pub less_six-three-requires-clause-fourth : goal.less_six-three-requires-clause-fourth
less_six-three-requires-clause-fourth c = omega (arith, c.loop-c-test.true, c.requires.words, c.requires.fourth)

pub less_six-three-requires-clause-fifth : goal.less_six-three-requires-clause-fifth
less_six-three-requires-clause-fifth c = omega (arith, c.loop-c-test.true, c.requires.words, c.requires.fifth)

pub less_six-three-requires-clause-sixth : goal.less_six-three-requires-clause-sixth
less_six-three-requires-clause-sixth c = omega (arith, c.loop-c-test.true, c.requires.words, c.requires.sixth)

pub less_six-four-requires-clause-first : goal.less_six-four-requires-clause-first
less_six-four-requires-clause-first c = omega (arith, c.loop-c-test.true, c.requires.words, c.requires.first)

pub less_six-four-requires-clause-second : goal.less_six-four-requires-clause-second
less_six-four-requires-clause-second c = omega (arith, c.loop-c-test.true, c.requires.words, c.requires.second)

pub less_six-four-requires-clause-third : goal.less_six-four-requires-clause-third
less_six-four-requires-clause-third c = omega (arith, c.loop-c-test.true, c.requires.words, c.requires.third)

pub less_six-four-requires-clause-fourth : goal.less_six-four-requires-clause-fourth
less_six-four-requires-clause-fourth c = omega (arith, c.loop-c-test.true, c.requires.words, c.requires.fourth)

pub less_six-four-requires-clause-fifth : goal.less_six-four-requires-clause-fifth
less_six-four-requires-clause-fifth c = omega (arith, c.loop-c-test.true, c.requires.words, c.requires.fifth)

pub less_six-four-requires-clause-sixth : goal.less_six-four-requires-clause-sixth
less_six-four-requires-clause-sixth c = omega (arith, c.loop-c-test.true, c.requires.words, c.requires.sixth)

pub bounds-row-k : goal.bounds-row-k
bounds-row-k c = omega (arith, c.loop-c-test.true, c.requires.words, c.requires.row)

pub bounds-row-k-in-loop-c : goal.bounds-row-k-in-loop-c
bounds-row-k-in-loop-c c = omega (arith, c.loop-c-test.true, c.requires.words, c.requires.row)

pub bounds-row-k-in-loop-c-2 : goal.bounds-row-k-in-loop-c-2
bounds-row-k-in-loop-c-2 c = omega (arith, c.loop-c-test.true, c.requires.words, c.requires.row)

pub bounds-row-k-in-loop-c-3 : goal.bounds-row-k-in-loop-c-3
bounds-row-k-in-loop-c-3 c = omega (arith, c.loop-c-test.true, c.requires.words, c.requires.row)

pub bounds-words-k : goal.bounds-words-k
bounds-words-k c = omega (arith, c.loop-c-test.true, c.requires.words, c.loop-c.invariant.len)

pub bounds-words-k-in-loop-c : goal.bounds-words-k-in-loop-c
bounds-words-k-in-loop-c c = omega (arith, c.loop-c-test.true, c.requires.words, c.loop-c.invariant.len, length-set c.loop-c.words (4 * c.loop-c.c) c.less_six-one.result)

pub bounds-words-k-in-loop-c-2 : goal.bounds-words-k-in-loop-c-2
bounds-words-k-in-loop-c-2 c = omega (arith, c.loop-c-test.true, c.requires.words, c.loop-c.invariant.len, length-set c.loop-c.words (4 * c.loop-c.c) c.less_six-one.result, length-set (set c.loop-c.words (4 * c.loop-c.c) c.less_six-one.result) (4 * c.loop-c.c + 1) c.less_six-two.result)

pub bounds-words-k-in-loop-c-3 : goal.bounds-words-k-in-loop-c-3
bounds-words-k-in-loop-c-3 c = omega (arith, c.loop-c-test.true, c.requires.words, c.loop-c.invariant.len, length-set c.loop-c.words (4 * c.loop-c.c) c.less_six-one.result, length-set (set c.loop-c.words (4 * c.loop-c.c) c.less_six-one.result) (4 * c.loop-c.c + 1) c.less_six-two.result, length-set (set (set c.loop-c.words (4 * c.loop-c.c) c.less_six-one.result) (4 * c.loop-c.c + 1) c.less_six-two.result) (4 * c.loop-c.c + 2) c.less_six-three.result)

pub returns-clause-len : goal.returns-clause-len
returns-clause-len c = c.loop-c.invariant.len

pub returns-clause-done : goal.returns-clause-done
returns-clause-done c = λ i h. c.loop-c.invariant.done i (omega (arith, h, c.loop-c-test.false))
