use Rattle.std.proofs.Common.{arith, get_or, length, refl, ◌<◌, ◌∙◌}
use Rattle.std.proofs.lemmas.List.{length-set}
use Rattle.poly_frame.specs.Bits.{IsLessSix}
use Rattle.poly_frame.proofs.Words.{other_at, put_done}
use Rattle.poly_frame.proofs.bits.without_six_rest.Goals as goal

pub loop-k-preserved : goal.loop-k-preserved
loop-k-preserved c =
    let ws = c.loop-k.words in
    let k = c.loop-k.k in
    let new = c.less_six.result in
    let size : k < length ws = omega (arith, c.loop-k-test.true, c.loop-k.invariant.len) in
    record {
      len = length-set ws k new ∙ c.loop-k.invariant.len;
      done = λ i g h. put_done ws k new c.args.from (λ i x. IsLessSix x (get_or c.args.row.now i 0) (get_or c.args.first.now i 0) (get_or c.args.second.now i 0) (get_or c.args.third.now i 0) (get_or c.args.fourth.now i 0) (get_or c.args.fifth.now i 0) (get_or c.args.sixth.now i 0)) size c.loop-k.invariant.done c.less_six.ensures i g (omega (arith, h));
      before = λ i h. other_at ws k new i (λ e. absurd (omega (arith, h))) ∙ c.loop-k.invariant.before i h;
    }

pub loop-k-init : goal.loop-k-init
loop-k-init c = record {
  len = refl;
  done = λ i g h. absurd (omega (arith, g, h));
  before = λ i h. refl;
}

pub bounds-row-k : goal.bounds-row-k
bounds-row-k c = omega (arith, c.loop-k-test.true, c.requires.row)

pub less_six-requires-clause-first : goal.less_six-requires-clause-first
less_six-requires-clause-first c = omega (arith, c.loop-k-test.true, c.requires.first)

pub less_six-requires-clause-second : goal.less_six-requires-clause-second
less_six-requires-clause-second c = omega (arith, c.loop-k-test.true, c.requires.second)

pub less_six-requires-clause-third : goal.less_six-requires-clause-third
less_six-requires-clause-third c = omega (arith, c.loop-k-test.true, c.requires.third)

pub less_six-requires-clause-fourth : goal.less_six-requires-clause-fourth
less_six-requires-clause-fourth c = omega (arith, c.loop-k-test.true, c.requires.fourth)

pub less_six-requires-clause-fifth : goal.less_six-requires-clause-fifth
less_six-requires-clause-fifth c = omega (arith, c.loop-k-test.true, c.requires.fifth)

pub less_six-requires-clause-sixth : goal.less_six-requires-clause-sixth
less_six-requires-clause-sixth c = omega (arith, c.loop-k-test.true, c.requires.sixth)

pub bounds-words-k : goal.bounds-words-k
bounds-words-k c = omega (arith, c.loop-k-test.true, c.loop-k.invariant.len)

pub returns-clause-len : goal.returns-clause-len
returns-clause-len c = c.loop-k.invariant.len

pub returns-clause-done : goal.returns-clause-done
returns-clause-done c = λ i g h. c.loop-k.invariant.done i g (omega (arith, h, c.loop-k-test.false))

pub returns-clause-before : goal.returns-clause-before
returns-clause-before c = c.loop-k.invariant.before
