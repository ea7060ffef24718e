use Rattle.std.proofs.Common.{arith, get_or, length, refl, subst, ℕ, ◌<◌, ◌∙◌}
use Rattle.std.proofs.lemmas.List.{length-set}
use Rattle.poly_frame.specs.Bits.{IsLess}
use Rattle.poly_frame.proofs.Words.{other_at, put_done}
use Rattle.poly_frame.proofs.bits.take_out_rest.Goals as goal

pub loop-k-init : goal.loop-k-init
loop-k-init c = record {
  len = refl;
  done = λ i g h. absurd (omega (arith, g, h));
  before = λ i h. refl;
  rest = λ i h. refl;
}

pub bounds-words-k : goal.bounds-words-k
bounds-words-k c = omega (arith, c.loop-k-test.true, c.loop-k.invariant.len)

pub less_three-requires-clause-first : goal.less_three-requires-clause-first
less_three-requires-clause-first c = omega (arith, c.loop-k-test.true, c.requires.first)

pub less_three-requires-clause-second : goal.less_three-requires-clause-second
less_three-requires-clause-second c = omega (arith, c.loop-k-test.true, c.requires.second)

pub less_three-requires-clause-third : goal.less_three-requires-clause-third
less_three-requires-clause-third c = omega (arith, c.loop-k-test.true, c.requires.third)

pub bounds-words-k-in-loop-k : goal.bounds-words-k-in-loop-k
bounds-words-k-in-loop-k c = omega (arith, c.loop-k-test.true, c.loop-k.invariant.len)

pub loop-k-preserved : goal.loop-k-preserved
loop-k-preserved c =
    let ws = c.loop-k.words in
    let k = c.loop-k.k in
    let new = c.less_three.result in
    let xs = c.args.first.now in
    let ys = c.args.second.now in
    let zs = c.args.third.now in
    let size : k < length ws = omega (arith, c.loop-k-test.true, c.loop-k.invariant.len) in
    let made = subst (λ (x : ℕ). IsLess new x (get_or xs k 0) (get_or ys k 0) (get_or zs k 0)) (c.loop-k.invariant.rest k (omega arith)) c.less_three.ensures in
    record {
      len = length-set ws k new ∙ c.loop-k.invariant.len;
      done = λ i g h. put_done ws k new c.args.from (λ i x. IsLess x (get_or c.args.words.now i 0) (get_or xs i 0) (get_or ys i 0) (get_or zs i 0)) size c.loop-k.invariant.done made i g (omega (arith, h));
      before = λ i h. other_at ws k new i (λ e. absurd (omega (arith, h))) ∙ c.loop-k.invariant.before i h;
      rest = λ i h. other_at ws k new i (λ e. absurd (omega (arith, h))) ∙ c.loop-k.invariant.rest i (omega (arith, h));
    }

pub returns-clause-len : goal.returns-clause-len
returns-clause-len c = c.loop-k.invariant.len

pub returns-clause-done : goal.returns-clause-done
returns-clause-done c = λ i g h. c.loop-k.invariant.done i g (omega (arith, h, c.loop-k-test.false))

pub returns-clause-before : goal.returns-clause-before
returns-clause-before c = c.loop-k.invariant.before
