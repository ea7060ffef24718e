use Rattle.std.proofs.Common.{arith, subst, ℕ}
use Rattle.poly_frame.specs.Bits.{NoneIn, in_both}
use Rattle.poly_frame.proofs.Words.{first_both, none_both}
use Rattle.poly_frame.proofs.bits.next_both.Goals as goal

pub returns-in-Some : goal.returns-in-Some
returns-in-Some c = first_both c.args.words.now c.args.at c.args.rows.now c.args.from c.args.low c.loop-k.k c.loop-k.past c.both.result c.both.ensures c.loop-k.invariant.passed c.args.width c.in-Some.t (omega (arith, c.loop-k-test.true)) c.loop-k.invariant.on c.in-Some.ensures

pub loop-k-preserved : goal.loop-k-preserved
loop-k-preserved c =
    record {
      most = omega arith;
      on = omega (arith, c.loop-k.invariant.on, c.loop-k.invariant.most);
      passed = subst (λ (n : ℕ). NoneIn (in_both c.args.words.now c.args.at c.args.rows.now c.args.from) c.args.low n) (omega arith)
          (none_both c.args.words.now c.args.at c.args.rows.now c.args.from c.args.low c.loop-k.k c.loop-k.past c.both.result c.both.ensures c.loop-k.invariant.passed 64 (omega arith) c.in_default.ensures);
    }
