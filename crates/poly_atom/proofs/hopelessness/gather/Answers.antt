use Rattle.std.proofs.Common.{ap, arith, not, take, ◌+◌}
use Rattle.poly_tiling.specs.Lists.{one}
use Rattle.poly_atom.proofs.Asked.{gathered_more}
use Rattle.poly_atom.proofs.Crowds.{counted_all, counted_more}
use Rattle.poly_atom.proofs.hopelessness.gather.Goals as goal

pub loop-atom-preserved : goal.loop-atom-preserved
loop-atom-preserved c =
    let more = counted_more c.args.atoms.now c.loop-atom.atom-index _ c.atom-item.result (take c.loop-atom.count c.loop-atom.list) c.loop-atom-test.true c.atom-item.is c.loop-atom.invariant.same in
    record {
      fits = c.in-Some.ensures.fits;
      counted = omega (arith, more, c.in-Some.ensures.counted, c.loop-atom.invariant.counted);
      same = gathered_more c.args.atoms.now c.loop-atom.atom-index _ c.atom-item.result (take c.loop-atom.count c.loop-atom.list) (take c.in-Some.next c.gather_one.new.list) c.loop-atom-test.true c.atom-item.is
          c.loop-atom.invariant.same c.in-Some.ensures.same;
    }

pub returns-in-None-clause-many : goal.returns-in-None-clause-many
returns-in-None-clause-many c =
    let more = counted_more c.args.atoms.now c.loop-atom.atom-index _ c.atom-item.result (take c.loop-atom.count c.loop-atom.list) c.loop-atom-test.true c.atom-item.is c.loop-atom.invariant.same in
    let new = ap (λ b. one (not b)) c.in-None.ensures.full.1 in
    let all = counted_all c.args.atoms.now (c.loop-atom.atom-index + 1) in
    omega (arith, more, new, all, c.in-None.ensures.full.0, c.loop-atom.invariant.counted, c.loop-atom.auto.list)
