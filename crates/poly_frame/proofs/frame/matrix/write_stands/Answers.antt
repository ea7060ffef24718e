use Rattle.std.specs.Result.{OkIff}
use Rattle.std.proofs.Common.{subst, arith, get_or, length, ◌<◌}
use Rattle.std.proofs.lemmas.List.{length-set}
use Rattle.poly_frame.proofs.FrameOpen.{stands_step}
use Rattle.poly_frame.proofs.frame.matrix.write_stands.Goals as goal

pub loop-j-preserved : goal.loop-j-preserved
loop-j-preserved c =
    let ns = c.args.numbers.now in
    let inv = c.loop-j.invariant in
    let told = subst (λ r. OkIff r (length ns < 4294967296) (length ns)) c.in-Ok.is c.try_from.ensures in
    let lt : c.loop-j.j < length ns = omega (arith, c.loop-j-test.true, told.1) in
    let low : get_or ns c.loop-j.j 0 < length c.loop-j.stands.items = omega (arith, inv.len, c.requires.above c.loop-j.j lt) in
    record {
      len = omega (arith, length-set c.loop-j.stands.items (get_or ns c.loop-j.j 0) c.loop-j.j, inv.len);
      done = stands_step ns c.loop-j.stands.items c.loop-j.j c.requires.once lt low inv.done;
    }
