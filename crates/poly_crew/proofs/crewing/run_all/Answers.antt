use Rattle.std.proofs.Common.{arith, length, ◌≡◌}
use Rattle.std.proofs.lemmas.List.{take_at}
use Rattle.poly_crew.specs.Worked.{HasRun}
use Rattle.poly_crew.proofs.Workers.{zipped}
use Rattle.poly_crew.proofs.crewing.run_all.Goals as goal

pub returns : goal.returns
returns g c =
    let all = zipped (HasRun g.B.Bench.changes g.B.Bench.cuts g.B.Bench.gave g.B.Bench.found_none g.B.Bench.refused c.args.work.now.turns) _ _ c.run_each.ensures.count c.run_each.ensures.each in
    let long : length c.run_each.new.workers ≡ c.args.workers.now.len = omega arith in
    rw (take_at, ← c.as_mut_slice.ensures.value) all
