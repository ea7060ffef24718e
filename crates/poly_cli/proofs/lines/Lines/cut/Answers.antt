use Rattle.std.proofs.Common.{◌-◌, take, drop}
use Rattle.poly_cli.proofs.Cuts.{ahead_found, ahead_past, ahead_none}
use Rattle.poly_cli.proofs.lines.Lines.cut.Goals as goal

pub returns-in-Some-clause-cut : goal.returns-in-Some-clause-cut
returns-in-Some-clause-cut c = λ begun is.
    let b = c.args.self.now in (
      take c.in-Some.taken (take (b.end - b.at) (drop b.at c.deref.result.now)),
      ahead_found c.in-Some.taken b.at b.end b.chunk.items c.deref.result.now c.deref.ensures.value c.requires.ready.order c.in-Some.ensures.within,
      c.in-Some.ensures.gathered begun is,
    )

pub returns-in-None-clause-cut : goal.returns-in-None-clause-cut
returns-in-None-clause-cut c = λ begun is.
    let b = c.args.self.now in (
      take (b.end - b.at) (drop b.at c.deref.result.now),
      ahead_past b.at b.end b.chunk.items c.deref.result.now c.deref.ensures.value,
      (c.in-None.ensures.gathered begun is, ahead_none b.end b.chunk.items),
    )
