use Rattle.std.proofs.Common.{ap, arith, length, ◌++◌, ◌-◌, ◌∙◌}
use Rattle.poly_tasks.proofs.Spotting.{since_low, spotted_since}
use Rattle.poly_tasks.proofs.spots.Spots.append_since.Goals as goal

pub overflow_sub-start : goal.overflow_sub-start
overflow_sub-start c = omega (arith, since_low c.args.log.now c.args.edition, ap length c.since.ensures, c.total.ensures)

pub returns-clause-ok : goal.returns-clause-ok
returns-clause-ok c =
    let log = c.args.log.now in
    let s = c.args.self.now in
    let start = c.total.result - length c.since.result.now in
    c.in_ok-append_within.ensures.ok
    ∙ ap (λ A. c.args.atoms.now.items ++ A) (spotted_since log s.placements.items c.args.edition c.args.count start c.deref.result.now (c.deref.ensures.value ∙ c.requires.spots) (omega (arith, ap length c.since.ensures, c.total.ensures)))
