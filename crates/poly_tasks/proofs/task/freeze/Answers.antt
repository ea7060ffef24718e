use Rattle.std.proofs.lemmas.Grind.{common_steps}
use Rattle.std.proofs.Common.{ap, arith, drop, length, sym, take, ◌++◌, ◌≡◌}
use Rattle.std.proofs.lemmas.List.{take_all}
use Rattle.poly_atom.specs.Logs.{flat}
use Rattle.poly_tasks.specs.Meaning.{own_of, task_of}
use Rattle.poly_tasks.specs.Tasks.{atoms_of}
use Rattle.poly_tasks.proofs.Sparing.{spares_same}
use Rattle.poly_tasks.proofs.task.freeze.Goals as goal

pub returns-clause-frozen : goal.returns-clause-frozen
returns-clause-frozen c =
    let log = c.args.log.now in
    let p = c.args.task.now in
    let laid = flat (drop p.made log) in
    let own : own_of log c.in_ok-own.own ≡ own_of log p.own = c.in_ok-own.ensures.same log in
    let all : take (length c.since-count.result.now) laid ≡ laid = take_all (length c.since-count.result.now) laid (omega (arith, ap length c.since-count.ensures)) in
    record {
      own = c.in_ok-own.ensures.own log c.requires.task.own;
      made = c.requires.task.made;
      count = omega (arith, ap length c.since-count.ensures);
      spares = spares_same (own_of log p.own) (atoms_of (task_of log p)) _ _ (sym own) (sym (λ i. own i ++ all i)) c.requires.spares;
    }

pub returns-clause-atoms : goal.returns-clause-atoms
returns-clause-atoms c = grind (arith, common_steps)
