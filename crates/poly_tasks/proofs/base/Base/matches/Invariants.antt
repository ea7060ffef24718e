use Rattle.std.proofs.Common.{drop, length, take, ◌++◌, ◌-◌, ◌≡◌, ◌≤◌}
use Rattle.poly_tasks.specs.Meaning.{excerpts_of}
use Rattle.poly_tasks.proofs.base.Base.matches.Given as goal

abbrev pub invariant-loop-done : goal.invariant-loop-done
invariant-loop-done l = record {
  low : l.end ≤ length l.atoms;
  same : take l.end l.atoms ++ excerpts_of l.log (drop (l.count - l.done) l.self.excerpts.items) ≡ l.atoms;
}
