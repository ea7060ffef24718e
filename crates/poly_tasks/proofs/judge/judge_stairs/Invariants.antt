use Rattle.std.proofs.Common.{take, ◌++◌, ◌≡◌}
use Rattle.poly_atom.specs.Stairs.{stairs}
use Rattle.poly_tasks.specs.Judged.{AreJudged}
use Rattle.poly_tasks.proofs.judge.judge_stairs.Given as goal

abbrev pub invariant-loop-index : goal.invariant-loop-index
invariant-loop-index l = record {
  atoms : l.atoms.items ≡ l.fn.atoms.items ++ take l.index l.guards;
  flags : AreJudged l.view l.fn.atoms.items (take l.index (stairs l.guards)) l.flags.items;
}
