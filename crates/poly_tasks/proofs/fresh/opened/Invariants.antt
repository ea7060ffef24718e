use Rattle.std.proofs.Common.{List, drop, length, true, ◌+◌, ◌≡◌, ◌≤◌}
use Rattle.poly_atom.specs.declared.atom.Atom.{Atom}
use Rattle.poly_tasks.specs.Tasks.{AreHopeful}
use Rattle.poly_tasks.specs.Opens.{Opening}
use Rattle.poly_tasks.proofs.fresh.opened.Given as goal

abbrev pub invariant-loop-index : goal.invariant-loop-index
invariant-loop-index l = record {
  same : (log : List (List Atom)) → length log ≡ l.made → Opening log l.fn.next l.number l.view l.fn.all (drop l.index l.fn.all) l.tasks.items;
  number : l.fn.next + length l.tasks.items ≡ l.number;
  few : l.number ≤ 4294967296;
  sure : l.sure ≡ true → AreHopeful l.view (drop l.index l.fn.all);
}
