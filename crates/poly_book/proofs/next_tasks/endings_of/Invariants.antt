use Rattle.std.proofs.Common.{List, map, not, take, ◌≡◌}
use Rattle.poly_tiling.specs.Puzzle.{View}
use Rattle.poly_atom.specs.declared.atom.Atom.{Atom}
use Rattle.poly_atom.specs.Hopeless.{hopeless}
use Rattle.poly_book.specs.Events.{hopeless_endings}
use Rattle.poly_tasks.specs.Meaning.{own_of, tasks_of}
use Rattle.poly_book.proofs.next_tasks.endings_of.Given as goal

abbrev pub invariant-loop-i : goal.invariant-loop-i
invariant-loop-i l = (log : List (List Atom)) (w : View) → l.flags ≡ map (λ p. not (hopeless w (own_of log p.own))) l.tasks → l.all.items ≡ hopeless_endings w l.edition (tasks_of log (take l.i l.tasks))
