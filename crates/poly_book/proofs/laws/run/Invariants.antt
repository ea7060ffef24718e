use Rattle.std.proofs.Common.{List, length, ◌++◌, ◌+◌, ◌≤◌}
use Rattle.std.specs.Prelude.{vec_len, vec_capacity}
use Rattle.std.specs.Vec.Iter.{into_iter_items}
use Rattle.poly_book.specs.declared.laws.Reply.{Reply}
use Rattle.poly_book.specs.Happenings.{AllHappen}
use Rattle.poly_book.specs.States.{State}
use Rattle.poly_book.proofs.laws.run.Given as goal

abbrev pub invariant-loop-event : goal.invariant-loop-event
invariant-loop-event l = record {
  happen : (rs : List Reply) (t : State) → AllHappen (into_iter_items l.event-iterator) l.book rs t → AllHappen l.fn.events.items l.fn.book (l.replies.items ++ rs) t;
  room : vec_len l.replies + length (into_iter_items l.event-iterator) ≤ vec_capacity l.replies;
}
