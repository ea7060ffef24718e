use Rattle.std.proofs.Common.{length, ◌++◌, ◌+◌, ◌≡◌, ◌≤◌}
use Rattle.std.specs.Prelude.{vec_len, vec_capacity}
use Rattle.std.specs.Vec.Iter.{into_iter_items}
use Rattle.poly_book.proofs.apply.push_endings.Given as goal

abbrev pub invariant-loop-ending : goal.invariant-loop-ending
invariant-loop-ending l = record {
  same : l.out.items ++ into_iter_items l.ending-iterator ≡ l.fn.out.items ++ l.fn.ended.items;
  room : vec_len l.out + length (into_iter_items l.ending-iterator) ≤ vec_capacity l.out;
}
