use Rattle.std.proofs.Common.{false, take, ◌≡◌}
use Rattle.std.specs.Prelude.{slice_index_or}
use Rattle.poly_place.specs.Index.{rows_without}
use Rattle.poly_place.proofs.index.copied.Given as goal

abbrev pub invariant-loop-bound : goal.invariant-loop-bound
invariant-loop-bound l = l.list.items ≡ rows_without (λ n. slice_index_or l.marks n false) l.rows (take l.bound-index l.bounds)
