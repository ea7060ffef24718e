use Rattle.std.proofs.Common.{List, ℕ, ◌&&◌, ◌≡◌}
use Rattle.std.specs.List.{list_all}
use Rattle.std.specs.Slice.Iter.{chunks_rest, chunks_size}
use Rattle.poly_browse.specs.Gathering.{AreSmall, has_it}
use Rattle.poly_browse.specs.Lines.{have_all}
use Rattle.poly_browse.proofs.covers.covers_of.Given as goal

abbrev pub invariant-loop-some : goal.invariant-loop-some
invariant-loop-some l = record {
  size : chunks_size l.some-iterator ≡ 64;
  so_far : (T : List ℕ) → AreSmall T → (list_all (λ m. have_all m T) l.masks.items && list_all (λ i. has_it l.view T i) (chunks_rest l.some-iterator)) ≡ list_all (λ i. has_it l.view T i) l.items;
}
