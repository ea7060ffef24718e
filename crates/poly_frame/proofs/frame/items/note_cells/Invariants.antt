use Rattle.std.proofs.Common.{List, map, take, vec_capacity, vec_len, ℕ, ◌++◌, ◌+◌, ◌≡◌, ◌≤◌}
use Rattle.poly_tiling.specs.declared.item.Item.TheVariants.{Cell}
use Rattle.poly_frame.specs.FrameItems.{Noted}
use Rattle.poly_frame.proofs.frame.items.note_cells.Given as goal

abbrev pub invariant-loop-cell : goal.invariant-loop-cell
invariant-loop-cell l = record {
  len : vec_len l.noted ≤ vec_len l.fn.noted + l.cell-index;
  capacity : vec_capacity l.noted ≡ vec_capacity l.fn.noted;
  indices : (indices : List ℕ) × (l.noted.items ≡ l.fn.noted.items ++ indices) × Noted l.bounds (map (λ c. Cell c) (take l.cell-index l.cells)) indices;
}
