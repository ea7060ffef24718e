use Rattle.std.proofs.Common.{[], take, ◌∷◌, ◌≡◌}
use Rattle.std.specs.List.{list_any}
use Rattle.poly_tiling.specs.Puzzle.{same_item}
use Rattle.poly_tiling.specs.declared.item.Item.TheVariants.{Cell}
use Rattle.poly_place.specs.Index.{with_numbers}
use Rattle.poly_place.proofs.index.add_cells.Given as goal

abbrev pub invariant-loop-cell : goal.invariant-loop-cell
invariant-loop-cell l = l.rows ≡ with_numbers (λ n i. list_any (λ c. same_item (Cell c) i) (take l.cell-index l.cells)) (l.number ∷ []) l.fn.rows
