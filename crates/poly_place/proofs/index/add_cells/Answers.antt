use Rattle.std.proofs.Common.{List, [], ap, subst, sym, take, ◌∙◌, ◌∷◌}
use Rattle.std.proofs.lemmas.List.{take_all}
use Rattle.std.specs.List.{list_any}
use Rattle.poly_grid.specs.Spot.{Spot}
use Rattle.poly_tiling.specs.Puzzle.{same_item}
use Rattle.poly_tiling.specs.declared.item.Item.TheVariants.{Cell}
use Rattle.poly_place.specs.Index.{AreRows, Row, with_numbers}
use Rattle.poly_place.proofs.Rows.{rows_stay, to_next, to_no_cell}
use Rattle.poly_place.proofs.index.add_cells.Goals as goal

pub loop-cell-init : goal.loop-cell-init
loop-cell-init c = to_no_cell c.args.number c.args.rows.now

pub add-requires : goal.add-requires
add-requires c = subst (λ (rs : List Row). AreRows rs) (sym c.loop-cell.invariant)
    (rows_stay (λ n i. list_any (λ d. same_item (Cell d) i) (take c.loop-cell.cell-index c.args.cells.now)) (c.args.number ∷ []) c.args.rows.now c.requires.rows)

pub loop-cell-preserved : goal.loop-cell-preserved
loop-cell-preserved c =
    c.in_ok-add.ensures.ok
    ∙ ap (λ (rs : List Row). with_numbers (λ n i. same_item (Cell c.cell-item.result) i) (c.args.number ∷ []) rs) c.loop-cell.invariant
    ∙ to_next c.args.cells.now c.loop-cell.cell-index c.cell-item.result c.args.number c.args.rows.now c.requires.apart c.loop-cell-test.true c.cell-item.is

pub returns-clause-ok : goal.returns-clause-ok
returns-clause-ok c =
    c.loop-cell.invariant ∙ ap (λ (l : List Spot). with_numbers (λ n i. list_any (λ d. same_item (Cell d) i) l) (c.args.number ∷ []) c.args.rows.now) (take_all c.loop-cell.cell-index c.args.cells.now c.loop-cell-test.false)
