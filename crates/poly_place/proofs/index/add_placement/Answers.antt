use Rattle.std.proofs.Common.{List, [], ap, subst, sym, ◌∙◌, ◌∷◌}
use Rattle.std.specs.List.{list_any}
use Rattle.poly_grid.specs.Spot.{Spot}
use Rattle.poly_tiling.specs.Puzzle.{same_item}
use Rattle.poly_tiling.specs.declared.item.Item.TheVariants.{Cell, Piece}
use Rattle.poly_place.specs.Index.{AreRows, Row, with_numbers}
use Rattle.poly_place.proofs.Rows.{rows_stay, to_items}
use Rattle.poly_place.proofs.index.add_placement.Goals as goal

pub add_cells-requires-clause-rows : goal.add_cells-requires-clause-rows
add_cells-requires-clause-rows c =
    subst (λ (rs : List Row). AreRows rs) (sym c.in_ok-add.ensures.ok) (rows_stay (λ n i. same_item (Piece c.args.placement.now.name) i) (c.args.number ∷ []) c.args.rows.now c.requires)

pub returns-clause-ok : goal.returns-clause-ok
returns-clause-ok c =
    let p = c.args.placement.now in
    let n = c.args.number in
    c.in_ok-add_cells.ensures.ok
    ∙ ap (λ (cells : List Spot). with_numbers (λ m i. list_any (λ d. same_item (Cell d) i) cells) (n ∷ []) c.add.new.rows) c.as_slice.ensures.value
    ∙ ap (λ (rs : List Row). with_numbers (λ m i. list_any (λ d. same_item (Cell d) i) p.cells) (n ∷ []) rs) c.in_ok-add.ensures.ok
    ∙ to_items p.name p.cells n c.args.rows.now
