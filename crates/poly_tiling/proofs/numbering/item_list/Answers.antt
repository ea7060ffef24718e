use Rattle.std.proofs.Common.{ap, map, sym, true, ◌++◌, ◌∙◌, ◌≡◌}
use Rattle.std.specs.List.{list_all}
use Rattle.poly_tiling.specs.Shows.{cell_bound, item_bounds, piece_bound}
use Rattle.poly_tiling.proofs.Plain.{bounds_small, small}
use Rattle.poly_tiling.proofs.numbering.item_list.Goals as goal

pub returns-clause-small : goal.returns-clause-small
returns-clause-small c =
    let d = c.args.design.now in
    let cells = c.cells.result.now.entries in
    let pieces = c.pieces.result.now.entries in
    let first : c.add_cells.new.list.items ≡ map cell_bound cells = c.in_ok-add_cells.ensures.ok ∙ ap (λ l. l ++ map cell_bound cells) c.new-list.ensures.items in
    let whole : c.add_pieces.new.list.items ≡ item_bounds d =
    c.in_ok-add_pieces.ensures.ok
    ∙ ap (λ l. l ++ map piece_bound pieces) first
    ∙ ap (λ l. map cell_bound l ++ map piece_bound pieces) c.cells.ensures.value
    ∙ ap (λ l. map cell_bound d.cells ++ map piece_bound l) c.pieces.ensures.value in
    let fits : list_all small (map piece_bound d.pieces) ≡ true = ap (λ l. list_all small (map piece_bound l)) (sym c.pieces.ensures.value) ∙ c.in_ok-add_pieces.ensures.small in
    ap (λ l. list_all small l) whole ∙ bounds_small d fits
