use Rattle.std.proofs.Common.{List, ap, get_or, refl, sym, ◌&&◌, ◌∙◌}
use Rattle.std.specs.List.{list_all}
use Rattle.std.proofs.lemmas.List.{take_all}
use Rattle.std.proofs.lemmas.List.Folds.{list_all_at, list_all_more}
use Rattle.poly_grid.specs.Spot.{Spot}
use Rattle.poly_tiling.specs.declared.item.Item.TheVariants.{Cell}
use Rattle.poly_frame.specs.FrameConsistent.{item_fits}
use Rattle.poly_frame.proofs.frame.right.cells_fit.Goals as goal

pub loop-cell-init : goal.loop-cell-init
loop-cell-init c = refl

pub bounds-cells-cell-index : goal.bounds-cells-cell-index
bounds-cells-cell-index c = c.loop-cell-test.true

pub item_fits-requires-clause-kept : goal.item_fits-requires-clause-kept
item_fits-requires-clause-kept c = c.requires.kept

pub item_fits-requires-clause-members : goal.item_fits-requires-clause-members
item_fits-requires-clause-members c = c.requires.members

pub loop-cell-preserved : goal.loop-cell-preserved
loop-cell-preserved c =
    let f = λ (s : Spot). item_fits c.args.node.now.view.now c.args.node.now.trail.now (Cell s) in
    let cells = c.args.cells.now in
    let k = c.loop-cell.cell-index in
    let cell = c.cell-item.result in
    list_all_more f cells k cell c.loop-cell-test.true ∙ ap (λ y. y && f (get_or cells k cell)) c.loop-cell.invariant ∙ ap f (sym c.cell-item.is) ∙ sym c.item_fits.ensures ∙ c.if-not-item_fits.false

pub returns-then-not-item_fits : goal.returns-then-not-item_fits
returns-then-not-item_fits c =
    let f = λ (s : Spot). item_fits c.args.node.now.view.now c.args.node.now.trail.now (Cell s) in
    let cells = c.args.cells.now in
    let k = c.loop-cell.cell-index in
    sym (list_all_at f cells k c.cell-item.result c.loop-cell-test.true (ap f (sym c.cell-item.is) ∙ sym c.item_fits.ensures ∙ c.if-not-item_fits.true))

pub returns : goal.returns
returns c =
    let f = λ (s : Spot). item_fits c.args.node.now.view.now c.args.node.now.trail.now (Cell s) in
    let cells = c.args.cells.now in
    let k = c.loop-cell.cell-index in
    sym c.loop-cell.invariant ∙ ap (λ (xs : List Spot). list_all f xs) (take_all k cells c.loop-cell-test.false)
