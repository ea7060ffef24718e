use Rattle.std.proofs.Common.{rules}
use Rattle.poly_tiling.specs.Puzzle.{same_item}
use Rattle.poly_tiling.specs.declared.item.Item.TheVariants.{Cell}
use Rattle.poly_tiling.proofs.Coded.{any_map}
use Rattle.poly_tiling.proofs.view.any_item.Goals as goal

pub returns : goal.returns
returns c =
    let e = any_map (λ j. same_item j c.args.item.now) (λ c. Cell c) c.args.cells.now in
    rw e (search (rules, c.has_cell_item.ensures))
