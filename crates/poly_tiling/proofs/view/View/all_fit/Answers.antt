use Rattle.std.proofs.Common.{rules}
use Rattle.std.specs.Prelude.{nat_le}
use Rattle.poly_tiling.specs.Puzzle.{count, most}
use Rattle.poly_tiling.specs.declared.item.Item.TheVariants.{Cell}
use Rattle.poly_tiling.proofs.Coded.{all_map_is}
use Rattle.poly_tiling.proofs.view.View.all_fit.Goals as goal

pub returns : goal.returns
returns c =
    let v = c.args.self.now in
    let T = c.args.numbers.now in
    let e = all_map_is (λ i. nat_le (count v T i) (most v i)) (λ c. Cell c) c.args.cells.now in
    rw e (search (rules, c.cells_fit.ensures))
