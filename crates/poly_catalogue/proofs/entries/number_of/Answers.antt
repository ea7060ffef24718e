use Rattle.std.proofs.Common.{ap, arith, length, ◌∙◌, ◌≡◌}
use Rattle.poly_catalogue.specs.Rows.{row}
use Rattle.poly_catalogue.proofs.Written.{number_read, row_read, there}
use Rattle.poly_catalogue.proofs.entries.number_of.Goals as goal

pub offset_bounds-numbers-nth : goal.offset_bounds-numbers-nth
offset_bounds-numbers-nth c =
    let low = there c.args.tilings.now c.args.tiling c.args.nth c.requires in
    let is : c.numbers.result.now ≡ row c.args.tilings.now c.args.tiling = c.numbers.ensures.value ∙ row_read c.args.tilings.now c.args.tiling c.index-tilings-tiling.result low.0 c.index-tilings-tiling.is in
    let long : length c.numbers.result.now ≡ length (row c.args.tilings.now c.args.tiling) = ap length is in
    omega (arith, low.1)

pub bounds-numbers-nth : goal.bounds-numbers-nth
bounds-numbers-nth c =
    let low = there c.args.tilings.now c.args.tiling c.args.nth c.requires in
    let is : c.numbers.result.now ≡ row c.args.tilings.now c.args.tiling = c.numbers.ensures.value ∙ row_read c.args.tilings.now c.args.tiling c.index-tilings-tiling.result low.0 c.index-tilings-tiling.is in
    let long : length c.numbers.result.now ≡ length (row c.args.tilings.now c.args.tiling) = ap length is in
    omega (arith, low.1)

pub returns : goal.returns
returns c = number_read c.args.tilings.now c.args.tiling c.args.nth c.numbers.result.now (there c.args.tilings.now c.args.tiling c.args.nth c.requires)
    (c.numbers.ensures.value ∙ row_read c.args.tilings.now c.args.tiling c.index-tilings-tiling.result (there c.args.tilings.now c.args.tiling c.args.nth c.requires).0 c.index-tilings-tiling.is)
