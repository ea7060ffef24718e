use Rattle.std.proofs.Common.{Some, ap, arith, length, sym, ◌∙◌}
use Rattle.poly_catalogue.proofs.Written.{number_read, row_read, there}
use Rattle.poly_catalogue.proofs.rows.read.Goals as goal

pub get-requires : goal.get-requires
get-requires c =
    let low = there c.args.rows.now c.args.key c.args.position c.requires in
    omega (arith, ap length (row_read c.args.rows.now c.args.key c.index-rows-key.result low.0 c.index-rows-key.is), low.1)

pub returns : goal.returns
returns c =
    let low = there c.args.rows.now c.args.key c.args.position c.requires in
    number_read c.args.rows.now c.args.key c.args.position c.index-rows-key.result low (row_read c.args.rows.now c.args.key c.index-rows-key.result low.0 c.index-rows-key.is)
    ∙ ap Some (sym c.get.ensures)
