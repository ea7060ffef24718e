use Rattle.std.proofs.Common.{◌-◌}
use Rattle.poly_catalogue.proofs.Left.{has_number}
use Rattle.poly_catalogue.proofs.entries.move_last_over.Goals as goal

pub nth_of-nth-requires : goal.nth_of-nth-requires
nth_of-nth-requires c = has_number c.args.tilings.now c.args.positions.now c.args.rows.now c.args.number (c.count-last.result - 1) c.read-tiling.result c.requires.part c.read-tiling.ensures
