use Rattle.std.proofs.Common.{arith, ◌*◌, ◌+◌, ◌-◌}
use Rattle.poly_frame.proofs.Words.{part_bits}
use Rattle.poly_frame.proofs.frame.steps.item_row.Goals as goal

pub returns-clause-bits : goal.returns-clause-bits
returns-clause-bits c = λ j h.
    let w = c.args.width in
    let at = w * c.args.b in
    part_bits c.args.rows.now at w (at + w - at) j (omega arith) h
