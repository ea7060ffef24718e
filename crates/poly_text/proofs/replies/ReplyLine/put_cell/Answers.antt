use Rattle.std.proofs.Common.{◌≤◌, ℕ, ap, arith, length, length-append}
use Rattle.std.specs.Fmt.{decimal}
use Rattle.poly_text.proofs.Digits.{coordinate_short}
use Rattle.poly_text.proofs.replies.ReplyLine.put_cell.Goals as goal

pub put-requires : goal.put-requires
put-requires c =
    let x : length (decimal c.from.result) ≤ 2 = coordinate_short c.from.result (omega arith) in
    omega (arith, x, ap length c.put_number.ensures, length-append c.args.self.now (decimal c.from.result))

pub put_number-requires-2 : goal.put_number-requires-2
put_number-requires-2 c =
    let x : length (decimal c.from.result) ≤ 2 = coordinate_short c.from.result (omega arith) in
    let y : length (decimal c.from-2.result) ≤ 2 = coordinate_short c.from-2.result (omega arith) in
    omega (arith, x, y, ap length c.put_number.ensures, ap length c.put.ensures, length-append {A = ℕ})

pub returns-clause-short : goal.returns-clause-short
returns-clause-short c =
    let x : length (decimal c.from.result) ≤ 2 = coordinate_short c.from.result (omega arith) in
    let y : length (decimal c.from-2.result) ≤ 2 = coordinate_short c.from-2.result (omega arith) in
    omega (arith, x, y, ap length c.put_number.ensures, ap length c.put.ensures, ap length c.put_number-2.ensures, length-append {A = ℕ})
