use Rattle.std.proofs.Common.{◌≤◌, ℕ, ap, arith, length, length-append}
use Rattle.std.specs.Fmt.{decimal}
use Rattle.poly_text.proofs.Digits.{number_short}
use Rattle.poly_text.proofs.replies.ReplyLine.item.Goals as goal

pub put_number-requires : goal.put_number-requires
put_number-requires c =
    let n : length (decimal c.args.count) ≤ 20 = number_short c.args.count (omega arith) in
    omega (arith, n, ap length c.clear.ensures, ap length c.put.ensures, c.put_item.ensures.short, ap length c.put-2.ensures, length-append {A = ℕ})

pub put-requires-3 : goal.put-requires-3
put-requires-3 c =
    let n : length (decimal c.args.count) ≤ 20 = number_short c.args.count (omega arith) in
    omega (arith, n, ap length c.clear.ensures, ap length c.put.ensures, c.put_item.ensures.short, ap length c.put-2.ensures, ap length c.put_number.ensures, length-append {A = ℕ})
