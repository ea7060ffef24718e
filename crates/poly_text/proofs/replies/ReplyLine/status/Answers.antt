use Rattle.std.proofs.Common.{◌≤◌, ℕ, ap, arith, length, length-append}
use Rattle.std.specs.Fmt.{decimal}
use Rattle.poly_text.proofs.Digits.{number_short}
use Rattle.poly_text.proofs.replies.ReplyLine.status.Goals as goal

pub put_number-requires-2 : goal.put_number-requires-2
put_number-requires-2 c =
    let e : length (decimal c.args.edition) ≤ 20 = number_short c.args.edition (omega arith) in
    let l : length (decimal c.args.listed) ≤ 20 = number_short c.args.listed (omega arith) in
    omega (arith, e, l, ap length c.clear.ensures, ap length c.put.ensures, ap length c.put_number.ensures, ap length c.put-2.ensures, length-append {A = ℕ})

pub put-requires-3 : goal.put-requires-3
put-requires-3 c =
    let e : length (decimal c.args.edition) ≤ 20 = number_short c.args.edition (omega arith) in
    let l : length (decimal c.args.listed) ≤ 20 = number_short c.args.listed (omega arith) in
    omega (arith, e, l, ap length c.clear.ensures, ap length c.put.ensures, ap length c.put_number.ensures, ap length c.put-2.ensures, ap length c.put_number-2.ensures, length-append {A = ℕ})

pub put_number-requires-3 : goal.put_number-requires-3
put_number-requires-3 c =
    let e : length (decimal c.args.edition) ≤ 20 = number_short c.args.edition (omega arith) in
    let l : length (decimal c.args.listed) ≤ 20 = number_short c.args.listed (omega arith) in
    let p : length (decimal c.args.pending) ≤ 20 = number_short c.args.pending (omega arith) in
    omega (arith, e, l, p, ap length c.clear.ensures, ap length c.put.ensures, ap length c.put_number.ensures, ap length c.put-2.ensures, ap length c.put_number-2.ensures, ap length c.put-3.ensures, length-append {A = ℕ})

pub put-requires-4 : goal.put-requires-4
put-requires-4 c =
    let e : length (decimal c.args.edition) ≤ 20 = number_short c.args.edition (omega arith) in
    let l : length (decimal c.args.listed) ≤ 20 = number_short c.args.listed (omega arith) in
    let p : length (decimal c.args.pending) ≤ 20 = number_short c.args.pending (omega arith) in
    omega (arith, e, l, p, ap length c.clear.ensures, ap length c.put.ensures, ap length c.put_number.ensures, ap length c.put-2.ensures, ap length c.put_number-2.ensures, ap length c.put-3.ensures, ap length c.put_number-3.ensures, length-append {A = ℕ})
