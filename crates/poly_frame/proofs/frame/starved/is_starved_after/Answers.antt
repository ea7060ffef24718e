use Rattle.std.proofs.Common.{ap, arith, eqb, false, get_or, length, not, sym, true, ℕ, ◌&&◌, ◌*◌, ◌+◌, ◌-◌, ◌<◌, ◌∙◌, ◌≡◌}
use Rattle.std.proofs.Math.Nat.{mul-le-mul_left}
use Rattle.std.proofs.lemmas.List.{get_or_read}
use Rattle.std.specs.Int.{bit_at}
use Rattle.std.specs.List.{list_any}
use Rattle.poly_frame.specs.Bits.{has_bit}
use Rattle.poly_frame.specs.Matrices.{bit_index, column_items}
use Rattle.poly_frame.proofs.Ahead.{last_each, noted_column}
use Rattle.poly_frame.proofs.Starved.{shut_without, starved_fits}
use Rattle.poly_frame.proofs.frame.starved.is_starved_after.Goals as goal

pub returns : goal.returns
returns c = λ y.
    let v = c.args.node.now.view.now in
    let A = c.args.node.now.trail.now in
    let first = c.args.node.now.base in
    let K = c.requires.kept in
    let s = c.args.steps.now in
    let matrix = c.args.node.now.matrix.now in
    let t = c.args.node.now.table.now in
    let b = c.args.b in
    let j = c.args.j in
    let at = c.len.result - matrix.width in
    let have = get_or_read s.have.items b c.index.result.now c.requires.row c.index.ensures 0 in
    let none : get_or s.have.items b 0 ≡ 0 = omega (arith, have, c.if-index-gt0.false) in
    let low : b < length t.leasts.items = omega (arith, c.requires.row, K.have_len, K.table.leasts_len) in
    let least_there = get_or_read t.leasts.items b c.index-else-index-gt0.result.now low c.index-else-index-gt0.ensures 0 in
    let some : 0 < get_or t.leasts.items b 0 = omega (arith, least_there, c.if-index-eq0.false) in
    let opened : has_bit s.live.items (64 * at + j) ≡ true = ap (λ ws. has_bit ws (64 * at + j)) (sym c.deref.ensures.value) ∙ sym c.has.ensures ∙ c.if-not-has.false in
    let without : has_bit matrix.rows.items (64 * (matrix.width * b) + j) ≡ false = ap (λ ws. has_bit ws (64 * (matrix.width * b) + j)) (sym c.deref-else-not-has.ensures.value) ∙ sym c.has-else-not-has.ensures ∙ c.if-has.false in
    let shares = λ (x : ℕ). list_any (λ c. has_bit matrix.rows.items (bit_index matrix.width c x)) (column_items matrix.lists matrix.homes.items j) in
    let left = λ (x : ℕ) (h : x < 64 * matrix.width). c.requires.left x h ∙ ap (λ n. has_bit s.live.items (64 * (n - matrix.width) + x) && not (shares x)) (sym (c.len.ensures ∙ s.live.ok.0)) in
    let noted = noted_column v A first matrix t s.live.items s.have.items s.raised.items s.marks.items K c.requires.alone j c.requires.number in
    let last = last_each t.limits.items s.have.items (column_items matrix.lists matrix.homes.items j) (length v.bounds) (K.table.alone c.requires.alone) noted.low in
    starved_fits v A first matrix t s.live.items s.have.items s.raised.items s.marks.items K b j at (ap (λ n. n - matrix.width) (c.len.ensures ∙ s.live.ok.0)) (omega (arith, c.requires.row, K.have_len)) c.requires.number opened without none
    (shut_without s.live.items c.args.left.now matrix.rows.items t.limits.items s.have.items (column_items matrix.lists matrix.homes.items j) matrix.width at b left
    (λ k u m l z. ap (λ ws. eqb (bit_at (get_or ws (matrix.width * b + k) 0) u) 1) (sym c.deref-2.ensures.value) ∙ c.has_none.ensures y k u m l z) c.requires.len last)
    some

pub has-requires-else-not-has : goal.has-requires-else-not-has
has-requires-else-not-has c =
    let K = c.requires.kept in
    let matrix = c.args.node.now.matrix.now in
    let fits = mul-le-mul_left {m = c.args.b + 1} {n = length c.args.node.now.view.now.bounds} matrix.width (omega (arith, c.requires.row, K.have_len)) in
    omega (arith, fits, K.table.matrix.rows_len, K.table.matrix.wide, c.requires.number, ap length c.deref-else-not-has.ensures.value)

pub has_none-requires : goal.has_none-requires
has_none-requires c =
    let K = c.requires.kept in
    let fits = mul-le-mul_left {m = c.args.b + 1} {n = length c.args.node.now.view.now.bounds} c.args.node.now.matrix.now.width (omega (arith, c.requires.row, K.have_len)) in
    omega (arith, fits, K.table.matrix.rows_len, c.requires.len, ap length c.deref-2.ensures.value)

pub overflow_sub-at : goal.overflow_sub-at
overflow_sub-at c = omega (arith, c.requires.kept.wide, c.len.ensures, c.args.steps.now.live.ok.0)

pub has-requires : goal.has-requires
has-requires c = omega (arith, c.requires.kept.wide, c.len.ensures, c.args.steps.now.live.ok.0, c.requires.number, c.requires.kept.table.matrix.wide, ap length c.deref.ensures.value)
