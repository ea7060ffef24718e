use Rattle.std.proofs.Common.{Bool, ap, arith, get_or, length, sym, ℕ, ◌*◌, ◌<◌, ◌∙◌, ◌≡◌}
use Rattle.std.specs.List.{filter}
use Rattle.std.proofs.lemmas.Result.{IfOk-weaker}
use Rattle.poly_frame.specs.Bits.{has_bit}
use Rattle.poly_frame.specs.Matrices.{IsMatrix}
use Rattle.poly_frame.proofs.Matrices.{homes_len}
use Rattle.poly_frame.proofs.Listed.{chosen_among, chosen_below, chosen_fewer, chosen_homes, chosen_is, chosen_once}
use Rattle.poly_frame.proofs.frame.matrix.narrowed.Goals as goal

pub list_set-requires-clause-homes : goal.list_set-requires-clause-homes
list_set-requires-clause-homes c =
    let w = c.args.whole.now in
    ap length c.deref-2.ensures.value ∙ homes_len c.args.view.now w.numbers.items w.homes.items w.lists c.requires.whole.lists ∙ sym (ap length c.deref.ensures.value)

pub with_columns-requires-clause-once : goal.with_columns-requires-clause-once
with_columns-requires-clause-once c =
    let w = c.args.whole.now in
    chosen_once w.numbers.items w.homes.items c.args.row.now c.list_set.new.numbers.items c.list_set.new.homes.items c.deref.result.now c.deref-2.result.now (64 * length c.args.row.now) c.deref.ensures.value c.deref-2.ensures.value c.in-Ok.ensures.listed (omega (arith, c.requires.row, c.requires.whole.wide)) w.stands.items c.requires.whole.stands c.requires.whole.once

pub with_columns-requires-clause-above : goal.with_columns-requires-clause-above
with_columns-requires-clause-above c = λ j h.
    let w = c.args.whole.now in
    omega (arith, chosen_below w.numbers.items w.homes.items c.args.row.now c.list_set.new.numbers.items c.list_set.new.homes.items c.deref.result.now c.deref-2.result.now (64 * length c.args.row.now) c.deref.ensures.value c.deref-2.ensures.value c.in-Ok.ensures.listed (omega (arith, c.requires.row, c.requires.whole.wide)) w.stands.items c.requires.whole.stands j h, c.len-size.ensures, w.stands.ok.0)

pub with_columns-requires-clause-fewer : goal.with_columns-requires-clause-fewer
with_columns-requires-clause-fewer c =
    let w = c.args.whole.now in
    omega (arith, chosen_fewer w.numbers.items w.homes.items c.args.row.now c.list_set.new.numbers.items c.list_set.new.homes.items c.deref.result.now c.deref-2.result.now (64 * length c.args.row.now) c.deref.ensures.value c.deref-2.ensures.value c.in-Ok.ensures.listed (omega (arith, c.requires.row, c.requires.whole.wide)) w.stands.items c.requires.whole.stands, c.requires.whole.fewer)

pub with_columns-requires-clause-live : goal.with_columns-requires-clause-live
with_columns-requires-clause-live c =
    let w = c.args.whole.now in
    λ q m. c.requires.whole.live q (chosen_among w.numbers.items w.homes.items c.args.row.now c.list_set.new.numbers.items c.list_set.new.homes.items c.deref.result.now c.deref-2.result.now (64 * length c.args.row.now) c.deref.ensures.value c.deref-2.ensures.value c.in-Ok.ensures.listed (omega (arith, c.requires.row, c.requires.whole.wide)) w.stands.items c.requires.whole.stands q m)

pub with_columns-requires-clause-lists : goal.with_columns-requires-clause-lists
with_columns-requires-clause-lists c =
    let w = c.args.whole.now in
    c.in-Ok-share.ensures.same c.args.view.now c.list_set.new.numbers.items c.list_set.new.homes.items (chosen_homes w.numbers.items w.homes.items c.args.row.now c.list_set.new.numbers.items c.list_set.new.homes.items c.deref.result.now c.deref-2.result.now (64 * length c.args.row.now) c.deref.ensures.value c.deref-2.ensures.value c.in-Ok.ensures.listed (omega (arith, c.requires.row, c.requires.whole.wide)) w.stands.items c.requires.whole.stands c.args.view.now w.lists c.requires.whole.lists)

pub returns-clause-made : goal.returns-clause-made
returns-clause-made c =
    let v = c.args.view.now in
    IfOk-weaker c.with_columns.result (λ m. IsMatrix v m × (m.numbers.items ≡ c.list_set.new.numbers.items)) (λ m. IsMatrix v m)
    (λ m h. h.0) c.with_columns.ensures.made

pub returns-clause-numbers : goal.returns-clause-numbers
returns-clause-numbers c =
    let v = c.args.view.now in
    let w = c.args.whole.now in
    let row = c.args.row.now in
    let ns = w.numbers.items in
    IfOk-weaker c.with_columns.result (λ m. IsMatrix v m × (m.numbers.items ≡ c.list_set.new.numbers.items)) (λ m. (f : ℕ → Bool) → ((j : ℕ) → j < length ns → f (get_or ns j 0) ≡ has_bit row j) → m.numbers.items ≡ filter f ns)
    (λ m h. λ f g. h.1 ∙ chosen_is w.numbers.items w.homes.items c.args.row.now c.list_set.new.numbers.items c.list_set.new.homes.items c.deref.result.now c.deref-2.result.now (64 * length c.args.row.now) c.deref.ensures.value c.deref-2.ensures.value c.in-Ok.ensures.listed (omega (arith, c.requires.row, c.requires.whole.wide)) f g) c.with_columns.ensures.made
