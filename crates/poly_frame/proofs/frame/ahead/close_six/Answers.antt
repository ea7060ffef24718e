use Rattle.std.proofs.Common.{arith, ◌≤◌, Bool, ap, get_or, length, not, sym, ℕ, ◌&&◌, ◌∙◌}
use Rattle.poly_frame.specs.Bits.{has_bit}
use Rattle.poly_frame.specs.Matrices.{bit_index}
use Rattle.poly_frame.proofs.FrameItems.{row_low}
use Rattle.poly_frame.proofs.Six.{any_six, or_six}
use Rattle.poly_frame.proofs.frame.ahead.close_six.Goals as goal

pub returns-clause-bits : goal.returns-clause-bits
returns-clause-bits c = λ x h.
    let f : ℕ → Bool = λ b. has_bit c.args.rows.now (bit_index (length c.args.row.now) b x) in
    let xs = c.args.indices.now in
    c.without_six.ensures.bits x h
    ∙ ap (λ y. has_bit c.args.live.now x && not y)
    (or_six _ _ _ _ _ _ (f (get_or xs 0 0)) (f (get_or xs 1 0)) (f (get_or xs 2 0)) (f (get_or xs 3 0)) (f (get_or xs 4 0)) (f (get_or xs 5 0))
    (c.item_row.ensures.bits x h) (c.item_row-2.ensures.bits x h) (c.item_row-3.ensures.bits x h) (c.item_row-4.ensures.bits x h) (c.item_row-5.ensures.bits x h) (c.item_row-6.ensures.bits x h)
    ∙ sym (any_six f xs c.requires.six))

pub bounds-indices-0 : goal.bounds-indices-0
bounds-indices-0 c = let six : 6 ≤ length c.args.indices.now = c.requires.six in omega (arith, six)

pub item_row-requires : goal.item_row-requires
item_row-requires c = let six : 6 ≤ length c.args.indices.now = c.requires.six in row_low c.args.indices.now c.args.items (length c.args.row.now) 0 (length c.args.rows.now) c.requires.low c.requires.rows (omega (arith, six))

pub bounds-indices-1 : goal.bounds-indices-1
bounds-indices-1 c = let six : 6 ≤ length c.args.indices.now = c.requires.six in omega (arith, six)

pub item_row-requires-2 : goal.item_row-requires-2
item_row-requires-2 c = let six : 6 ≤ length c.args.indices.now = c.requires.six in row_low c.args.indices.now c.args.items (length c.args.row.now) 1 (length c.args.rows.now) c.requires.low c.requires.rows (omega (arith, six))

pub bounds-indices-2 : goal.bounds-indices-2
bounds-indices-2 c = let six : 6 ≤ length c.args.indices.now = c.requires.six in omega (arith, six)

pub item_row-requires-3 : goal.item_row-requires-3
item_row-requires-3 c = let six : 6 ≤ length c.args.indices.now = c.requires.six in row_low c.args.indices.now c.args.items (length c.args.row.now) 2 (length c.args.rows.now) c.requires.low c.requires.rows (omega (arith, six))

pub bounds-indices-3 : goal.bounds-indices-3
bounds-indices-3 c = let six : 6 ≤ length c.args.indices.now = c.requires.six in omega (arith, six)

pub item_row-requires-4 : goal.item_row-requires-4
item_row-requires-4 c = let six : 6 ≤ length c.args.indices.now = c.requires.six in row_low c.args.indices.now c.args.items (length c.args.row.now) 3 (length c.args.rows.now) c.requires.low c.requires.rows (omega (arith, six))

pub bounds-indices-4 : goal.bounds-indices-4
bounds-indices-4 c = let six : 6 ≤ length c.args.indices.now = c.requires.six in omega (arith, six)

pub item_row-requires-5 : goal.item_row-requires-5
item_row-requires-5 c = let six : 6 ≤ length c.args.indices.now = c.requires.six in row_low c.args.indices.now c.args.items (length c.args.row.now) 4 (length c.args.rows.now) c.requires.low c.requires.rows (omega (arith, six))

pub bounds-indices-5 : goal.bounds-indices-5
bounds-indices-5 c = let six : 6 ≤ length c.args.indices.now = c.requires.six in omega (arith, six)

pub item_row-requires-6 : goal.item_row-requires-6
item_row-requires-6 c = let six : 6 ≤ length c.args.indices.now = c.requires.six in row_low c.args.indices.now c.args.items (length c.args.row.now) 5 (length c.args.rows.now) c.requires.low c.requires.rows (omega (arith, six))

pub without_six-requires-clause-row : goal.without_six-requires-clause-row
without_six-requires-clause-row c = c.requires.live

pub without_six-requires-clause-first : goal.without_six-requires-clause-first
without_six-requires-clause-first c = c.item_row.ensures.len

pub without_six-requires-clause-second : goal.without_six-requires-clause-second
without_six-requires-clause-second c = c.item_row-2.ensures.len

pub without_six-requires-clause-third : goal.without_six-requires-clause-third
without_six-requires-clause-third c = c.item_row-3.ensures.len

pub without_six-requires-clause-fourth : goal.without_six-requires-clause-fourth
without_six-requires-clause-fourth c = c.item_row-4.ensures.len

pub without_six-requires-clause-fifth : goal.without_six-requires-clause-fifth
without_six-requires-clause-fifth c = c.item_row-5.ensures.len

pub without_six-requires-clause-sixth : goal.without_six-requires-clause-sixth
without_six-requires-clause-sixth c = c.item_row-6.ensures.len

pub returns-clause-len : goal.returns-clause-len
returns-clause-len c = c.without_six.ensures.len
