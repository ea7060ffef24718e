use Rattle.std.proofs.Common.{Bool, List, ap, arith, false, get_or, leb, length, not, refl, sym, take, true, ℕ, ◌&&◌, ◌*◌, ◌+◌, ◌||◌, ◌∙◌, ◌≡◌, ◌≤◌}
use Rattle.std.proofs.lemmas.Bool.{true≢false}
use Rattle.std.proofs.lemmas.List.{take_all}
use Rattle.std.proofs.lemmas.List.Folds.{list_any_more}
use Rattle.std.specs.List.{list_any}
use Rattle.poly_frame.specs.Bits.{has_bit}
use Rattle.poly_frame.specs.Matrices.{bit_index}
use Rattle.poly_frame.proofs.FrameItems.{low_at, row_low}
use Rattle.poly_frame.proofs.frame.steps.close_row.Goals as goal

lacks_one : (o a b : Bool) → ((o && not a) && not b) ≡ (o && not (a || b))
lacks_one false a b = refl
lacks_one true true b = refl
lacks_one true false b = refl

lacks_three : (o a b c d : Bool) → ((o && not a) && not (b || (c || d))) ≡ (o && not (((a || b) || c) || d))
lacks_three false a b c d = refl
lacks_three true true b c d = refl
lacks_three true false true c d = refl
lacks_three true false false c d = refl

any_three : (f : ℕ → Bool) (xs : List ℕ) (k : ℕ) → k + 3 ≤ length xs → list_any f (take (k + 3) xs) ≡ (((list_any f (take k xs) || f (get_or xs k 0)) || f (get_or xs (k + 1) 0)) || f (get_or xs (k + 2) 0))
any_three f xs k h =
    let three : k + 3 ≡ k + 2 + 1 = omega arith in
    let two : k + 2 ≡ k + 1 + 1 = omega arith in
    ap (λ n. list_any f (take n xs)) three
    ∙ list_any_more f xs (k + 2) 0 (omega (arith, h))
    ∙ ap (λ n. list_any f (take n xs) || f (get_or xs (k + 2) 0)) two
    ∙ ap (λ y. y || f (get_or xs (k + 2) 0)) (list_any_more f xs (k + 1) 0 (omega (arith, h)))
    ∙ ap (λ y. (y || f (get_or xs (k + 1) 0)) || f (get_or xs (k + 2) 0)) (list_any_more f xs k 0 (omega (arith, h)))

-- three rows whose items are at their limits
at_limits : (o a b c x y z p q r : Bool) → p ≡ true → q ≡ true → r ≡ true → x ≡ a → y ≡ b → z ≡ c → (o && not (x || (y || z))) ≡ (o && not ((p && a) || ((q && b) || (r && c))))
at_limits o a b c x y z true true true e f g h i j = ap (λ u. o && not (u || (y || z))) h ∙ ap (λ u. o && not (a || (u || z))) i ∙ ap (λ u. o && not (a || (b || u))) j
at_limits o a b c x y z false q r e f g h i j = absurd (true≢false (sym e))
at_limits o a b c x y z true false r e f g h i j = absurd (true≢false (sym f))
at_limits o a b c x y z true true false e f g h i j = absurd (true≢false (sym g))

pub loop-k-preserved : goal.loop-k-preserved
loop-k-preserved c =
    let xs = c.args.indices.now in
    let k = c.loop-k.k in
    record {
      inside = omega (arith, c.loop-k-test.true);
      len = c.close_item.ensures.len ∙ c.loop-k.invariant.len;
      bits = λ j h.
          let f = λ (b : ℕ). leb (get_or c.args.limits.now b 0) (get_or c.args.have.now b 0) && has_bit c.args.rows.now (bit_index (length c.args.row.now) b j) in
          let b = get_or xs k 0 in
          c.close_item.ensures.bits j (omega (arith, h, c.loop-k.invariant.len))
          ∙ ap (λ n. has_bit c.loop-k.row j && not (leb (get_or c.args.limits.now b 0) (get_or c.args.have.now b 0) && has_bit c.args.rows.now (bit_index n b j))) c.loop-k.invariant.len
          ∙ ap (λ y. y && not (f b)) (c.loop-k.invariant.bits j h)
          ∙ lacks_one (has_bit c.args.row.now j) (list_any f (take k xs)) (f b)
          ∙ ap (λ y. has_bit c.args.row.now j && not y) (sym (list_any_more f xs k 0 c.loop-k-test.true));
    }

pub loop-k-preserved-then-are_at_limit : goal.loop-k-preserved-then-are_at_limit
loop-k-preserved-then-are_at_limit c =
    let xs = c.args.indices.now in
    let k = c.loop-k.k in
    let e = c.are_at_limit.ensures in
    let yes = c.if-are_at_limit.true in
    let within : k + 3 ≤ length xs = e.three yes in
    record {
      inside = within;
      len = c.take_out_three.ensures.len ∙ c.loop-k.invariant.len;
      bits = λ j h.
          let w = length c.args.row.now in
          let f = λ (b : ℕ). leb (get_or c.args.limits.now b 0) (get_or c.args.have.now b 0) && has_bit c.args.rows.now (bit_index w b j) in
          let old = has_bit c.args.row.now j && not (list_any f (take k xs)) in
          let x1 = has_bit c.item_row.result.now j in
          let x2 = has_bit c.item_row-then-are_at_limit.result.now j in
          let x3 = has_bit c.item_row-then-are_at_limit-2.result.now j in
          c.take_out_three.ensures.bits j (omega (arith, h, c.loop-k.invariant.len))
          ∙ ap (λ y. y && not (x1 || (x2 || x3))) (c.loop-k.invariant.bits j h)
          ∙ at_limits old (has_bit c.args.rows.now (bit_index w (get_or xs k 0) j)) (has_bit c.args.rows.now (bit_index w (get_or xs (k + 1) 0) j)) (has_bit c.args.rows.now (bit_index w (get_or xs (k + 2) 0) j)) x1 x2 x3
          (leb (get_or c.args.limits.now (get_or xs k 0) 0) (get_or c.args.have.now (get_or xs k 0) 0)) (leb (get_or c.args.limits.now (get_or xs (k + 1) 0) 0) (get_or c.args.have.now (get_or xs (k + 1) 0) 0)) (leb (get_or c.args.limits.now (get_or xs (k + 2) 0) 0) (get_or c.args.have.now (get_or xs (k + 2) 0) 0))
          (e.first yes) (e.second yes) (e.third yes) (c.item_row.ensures.bits j h) (c.item_row-then-are_at_limit.ensures.bits j h) (c.item_row-then-are_at_limit-2.ensures.bits j h)
          ∙ lacks_three (has_bit c.args.row.now j) (list_any f (take k xs)) (f (get_or xs k 0)) (f (get_or xs (k + 1) 0)) (f (get_or xs (k + 2) 0))
          ∙ ap (λ y. has_bit c.args.row.now j && not y) (sym (any_three f xs k within));
    }

pub returns-clause-bits : goal.returns-clause-bits
returns-clause-bits c = λ j h.
    let f = λ (b : ℕ). leb (get_or c.args.limits.now b 0) (get_or c.args.have.now b 0) && has_bit c.args.rows.now (bit_index (length c.args.row.now) b j) in
    c.loop-k.invariant.bits j h ∙ ap (λ bs. has_bit c.args.row.now j && not (list_any f bs)) (take_all c.loop-k.k c.args.indices.now c.loop-k-test.false)

pub item_row-requires : goal.item_row-requires
item_row-requires c = row_low c.args.indices.now (length c.args.have.now) (length c.args.row.now) c.loop-k.k (length c.args.rows.now) c.requires.low c.requires.rows c.loop-k-test.true

pub item_row-requires-then-are_at_limit : goal.item_row-requires-then-are_at_limit
item_row-requires-then-are_at_limit c = row_low c.args.indices.now (length c.args.have.now) (length c.args.row.now) (c.loop-k.k + 1) (length c.args.rows.now) c.requires.low c.requires.rows (omega (arith, c.are_at_limit.ensures.three c.if-are_at_limit.true))

pub item_row-requires-then-are_at_limit-2 : goal.item_row-requires-then-are_at_limit-2
item_row-requires-then-are_at_limit-2 c = row_low c.args.indices.now (length c.args.have.now) (length c.args.row.now) (c.loop-k.k + 2) (length c.args.rows.now) c.requires.low c.requires.rows (omega (arith, c.are_at_limit.ensures.three c.if-are_at_limit.true))

pub close_item-requires-clause-limits : goal.close_item-requires-clause-limits
close_item-requires-clause-limits c = omega (arith, low_at (length c.args.have.now) c.args.indices.now c.loop-k.k c.requires.low c.loop-k-test.true, c.requires.limits)

pub close_item-requires-clause-have : goal.close_item-requires-clause-have
close_item-requires-clause-have c = low_at (length c.args.have.now) c.args.indices.now c.loop-k.k c.requires.low c.loop-k-test.true

pub close_item-requires-clause-rows : goal.close_item-requires-clause-rows
close_item-requires-clause-rows c = omega (arith, row_low c.args.indices.now (length c.args.have.now) (length c.loop-k.row) c.loop-k.k (length c.args.rows.now) c.requires.low (c.requires.rows ∙ ap (λ n. n * length c.args.have.now) (sym c.loop-k.invariant.len)) c.loop-k-test.true)

pub take_out_three-requires-clause-first : goal.take_out_three-requires-clause-first
take_out_three-requires-clause-first c = c.item_row.ensures.len ∙ sym c.loop-k.invariant.len

pub take_out_three-requires-clause-second : goal.take_out_three-requires-clause-second
take_out_three-requires-clause-second c = c.item_row-then-are_at_limit.ensures.len ∙ sym c.loop-k.invariant.len

pub take_out_three-requires-clause-third : goal.take_out_three-requires-clause-third
take_out_three-requires-clause-third c = c.item_row-then-are_at_limit-2.ensures.len ∙ sym c.loop-k.invariant.len
