use Rattle.std.proofs.Common.{Bool, List, ap, arith, false, get_or, length, not, refl, sym, take, true, ℕ, ◌&&◌, ◌+◌, ◌||◌, ◌∙◌, ◌≡◌, ◌≤◌}
use Rattle.std.proofs.lemmas.List.Folds.{list_any_more}
use Rattle.std.specs.List.{list_any}
use Rattle.poly_frame.specs.Bits.{has_bit}
use Rattle.poly_frame.specs.Matrices.{bit_index}
use Rattle.std.proofs.lemmas.List.{take_all}
use Rattle.poly_frame.proofs.FrameItems.{row_low}
use Rattle.poly_frame.proofs.frame.ahead.close_all.Goals as goal

lacks_one : (o a b : Bool) → ((o && not a) && not b) ≡ (o && not (a || b))
lacks_one false a b = refl
lacks_one true true b = refl
lacks_one true false b = refl

lacks_three : (o a b c d : Bool) → ((o && not a) && not (b || (c || d))) ≡ (o && not (((a || b) || c) || d))
lacks_three false a b c d = refl
lacks_three true true b c d = refl
lacks_three true false true c d = refl
lacks_three true false false c d = refl

and_all : (o : Bool) → o ≡ (o && true)
and_all true = refl
and_all false = refl

any_three : (f : ℕ → Bool) (xs : List ℕ) (k : ℕ) → k + 3 ≤ length xs → list_any f (take (k + 3) xs) ≡ (((list_any f (take k xs) || f (get_or xs k 0)) || f (get_or xs (k + 1) 0)) || f (get_or xs (k + 2) 0))
any_three f xs k h =
    let three : k + 3 ≡ k + 2 + 1 = omega arith in
    let two : k + 2 ≡ k + 1 + 1 = omega arith in
    ap (λ n. list_any f (take n xs)) three
    ∙ list_any_more f xs (k + 2) 0 (omega (arith, h))
    ∙ ap (λ n. list_any f (take n xs) || f (get_or xs (k + 2) 0)) two
    ∙ ap (λ y. y || f (get_or xs (k + 2) 0)) (list_any_more f xs (k + 1) 0 (omega (arith, h)))
    ∙ ap (λ y. (y || f (get_or xs (k + 1) 0)) || f (get_or xs (k + 2) 0)) (list_any_more f xs k 0 (omega (arith, h)))

pub loop-k-preserved : goal.loop-k-preserved
loop-k-preserved c =
    let xs = c.args.indices.now in
    let k = c.loop-k.k in
    let within : k + 3 ≤ length xs = omega (arith, c.if-indices-k-lt3.false, c.loop-k.invariant.inside) in
    record {
      inside = within;
      len = c.take_out_three.ensures.len ∙ c.loop-k.invariant.len;
      bits = λ x h.
          let f = λ (b : ℕ). has_bit c.args.rows.now (bit_index (length c.args.row.now) b x) in
          c.take_out_three.ensures.bits x (omega (arith, h, c.loop-k.invariant.len))
          ∙ ap (λ y. y && not (has_bit c.item_row-else-indices-k-lt3.result.now x || (has_bit c.item_row-else-indices-k-lt3-2.result.now x || has_bit c.item_row-else-indices-k-lt3-3.result.now x))) (c.loop-k.invariant.bits x h)
          ∙ ap (λ y. (has_bit c.args.row.now x && not (list_any f (take k xs))) && not (y || (has_bit c.item_row-else-indices-k-lt3-2.result.now x || has_bit c.item_row-else-indices-k-lt3-3.result.now x))) (c.item_row-else-indices-k-lt3.ensures.bits x h)
          ∙ ap (λ y. (has_bit c.args.row.now x && not (list_any f (take k xs))) && not (f (get_or xs k 0) || (y || has_bit c.item_row-else-indices-k-lt3-3.result.now x))) (c.item_row-else-indices-k-lt3-2.ensures.bits x h)
          ∙ ap (λ y. (has_bit c.args.row.now x && not (list_any f (take k xs))) && not (f (get_or xs k 0) || (f (get_or xs (k + 1) 0) || y))) (c.item_row-else-indices-k-lt3-3.ensures.bits x h)
          ∙ lacks_three (has_bit c.args.row.now x) (list_any f (take k xs)) (f (get_or xs k 0)) (f (get_or xs (k + 1) 0)) (f (get_or xs (k + 2) 0))
          ∙ ap (λ y. has_bit c.args.row.now x && not y) (sym (any_three f xs k within));
    }

pub loop-k-preserved-then-indices-k-lt3 : goal.loop-k-preserved-then-indices-k-lt3
loop-k-preserved-then-indices-k-lt3 c =
    let xs = c.args.indices.now in
    let k = c.loop-k.k in
    record {
      inside = omega (arith, c.loop-k-test.true);
      len = c.take_out_words.ensures.len ∙ c.loop-k.invariant.len;
      bits = λ x h.
          let f = λ (b : ℕ). has_bit c.args.rows.now (bit_index (length c.args.row.now) b x) in
          c.take_out_words.ensures.bits x (omega (arith, h, c.loop-k.invariant.len))
          ∙ ap (λ y. y && not (has_bit c.item_row.result.now x)) (c.loop-k.invariant.bits x h)
          ∙ ap (λ y. (has_bit c.args.row.now x && not (list_any f (take k xs))) && not y) (c.item_row.ensures.bits x h)
          ∙ lacks_one (has_bit c.args.row.now x) (list_any f (take k xs)) (f (get_or xs k 0))
          ∙ ap (λ y. has_bit c.args.row.now x && not y) (sym (list_any_more f xs k 0 c.loop-k-test.true));
    }

pub loop-k-init : goal.loop-k-init
loop-k-init c = record {
  inside = omega arith;
  len = refl;
  bits = λ x h. and_all (has_bit c.args.row.now x);
}

pub item_row-requires : goal.item_row-requires
item_row-requires c = row_low c.args.indices.now c.args.items (length c.args.row.now) c.loop-k.k (length c.args.rows.now) c.requires.low c.requires.rows c.loop-k-test.true

pub item_row-requires-else-indices-k-lt3 : goal.item_row-requires-else-indices-k-lt3
item_row-requires-else-indices-k-lt3 c = row_low c.args.indices.now c.args.items (length c.args.row.now) c.loop-k.k (length c.args.rows.now) c.requires.low c.requires.rows c.loop-k-test.true

pub item_row-requires-else-indices-k-lt3-2 : goal.item_row-requires-else-indices-k-lt3-2
item_row-requires-else-indices-k-lt3-2 c = row_low c.args.indices.now c.args.items (length c.args.row.now) (c.loop-k.k + 1) (length c.args.rows.now) c.requires.low c.requires.rows (omega (arith, c.if-indices-k-lt3.false))

pub item_row-requires-else-indices-k-lt3-3 : goal.item_row-requires-else-indices-k-lt3-3
item_row-requires-else-indices-k-lt3-3 c = row_low c.args.indices.now c.args.items (length c.args.row.now) (c.loop-k.k + 2) (length c.args.rows.now) c.requires.low c.requires.rows (omega (arith, c.if-indices-k-lt3.false))

pub take_out_words-requires : goal.take_out_words-requires
take_out_words-requires c = c.loop-k.invariant.len ∙ sym c.item_row.ensures.len

pub take_out_three-requires-clause-first : goal.take_out_three-requires-clause-first
take_out_three-requires-clause-first c = c.item_row-else-indices-k-lt3.ensures.len ∙ sym c.loop-k.invariant.len

pub take_out_three-requires-clause-second : goal.take_out_three-requires-clause-second
take_out_three-requires-clause-second c = c.item_row-else-indices-k-lt3-2.ensures.len ∙ sym c.loop-k.invariant.len

pub take_out_three-requires-clause-third : goal.take_out_three-requires-clause-third
take_out_three-requires-clause-third c = c.item_row-else-indices-k-lt3-3.ensures.len ∙ sym c.loop-k.invariant.len

pub returns-clause-len : goal.returns-clause-len
returns-clause-len c = c.loop-k.invariant.len

pub returns-clause-bits : goal.returns-clause-bits
returns-clause-bits c = λ x h.
    c.loop-k.invariant.bits x h
    ∙ ap (λ (xs : List ℕ). has_bit c.args.row.now x && not (list_any (λ b. has_bit c.args.rows.now (bit_index (length c.args.row.now) b x)) xs)) (take_all c.loop-k.k c.args.indices.now c.loop-k-test.false)
