use Rattle.std.proofs.Common.{List, ap, arith, get_or, length, not, refl, subst, sym, ℕ, ◌&&◌, ◌*◌, ◌+◌, ◌∙◌, ◌≡◌}
use Rattle.std.proofs.lemmas.List.{get_or_default}
use Rattle.poly_tiling.specs.declared.bound.Bound.{Bound}
use Rattle.poly_frame.specs.Bits.{has_bit}
use Rattle.poly_frame.specs.FrameItems.{item_at, no_bound}
use Rattle.poly_frame.specs.FrameTable.{shut_at}
use Rattle.poly_frame.specs.Matrices.{any_below, bit_index}
use Rattle.poly_frame.proofs.Matrices.{shut_more, shut_none, shut_same}
use Rattle.poly_frame.proofs.frame.opened.take_out_shut.Goals.{then-is_shut_at, else-is_shut_at}
use Rattle.poly_frame.proofs.frame.opened.take_out_shut.Goals as goal

none_more : (j : ℕ) → 64 * 0 + j ≡ j
none_more j = omega arith

pub loop-b-init : goal.loop-b-init
loop-b-init c = record { len = refl; bits = λ j h. shut_none (λ (b : ℕ). shut_at (item_at c.args.bounds.now b) (get_or c.args.mosts.now b 0) (get_or c.args.have.now b 0) && has_bit c.args.whole.now.rows.items (bit_index c.args.whole.now.width b j)) (has_bit c.args.row.now.items j) }

pub loop-b-preserved : goal.loop-b-preserved
loop-b-preserved c =
    let b = c.loop-b.b in
    let inv = c.loop-b.invariant in
    let s = c.is_shut_at.result in
    let here = get_or_default c.args.bounds.now b no_bound c.index-bounds-b.result c.loop-b-test.true in
    let shut : shut_at (item_at c.args.bounds.now b) (get_or c.args.mosts.now b 0) (get_or c.args.have.now b 0) ≡ s
    = ap (λ (x : Bound). shut_at x.item (get_or c.args.mosts.now b 0) (get_or c.args.have.now b 0)) here ∙ sym c.is_shut_at.ensures in
    let f = λ (j x : ℕ). shut_at (item_at c.args.bounds.now x) (get_or c.args.mosts.now x 0) (get_or c.args.have.now x 0) && has_bit c.args.whole.now.rows.items (bit_index c.args.whole.now.width x j) in
    let r = λ (j : ℕ). has_bit c.args.whole.now.rows.items (bit_index c.args.whole.now.width b j) in
    let old = λ (j : ℕ). has_bit c.args.row.now.items j in
    let cur = λ (j : ℕ). has_bit c.loop-b.row.items j in
    elim c.if-is_shut_at.branch [
      | then-is_shut_at w ↦ record {
        len = ap (λ xs. length xs.items) w.row-is ∙ w.take_out_row.ensures.len ∙ inv.len;
        bits = λ j h. ap (λ xs. has_bit xs.items j) w.row-is
            ∙ shut_more (f j) (old j) (cur j) (has_bit w.take_out_row.new.words.items j) (r j) s b (inv.bits j h) (subst (λ (x : ℕ). has_bit w.take_out_row.new.words.items x ≡ (has_bit c.loop-b.row.items x && not (has_bit w.deref.result.now (bit_index c.args.whole.now.width b j)))) (none_more j) (w.take_out_row.ensures.row j h) ∙ ap (λ (rows : List ℕ). cur j && not (has_bit rows (bit_index c.args.whole.now.width b j))) w.deref.ensures.value) (ap (λ x. x && r j) shut) w.if-is_shut_at.true;
      }
      | else-is_shut_at w ↦ record {
        len = ap (λ xs. length xs.items) w.row-is ∙ inv.len;
        bits = λ j h. ap (λ xs. has_bit xs.items j) w.row-is ∙ shut_same (f j) (old j) (cur j) (r j) s b (inv.bits j h) (ap (λ x. x && r j) shut) w.if-is_shut_at.false;
      }
    ]

pub returns : goal.returns
returns c =
    let all : c.loop-b.b ≡ length c.args.bounds.now = omega (arith, c.loop-b-test.false, c.loop-b.auto.b-end) in
    record {
      len = c.loop-b.invariant.len;
      bits = λ j h. c.loop-b.invariant.bits j h ∙ ap (λ n. has_bit c.args.row.now.items j && not (any_below (λ (b : ℕ). shut_at (item_at c.args.bounds.now b) (get_or c.args.mosts.now b 0) (get_or c.args.have.now b 0) && has_bit c.args.whole.now.rows.items (bit_index c.args.whole.now.width b j)) n)) all;
    }
