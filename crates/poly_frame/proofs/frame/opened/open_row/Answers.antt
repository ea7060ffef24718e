use Rattle.std.proofs.Common.{Bool, false, List, ap, get_or, not, ℕ, ◌&&◌, ◌*◌, ◌<◌, ◌∙◌, ◌≡◌, arith, length}
use Rattle.poly_tiling.specs.declared.bound.Bound.{Bound}
use Rattle.poly_frame.specs.Bits.{has_bit}
use Rattle.poly_frame.specs.FrameItems.{item_at}
use Rattle.poly_frame.specs.FrameTable.{shut_at}
use Rattle.poly_frame.specs.Matrices.{any_below, bit_index}
use Rattle.poly_frame.proofs.FrameSteps.{listed_at}
use Rattle.poly_frame.proofs.Matrices.{left_open, shut_says}
use Rattle.poly_frame.proofs.frame.opened.open_row.Goals as goal

-- a bit that is not set stays so
still_out : (a b x : Bool) → a ≡ (b && x) → b ≡ false → a ≡ false
still_out a b x e f = e ∙ ap (λ y. y && x) f

pub returns-clause-value : goal.returns-clause-value
returns-clause-value c =
    let v = c.args.view.now in
    let A = c.args.atoms.now in
    let m = c.args.whole.now in
    let M = c.requires.part in
    let n : c.len.result ≡ length m.numbers.items = c.len.ensures ∙ m.numbers.ok.0 in
    let shut = λ (bs : List Bound) (b j : ℕ). shut_at (item_at bs b) (get_or c.args.mosts.now b 0) (get_or c.args.have.now b 0) && has_bit m.rows.items (bit_index m.width b j) in
    record {
      inside = λ j h.
          let q = get_or m.numbers.items j 0 in
          let wide : j < 64 * m.width = omega (arith, h, M.wide) in
          let some = shut_says v A q c.args.mosts.now c.args.have.now c.args.members.now (λ b. shut v.bounds b j) M.well (M.live q (listed_at m.numbers.items j h)) c.requires.base c.requires.mosts c.requires.have
          (λ b l. ap (λ x. shut_at (item_at v.bounds b) (get_or c.args.mosts.now b 0) (get_or c.args.have.now b 0) && x) (M.rows b j l h)) in
          let first = c.take_out_shut.ensures.bits j wide ∙ ap (λ bs. has_bit c.first_row.new.row.items j && not (any_below (λ b. shut bs b j) (length bs))) c.items.ensures.value in
          left_open v A q c.args.members.now (has_bit c.first_row.new.row.items j) (any_below (λ b. shut v.bounds b j) (length v.bounds)) (has_bit c.take_out_shut.new.row.items j) (has_bit c.take_out_lacked.new.row.items j) (has_bit c.take_out_members.new.row.items j)
          c.requires.base (c.in_ok-first_row.ensures.inside j (omega (arith, h, n))) some first (c.take_out_lacked.ensures.bits j h) (c.take_out_members.ensures.bits j h);
      past = λ j h l. c.take_out_members.ensures.past j (c.take_out_lacked.ensures.past j (still_out _ _ _ (c.take_out_shut.ensures.bits j l) (c.in_ok-first_row.ensures.past j (omega (arith, h, n)) l)));
    }
