use Rattle.std.proofs.Common.{arith, get_or, inl, inr, length, subst, sym, ℕ, ◌*◌, ◌/◌}
use Rattle.std.proofs.lemmas.Bool.{cases_lt}
use Rattle.poly_frame.specs.Bits.{IsLess}
use Rattle.poly_frame.proofs.Words.{words_less_three}
use Rattle.poly_frame.proofs.bits.take_out_three.Goals as goal

pub returns-clause-bits : goal.returns-clause-bits
returns-clause-bits c =
    let old = c.args.words.now in
    let mid = c.take_out_fours.new.words in
    let new = c.take_out_rest.new.words in
    let xs = c.args.first.now in
    let ys = c.args.second.now in
    let zs = c.args.third.now in
    words_less_three old xs ys zs new (length old) (λ k h. elim (cases_lt k (4 * (length old / 4))) [
      | inl l ↦ subst (λ (x : ℕ). IsLess x (get_or old k 0) (get_or xs k 0) (get_or ys k 0) (get_or zs k 0)) (sym (c.take_out_rest.ensures.before k l)) (c.take_out_fours.ensures.done k l)
      | inr g ↦ subst (λ (x : ℕ). IsLess (get_or new k 0) x (get_or xs k 0) (get_or ys k 0) (get_or zs k 0)) (c.take_out_fours.ensures.rest k g) (c.take_out_rest.ensures.done k g (omega (arith, h, c.take_out_fours.ensures.len)))
    ])
