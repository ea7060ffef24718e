use Rattle.std.proofs.Common.{arith, get_or, inl, inr, length, subst, sym, ℕ, ◌*◌, ◌/◌}
use Rattle.std.proofs.lemmas.Bool.{cases_lt}
use Rattle.poly_frame.specs.Bits.{IsLessSix}
use Rattle.poly_frame.proofs.Words.{words_less_six}
use Rattle.poly_frame.proofs.bits.without_six.Goals as goal

pub returns-clause-bits : goal.returns-clause-bits
returns-clause-bits c =
    let ws = c.args.row.now in
    let xa = c.args.first.now in
    let xb = c.args.second.now in
    let xc = c.args.third.now in
    let xd = c.args.fourth.now in
    let xe = c.args.fifth.now in
    let xf = c.args.sixth.now in
    let old = c.args.words.now in
    words_less_six ws xa xb xc xd xe xf c.without_six_rest.new.words (length old) (λ k h. elim (cases_lt k (4 * (length old / 4))) [
      | inl l ↦ subst (λ (x : ℕ). IsLessSix x (get_or ws k 0) (get_or xa k 0) (get_or xb k 0) (get_or xc k 0) (get_or xd k 0) (get_or xe k 0) (get_or xf k 0)) (sym (c.without_six_rest.ensures.before k l)) (c.without_six_fours.ensures.done k l)
      | inr g ↦ c.without_six_rest.ensures.done k g (omega (arith, h, c.without_six_fours.ensures.len))
    ])
