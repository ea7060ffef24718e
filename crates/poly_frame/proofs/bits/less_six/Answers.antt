use Rattle.std.proofs.Common.{Bool, ap, eqb, get_or, not, ℕ, ◌&&◌, ◌||◌, ◌∙◌}
use Rattle.std.specs.Int.{bit_at}
use Rattle.poly_frame.proofs.Words.{not_six}
use Rattle.poly_frame.proofs.bits.less_six.Goals as goal

pub returns : goal.returns
returns c = λ t h.
    let bit : ℕ → Bool = λ n. eqb (bit_at n t) 1 in
    let high = bit (get_or c.args.fourth.now c.args.k 0) || (bit (get_or c.args.fifth.now c.args.k 0) || bit (get_or c.args.sixth.now c.args.k 0)) in
    c.less_three.ensures t h ∙ ap (λ b. b && not high) (c.less_three-word.ensures t h)
    ∙ not_six (bit c.args.word) (bit (get_or c.args.first.now c.args.k 0)) (bit (get_or c.args.second.now c.args.k 0)) (bit (get_or c.args.third.now c.args.k 0)) high
