use Rattle.std.proofs.Common.{ap, eqb, get_or, not, ◌&&◌, ◌∙◌}
use Rattle.std.specs.Int.{bit_at}
use Rattle.poly_frame.proofs.Words.{not_three}
use Rattle.poly_frame.proofs.bits.less_three.Goals as goal

pub returns : goal.returns
returns c = λ t h. c.less-3.ensures t h ∙ ap (λ b. b && not (eqb (bit_at (get_or c.args.third.now c.args.k 0) t) 1)) (c.less-2.ensures t h ∙ ap (λ b. b && not (eqb (bit_at (get_or c.args.second.now c.args.k 0) t) 1)) (c.less.ensures t h))
    ∙ not_three (eqb (bit_at c.args.word t) 1) (eqb (bit_at (get_or c.args.first.now c.args.k 0) t) 1) (eqb (bit_at (get_or c.args.second.now c.args.k 0) t) 1) (eqb (bit_at (get_or c.args.third.now c.args.k 0) t) 1)
