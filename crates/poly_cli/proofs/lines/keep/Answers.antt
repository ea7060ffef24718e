use Rattle.std.proofs.Common.{arith, ◌+◌, ◌++◌, ◌∷◌, [], ◌∙◌, ap}
use Rattle.poly_cli.proofs.Cuts.{take_short, take_long}
use Rattle.poly_cli.proofs.lines.keep.Goals as goal

pub returns-then-len-limit-clause-line : goal.returns-then-len-limit-clause-line
returns-then-len-limit-clause-line c = λ b is.
    c.push_reserved.ensures.items ∙ ap (λ z. z ++ c.args.byte ∷ []) is ∙ take_short (c.args.limit + 1) b c.args.byte (rw (← is) (omega (arith, c.len.ensures)))

pub returns-else-len-limit-clause-line : goal.returns-else-len-limit-clause-line
returns-else-len-limit-clause-line c = λ b is.
    is ∙ take_long (c.args.limit + 1) b c.args.byte (rw (← is) (omega (arith, c.len.ensures)))
