use Rattle.std.proofs.Common.{ap, arith, get_or, set, ◌-◌, ◌∙◌}
use Rattle.poly_atom.proofs.Forgets.{lowered_all, lowered_more}
use Rattle.poly_atom.proofs.log.lower_all.Goals as goal

pub loop-start-preserved : goal.loop-start-preserved
loop-start-preserved c =
    let i = c.loop-start.start-index in
    ap (λ x. set c.loop-start.starts i x) c.saturating_sub.ensures ∙ ap (λ xs. set xs i (get_or xs i 0 - c.args.count)) c.loop-start.invariant ∙ lowered_more c.args.count c.args.starts.now i 0 (omega (arith, c.loop-start-test.true))

pub returns : goal.returns
returns c = c.loop-start.invariant ∙ lowered_all c.args.count c.args.starts.now c.loop-start.start-index (omega (arith, c.loop-start-test.false))
