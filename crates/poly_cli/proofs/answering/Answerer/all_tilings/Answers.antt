use Rattle.std.proofs.Common.{Some, subst, sym, ◌∙◌}
use Rattle.poly_cli.specs.Current.{IsCurrent}
use Rattle.poly_cli.proofs.LineReplies.{answered_again}
use Rattle.poly_cli.proofs.answering.Answerer.all_tilings.Goals as goal

pub returns-in-Some-clause-ok : goal.returns-in-Some-clause-ok
returns-in-Some-clause-ok g c =
    let s = g.E.Engine.state c.args.engine.now in
    let current : IsCurrent (Some c.in-Some.quiet) s = subst (λ o. IsCurrent o s) (sym c.take.ensures.value ∙ c.in-Some.is) c.requires.kept in
    (current.2, answered_again s current.1)

pub returns-in-Some-clause-design : goal.returns-in-Some-clause-design
returns-in-Some-clause-design g c =
    let s = g.E.Engine.state c.args.engine.now in
    let current : IsCurrent (Some c.in-Some.quiet) s = subst (λ o. IsCurrent o s) (sym c.take.ensures.value ∙ c.in-Some.is) c.requires.kept in
    current.0
