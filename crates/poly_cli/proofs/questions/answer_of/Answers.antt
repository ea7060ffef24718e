use Rattle.std.proofs.Common.{ap, ◌∙◌}
use Rattle.std.proofs.lemmas.Result.{IfOk-weaker}
use Rattle.poly_cli.specs.Questions.{asked_of}
use Rattle.poly_cli.proofs.Shared.{answer_is, answer_moved}
use Rattle.poly_cli.proofs.questions.answer_of.Goals as goal

pub returns-clause-ok : goal.returns-clause-ok
returns-clause-ok c = IfOk-weaker c.browse.result _ _ (λ a h.
    let here = answer_moved a.count a.forced.items a.options.items c.design.ensures.value (c.deref.ensures ∙ c.view.ensures.value) c.tilings.ensures.value (ap asked_of c.question.view_is) h in
    (answer_is c.answers_go_by_sets.ensures c.listings_show.ensures c.args.quiet.now c.design.ensures.all (asked_of c.args.question) a.count a.forced.items a.options.items here).0) c.browse.ensures.ok

pub returns-clause-short : goal.returns-clause-short
returns-clause-short c = IfOk-weaker c.browse.result _ _ (λ a h.
    let here = answer_moved a.count a.forced.items a.options.items c.design.ensures.value (c.deref.ensures ∙ c.view.ensures.value) c.tilings.ensures.value (ap asked_of c.question.view_is) h in
    (answer_is c.answers_go_by_sets.ensures c.listings_show.ensures c.args.quiet.now c.design.ensures.all (asked_of c.args.question) a.count a.forced.items a.options.items here).1) c.browse.ensures.ok
