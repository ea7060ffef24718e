use Rattle.std.proofs.Common.{subst, sym}
use Rattle.poly_tasks.specs.Touching.{IsSurvey}
use Rattle.poly_tasks.proofs.survey.ends_by.Goals as goal
use Rattle.poly_tasks.proofs.survey.ends_by.Goals.{then-task-far-via-else-task-far+then-is_untouched, then-task-far-via-then-task-far}

pub is_untouched-requires-clause-own : goal.is_untouched-requires-clause-own
is_untouched-requires-clause-own c = c.requires.own

pub returns-then-task-far-clause-ready : goal.returns-then-task-far-clause-ready
returns-then-task-far-clause-ready c =
    let t = c.args.touch.now in
    let log = c.args.log.now in
    let r = c.requires.ready in
    elim c.then-task-far.branch [
      | then-task-far-via-then-task-far w ↦ subst (λ s. IsSurvey t log s) (sym w.survey-is) r
      | then-task-far-via-else-task-far+then-is_untouched w ↦ subst (λ s. IsSurvey t log s) (sym w.survey-is) (record { untouched = w.is_untouched.ensures.known; spoiler = r.spoiler; spots = r.spots; lead = r.lead })
    ]

pub is_spoilt-requires-clause-own : goal.is_spoilt-requires-clause-own
is_spoilt-requires-clause-own c = c.requires.own

pub returns-then-is_spoilt-clause-ready : goal.returns-then-is_spoilt-clause-ready
returns-then-is_spoilt-clause-ready c =
    let r = c.requires.ready in
    record { untouched = c.is_untouched.ensures.known; spoiler = r.spoiler; spots = r.spots; lead = r.lead }

pub is_hopeless-requires-clause-own : goal.is_hopeless-requires-clause-own
is_hopeless-requires-clause-own c = c.requires.own

pub is_hopeless-requires-clause-told : goal.is_hopeless-requires-clause-told
is_hopeless-requires-clause-told c = c.requires.told

pub is_hopeless-requires-clause-ready : goal.is_hopeless-requires-clause-ready
is_hopeless-requires-clause-ready c =
    let r = c.requires.ready in
    record { untouched = c.is_untouched.ensures.known; spoiler = r.spoiler; spots = r.spots; lead = r.lead }

pub returns-then-ends-clause-ready : goal.returns-then-ends-clause-ready
returns-then-ends-clause-ready c =
    let r = c.in_ok-ends.ensures.ready in
    record { untouched = r.untouched; spoiler = c.spoiler_of-survey.ensures; spots = r.spots; lead = r.lead }

pub returns-else-ends-clause-ready : goal.returns-else-ends-clause-ready
returns-else-ends-clause-ready c = c.in_ok-ends.ensures.ready
