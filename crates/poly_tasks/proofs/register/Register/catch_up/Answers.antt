use Rattle.std.proofs.Common.{subst, sym}
use Rattle.poly_tasks.specs.Mapped.{AreNoted, AreNotedBelow}
use Rattle.poly_tasks.specs.Meaning.{AreTasks}
use Rattle.poly_tasks.proofs.Noted.{below_kept, below_wide, caught_up, noted_below, rest_is, tasks_drop}
use Rattle.poly_tasks.proofs.register.Register.catch_up.Goals as goal

pub note_all-requires : goal.note_all-requires
note_all-requires c =
    let i = c.first_from-start.result in
    let ps = c.args.pending.now in
    subst (λ qs. AreTasks c.args.log.now qs) (sym (rest_is i ps)) (tasks_drop c.args.log.now i ps c.requires.tasks)

pub returns-in_err-note_all-clause-kept : goal.returns-in_err-note_all-clause-kept
returns-in_err-note_all-clause-kept c =
    let old = c.args.self.now in
    let b = c.tidy.new.self.below in
    let m = c.tidy.new.self.maps in
    let log = c.args.log.now in
    let ps = c.args.pending.now in
    let tidied : AreNotedBelow b m log ps = subst (λ x. AreNotedBelow x m log ps) (sym c.tidy.ensures.below) (below_kept old.below old.maps m log ps c.tidy.ensures.kept c.requires.noted) in
    below_wide b m c.note_all.new.self log ps c.note_all.ensures.wider tidied

pub returns-clause-noted : goal.returns-clause-noted
returns-clause-noted c =
    let old = c.args.self.now in
    let b = c.tidy.new.self.below in
    let m = c.tidy.new.self.maps in
    let log = c.args.log.now in
    let ps = c.args.pending.now in
    let tidied : AreNotedBelow b m log ps = subst (λ x. AreNotedBelow x m log ps) (sym c.tidy.ensures.below) (below_kept old.below old.maps m log ps c.tidy.ensures.kept c.requires.noted) in
    let i = c.first_from-start.result in
    let m2 = c.note_all.new.self in
    caught_up b m m2 log ps i c.note_all.ensures.wider c.first_from-start.ensures.parts.0 tidied (subst (λ qs. AreNoted m2 log qs) (rest_is i ps) c.in_ok-note_all.ensures.ok)

pub returns-clause-kept : goal.returns-clause-kept
returns-clause-kept c = noted_below c.args.next c.note_all.new.self c.args.log.now c.args.pending.now (returns-clause-noted c)
