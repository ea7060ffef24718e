use Rattle.std.proofs.Common.{ap, length, subst, sym, ◌∙◌}
use Rattle.std.proofs.lemmas.Result.{err_from_is_err_and}
use Rattle.poly_design.specs.Changes.{HasBefore, changed}
use Rattle.poly_design.specs.Limits.{IsDesign}
use Rattle.poly_book.specs.declared.parts.Parts.{Parts}
use Rattle.poly_book.specs.Amounts.{IsNarrow}
use Rattle.poly_book.specs.Changing.{IsTop, shelved_by}
use Rattle.poly_book.specs.Keeps.{state_of}
use Rattle.poly_book.proofs.Entering.{entered_since, still_not_made}
use Rattle.poly_book.proofs.Refusing.{memory_not_made}
use Rattle.poly_book.proofs.apply.enter_change.Goals as goal

pub returns-in_err-catch_up-clause-keeps : goal.returns-in_err-catch_up-clause-keeps
returns-in_err-catch_up-clause-keeps c =
    let p = err_from_is_err_and c.from_residual.result c.from_residual.ensures.1 in
    rw p.1 c.catch_up.ensures.keeps

pub returns-in_err-catch_up-clause-err : goal.returns-in_err-catch_up-clause-err
returns-in_err-catch_up-clause-err c =
    let p = err_from_is_err_and c.from_residual.result c.from_residual.ensures.1 in
    rw p.1 (ap state_of c.catch_up.ensures.stays)

pub returns-in_err-catch_up-clause-why : goal.returns-in_err-catch_up-clause-why
returns-in_err-catch_up-clause-why c =
    let p = err_from_is_err_and c.from_residual.result c.from_residual.ensures.1 in
    rw (p.1, p.2) (memory_not_made c.args.kind c.args.change.now (state_of c.args.parts.now) _ c.in_err-catch_up.ensures.why)

pub returns-in_err-steps-clause-keeps : goal.returns-in_err-steps-clause-keeps
returns-in_err-steps-clause-keeps c =
    let p = err_from_is_err_and c.from_residual-in_err-steps.result c.from_residual-in_err-steps.ensures.1 in
    rw p.1 c.catch_up.ensures.keeps

pub returns-in_err-steps-clause-err : goal.returns-in_err-steps-clause-err
returns-in_err-steps-clause-err c =
    let p = err_from_is_err_and c.from_residual-in_err-steps.result c.from_residual-in_err-steps.ensures.1 in
    rw p.1 (ap state_of c.catch_up.ensures.stays)

pub returns-in_err-steps-clause-why : goal.returns-in_err-steps-clause-why
returns-in_err-steps-clause-why c =
    let p = err_from_is_err_and c.from_residual-in_err-steps.result c.from_residual-in_err-steps.ensures.1 in
    rw (p.1, p.2) (memory_not_made c.args.kind c.args.change.now (state_of c.args.parts.now) _ c.in_err-steps.ensures.why)

pub prepare_and_enter-requires-clause-keeps : goal.prepare_and_enter-requires-clause-keeps
prepare_and_enter-requires-clause-keeps c = c.catch_up.ensures.keeps

pub prepare_and_enter-requires-clause-noted : goal.prepare_and_enter-requires-clause-noted
prepare_and_enter-requires-clause-noted c = c.in_ok-catch_up.ensures.noted

pub prepare_and_enter-requires-clause-before : goal.prepare_and_enter-requires-clause-before
prepare_and_enter-requires-clause-before c = subst (λ d. HasBefore d c.args.change.now) (sym (ap (λ (z : Parts). z.design) c.catch_up.ensures.stays)) c.requires.before

pub prepare_and_enter-requires-clause-design : goal.prepare_and_enter-requires-clause-design
prepare_and_enter-requires-clause-design c = subst (λ d. IsDesign (changed d c.args.change.now)) (sym (ap (λ (z : Parts). z.design) c.catch_up.ensures.stays)) c.requires.design

pub prepare_and_enter-requires-clause-top : goal.prepare_and_enter-requires-clause-top
prepare_and_enter-requires-clause-top c = subst (λ h. IsTop c.args.kind h c.args.change.now) (sym (ap (λ (z : Parts). z.history) c.catch_up.ensures.stays)) c.requires.top

pub returns-in-Ok-clause-ok : goal.returns-in-Ok-clause-ok
returns-in-Ok-clause-ok c = entered_since c.args.kind c.args.change.now c.args.parts.now c.catch_up.new.parts c.prepare_and_enter.new.parts c.in-Ok.ready c.catch_up.ensures.stays c.in-Ok.ensures.ok

pub returns-in-Ok-clause-noted : goal.returns-in-Ok-clause-noted
returns-in-Ok-clause-noted c = c.in_ok-steps.ensures.noted ∙ ap (λ (z : Parts). record { kind = c.args.kind; change = c.args.change.now; pending = length z.tasks.items; shelved = shelved_by z.log c.args.kind z.history }) c.catch_up.ensures.stays

pub returns-in-Ok-clause-told : goal.returns-in-Ok-clause-told
returns-in-Ok-clause-told c = c.in_ok-steps.ensures.told

pub returns-in-Ok-clause-narrow : goal.returns-in-Ok-clause-narrow
returns-in-Ok-clause-narrow c = λ edit. subst (λ d. IsNarrow d (changed d c.args.change.now)) (ap (λ (z : Parts). z.design) c.catch_up.ensures.stays) (c.in-Ok.ensures.narrow edit)

pub returns-in-Err-clause-keeps : goal.returns-in-Err-clause-keeps
returns-in-Err-clause-keeps c = c.in-Err.ensures.keeps

pub returns-in-Err-clause-err : goal.returns-in-Err-clause-err
returns-in-Err-clause-err c = c.in-Err.ensures.err ∙ ap state_of c.catch_up.ensures.stays

pub returns-in-Err-clause-why : goal.returns-in-Err-clause-why
returns-in-Err-clause-why c = still_not_made c.args.kind c.args.change.now (state_of c.catch_up.new.parts) (state_of c.args.parts.now) _ (ap state_of c.catch_up.ensures.stays) c.in-Err.ensures.why
