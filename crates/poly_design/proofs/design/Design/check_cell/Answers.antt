use Rattle.std.proofs.Common.{◌≡◌, refl, sym, subst}
use Rattle.poly_design.specs.declared.mode.Mode.{Mode}
use Rattle.poly_design.specs.declared.mode.Mode.TheVariants.{Blocked}
use Rattle.poly_design.specs.declared.change.Change.TheVariants.{Cell}
use Rattle.poly_design.specs.Changes.{changed}
use Rattle.poly_design.specs.Placements.{FewPlacements}
use Rattle.poly_design.proofs.Outside.{few_blocked}
use mathlib.Core.Bool.{true≢false}
use Rattle.poly_design.proofs.Accepted.{accept_cell, refuse_cell}
use Rattle.poly_design.proofs.Early.{past_cell}
use Rattle.poly_design.proofs.design.Design.check_cell.Goals as goal

pub returns-then-same_mode-2-clause-ok : goal.returns-then-same_mode-2-clause-ok
returns-then-same_mode-2-clause-ok c =
    let blocked : c.args.mode ≡ Blocked = c.if-same_mode-2.ensures.0 refl in
    let d = c.args.self.now in
    accept_cell d c.args.cell c.mode-before.result c.args.mode c.has_room.ensures.design c.mode-before.ensures (λ e. true≢false (sym (c.if-same_mode.ensures.1 e))) (c.if-not-has_room.ensures.room.0 refl)
    (subst (λ (m : Mode). FewPlacements (changed d (Cell c.args.cell c.mode-before.result m))) (sym blocked) (few_blocked d c.args.cell c.mode-before.result c.has_room.ensures.design))

pub returns-in-Ok-clause-ok : goal.returns-in-Ok-clause-ok
returns-in-Ok-clause-ok c =
    accept_cell c.args.self.now c.args.cell c.mode-before.result c.args.mode c.has_room.ensures.design c.mode-before.ensures (λ e. true≢false (sym (c.if-same_mode.ensures.1 e))) (c.if-not-has_room.ensures.room.0 refl) c.in-Ok.ensures.ok

pub returns-in-Err-clause-why : goal.returns-in-Err-clause-why
returns-in-Err-clause-why c =
    refuse_cell c.args.self.now c.args.cell c.mode-before.result c.args.mode c.in-Err.refusal c.mode-before.ensures (λ e. true≢false (sym (c.if-same_mode.ensures.1 e))) (c.if-not-has_room.ensures.room.0 refl) c.in-Err.ensures.why

pub returns-in-Err-clause-memory : goal.returns-in-Err-clause-memory
returns-in-Err-clause-memory c = λ _.
    past_cell c.args.self.now c.args.cell c.mode-before.result c.args.mode c.mode-before.ensures (λ e. true≢false (sym (c.if-same_mode.ensures.1 e))) (c.if-not-has_room.ensures.room.0 refl)
