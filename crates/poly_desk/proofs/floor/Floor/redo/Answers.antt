use Rattle.std.proofs.Common.{arith, inl, subst, ◌≡◌, ◌⊎◌}
use Rattle.std.proofs.lemmas.Result.{err_from_is_err_and}
use Rattle.poly_grid.specs.declared.refusal.Refusal.TheVariants.{Memory}
use Rattle.poly_book.specs.Refused.{IsNotRedone}
use Rattle.poly_desk.specs.Calls.{IsRefused}
use Rattle.poly_desk.specs.Floors.{OnFloor}
use Rattle.poly_desk.specs.Changes.{OneChange}
use Rattle.poly_desk.proofs.Changed.{redone_one}
use Rattle.poly_desk.proofs.Kept.{change_counts, change_shows, change_views, refused_for}
use Rattle.poly_desk.proofs.floor.Floor.redo.Goals as goal

pub note_change-requires-clause-few : goal.note_change-requires-clause-few
note_change-requires-clause-few g c = omega (arith, c.self.invariant.0.changes_are, c.make_room.ensures.few_steps)

pub invariant_of-self-2 : goal.invariant_of-self-2
invariant_of-self-2 g c =
    let p : OneChange c.self.inside.book c.redo.new.self c.in_ok-done.done = redone_one _ _ _ c.in_ok-done.ensures.ok in (
      change_counts _ _ _ c.self.inside.book c.redo.new.self c.in_ok-done.done _ _ _ _ c.note_change.ensures.changes c.note_change.ensures.cuts c.self.invariant.0 p,
      change_shows _ c.self.inside.book c.redo.new.self c.in_ok-done.done _ _ c.in_ok-make_room.ensures.steps c.in_ok-make_room.ensures.endings c.note_change.ensures.posted p,
      c.self.invariant.2,
      c.self.invariant.3,
      change_views g.O.Opening.steps g.O.Opening.view _ _ c.self.inside.book c.redo.new.self c.in_ok-done.done _ _ c.self.invariant.0 p,
    )

pub returns-clause-ok : goal.returns-clause-ok
returns-clause-ok g c = rw (c.note_change.ensures.receipt, ← c.self.view_is) c.in_ok-done.ensures.ok

pub returns-in_err-done-clause-why : goal.returns-in_err-done-clause-why
returns-in_err-done-clause-why g c =
    let p = err_from_is_err_and c.from_residual-in_err-done.result c.from_residual-in_err-done.ensures.1 in
    let was = refused_for c.self.inside.book c.args.pass.now c.note_numbers.new.pass _ (IsNotRedone c.self.inside.book c.in_err-done.field-0.0 ⊎ (c.in_err-done.field-0.0 ≡ Memory)) c.in_ok-note_numbers.ensures.seen c.in_ok-note_numbers.ensures.noted (inl c.in_err-done.ensures.why) in
    rw (p.1, p.2) (subst (λ (z : OnFloor). IsRefused z.book c.args.pass.now c.note_numbers.new.pass c.in_err-done.field-0.0 (IsNotRedone z.book c.in_err-done.field-0.0 ⊎ (c.in_err-done.field-0.0 ≡ Memory))) c.self.view_is was)
