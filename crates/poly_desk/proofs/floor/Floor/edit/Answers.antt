use Rattle.std.proofs.Common.{arith}
use Rattle.std.proofs.lemmas.Result.{err_from_is_err_and}
use Rattle.poly_desk.specs.Changes.{OneChange}
use Rattle.poly_desk.proofs.Changed.{edited_one}
use Rattle.poly_desk.proofs.Kept.{change_counts, change_shows, change_views, refused_for}
use Rattle.poly_desk.proofs.floor.Floor.edit.Goals as goal

pub note_change-requires-clause-few : goal.note_change-requires-clause-few
note_change-requires-clause-few g c = omega (arith, c.self.invariant.0.changes_are, c.make_room.ensures.few_steps)

pub invariant_of-self-2 : goal.invariant_of-self-2
invariant_of-self-2 g c =
    let p : OneChange c.self.inside.book c.edit.new.self c.in_ok-done.done = edited_one _ _ _ _ c.in_ok-done.ensures.ok in (
      change_counts _ _ _ c.self.inside.book c.edit.new.self c.in_ok-done.done _ _ _ _ c.note_change.ensures.changes c.note_change.ensures.cuts c.self.invariant.0 p,
      change_shows _ c.self.inside.book c.edit.new.self c.in_ok-done.done _ _ c.in_ok-make_room.ensures.steps c.in_ok-make_room.ensures.endings c.note_change.ensures.posted p,
      c.self.invariant.2,
      c.self.invariant.3,
      change_views g.O.Opening.steps g.O.Opening.view _ _ c.self.inside.book c.edit.new.self c.in_ok-done.done _ _ c.self.invariant.0 p,
    )

pub returns-clause-ok : goal.returns-clause-ok
returns-clause-ok g c = rw (c.note_change.ensures.receipt, ← c.self.view_is) c.in_ok-done.ensures.ok

pub returns-in_err-done-clause-why : goal.returns-in_err-done-clause-why
returns-in_err-done-clause-why g c =
    let p = err_from_is_err_and c.from_residual-in_err-done.result c.from_residual-in_err-done.ensures.1 in
    rw (p.1, p.2) (rw (← c.self.view_is) (refused_for c.self.inside.book _ _ _ _ c.in_ok-note_numbers.ensures.seen c.in_ok-note_numbers.ensures.noted c.in_err-done.ensures.why))
