use Rattle.std.proofs.Common.{arith}
use Rattle.poly_report.specs.Shapes.{plan_of}
use Rattle.poly_desk.specs.Changes.{OneCut}
use Rattle.poly_desk.proofs.Changed.{applied_one, cuts_within}
use Rattle.poly_desk.proofs.Kept.{cut_counts, cut_shows, cut_views}
use Rattle.poly_desk.proofs.floor.Floor.hand_in_found.Goals as goal

pub note_cut-requires-clause-few : goal.note_cut-requires-clause-few
note_cut-requires-clause-few g c = omega (arith, c.self.invariant.0.cuts_are, cuts_within c.self.inside.book.endings, c.make_room.ensures.few_endings)

pub invariant_of-self-2 : goal.invariant_of-self-2
invariant_of-self-2 g c =
    let k = c.args.found.report.task in
    let p : OneCut k c.self.inside.book c.apply_found.new.book c.in_ok-applied.applied = applied_one k c.args.found.report.edition (plan_of c.args.found.report.tree) _ _ _ c.in_ok-applied.ensures.ok in (
      cut_counts _ _ _ c.self.inside.book c.apply_found.new.book k c.in_ok-applied.applied _ _ _ _ c.note_cut.ensures.changes c.note_cut.ensures.cuts c.self.invariant.0 p,
      cut_shows _ c.self.inside.book c.apply_found.new.book k c.in_ok-applied.applied _ _ c.in_ok-make_room.ensures.steps c.in_ok-make_room.ensures.endings c.note_cut.ensures.posted p,
      c.self.invariant.2,
      c.self.invariant.3,
      cut_views g.O.Opening.steps g.O.Opening.view c.self.inside.book c.apply_found.new.book k c.in_ok-applied.applied c.self.invariant.4 p,
    )
