use Rattle.std.proofs.Common.{subst, sym}
use Rattle.std.specs.Arc.{arc_value}
use Rattle.std.specs.Prelude.{IfOk}
use Rattle.poly_tiling.specs.Names.{Grown}
use Rattle.poly_tiling.specs.Puzzle.{View}
use Rattle.poly_tiling.specs.Shows.{Shows}
use Rattle.poly_place.specs.declared.plan.Plan.{Plan}
use Rattle.poly_place.specs.Delta.{IsPlanFor}
use Rattle.poly_place.specs.Numbered.{numbered_view}
use Rattle.poly_place.proofs.Grow.{grown_index, grown_shows, grown_well, grows_on}
use Rattle.poly_place.proofs.table.Table.plan_by.Goals as goal

pub invariant_of-self : goal.invariant_of-self
invariant_of-self c = record {
  well = grown_well (numbered_view c.self.inside.names c.self.inside.numbered) c.plan_change.new.names c.self.invariant.well c.plan_change.ensures.grows;
  index = grown_index (numbered_view c.self.inside.names c.self.inside.numbered) c.plan_change.new.names c.self.inside.index.rows.items c.self.invariant.well c.plan_change.ensures.grows c.self.invariant.index;
}

pub returns-clause-ok : goal.returns-clause-ok
returns-clause-ok c =
    subst (λ (t : View). IfOk c.plan_change.result (λ (p : Plan). IsPlanFor t c.args.design.now c.args.after.now (arc_value p.view) p.delta)) c.self.view_is c.plan_change.ensures.ok

pub returns-clause-stays : goal.returns-clause-stays
returns-clause-stays c = subst (λ (t : View). Grown t (numbered_view c.plan_change.new.names c.self.inside.numbered)) c.self.view_is (grows_on (numbered_view c.self.inside.names c.self.inside.numbered) c.plan_change.new.names c.plan_change.ensures.grows)

pub returns-clause-right : goal.returns-clause-right
returns-clause-right c = record {
  well = grown_well (numbered_view c.self.inside.names c.self.inside.numbered) c.plan_change.new.names c.self.invariant.well c.plan_change.ensures.grows;
  shows = grown_shows (numbered_view c.self.inside.names c.self.inside.numbered) c.plan_change.new.names c.args.design.now c.self.invariant.well c.plan_change.ensures.grows
      (subst (λ (t : View). Shows t c.args.design.now) (sym c.self.view_is) c.requires.standing.shows);
}
