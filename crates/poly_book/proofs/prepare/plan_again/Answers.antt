use Rattle.std.proofs.Common.{length, subst, sym, ◌≡◌, ◌≤◌}
use Rattle.std.specs.Arc.{arc_value}
use Rattle.std.proofs.lemmas.Result.{IfOk-weaker}
use Rattle.poly_design.specs.Changes.{changed}
use Rattle.poly_design.specs.Layout.{Layout}
use Rattle.poly_tiling.specs.Names.{Grown, WellNamed}
use Rattle.poly_tiling.specs.Puzzle.{View}
use Rattle.poly_tiling.specs.Shows.{Shows}
use Rattle.poly_tiling.proofs.Grown.{grown_self}
use Rattle.poly_place.specs.Delta.{IsPlanFor}
use Rattle.poly_place.specs.Right.{IsRight}
use Rattle.poly_place.specs.Spent.{IsSpent as NumbersAreSpent}
use Rattle.poly_place.specs.declared.plan.Plan.{Plan}
use Rattle.poly_book.specs.Planned.{IsPlanOver}
use Rattle.poly_book.proofs.Enough.{ok_on_both, plan_enough, plan_over, spent_by}
use Rattle.poly_book.proofs.prepare.plan_again.Goals as goal

shown_again : (v t : View) (d : Layout) → t ≡ v → WellNamed v → Shows v d → IsRight t d
shown_again v t d e well shows = subst (λ z. IsRight z d) (sym e) (record { well = well; shows = shows })

grown_again : (v t : View) → t ≡ v → Grown v t
grown_again v t e = subst (λ z. Grown v z) (sym e) (grown_self v)

pub plan_by-requires-clause-standing : goal.plan_by-requires-clause-standing
plan_by-requires-clause-standing c = shown_again c.args.view.now c.take_back.new.self c.args.design.now c.take_back.ensures c.requires.well c.requires.shows

pub returns-clause-ok : goal.returns-clause-ok
returns-clause-ok c =
    let v = c.args.view.now in
    let t = c.take_back.new.self in
    let d = c.args.design.now in
    let e = changed d c.args.change.now in
    IfOk-weaker c.plan_by.result (λ (p : Plan). IsPlanFor t d c.args.after.now (arc_value p.view) p.delta) (λ p. IsPlanOver v d e p) (λ p q. plan_over v t d c.args.after.now e p (grown_again v t c.take_back.ensures) (shown_again v t d c.take_back.ensures c.requires.well c.requires.shows) c.requires.after q) c.plan_by.ensures.ok

pub returns-clause-enough : goal.returns-clause-enough
returns-clause-enough c =
    let v = c.args.view.now in
    let t = c.take_back.new.self in
    let d = c.args.design.now in
    let e = changed d c.args.change.now in
    ok_on_both c.plan_by.result (λ (p : Plan). IsPlanFor t d c.args.after.now (arc_value p.view) p.delta) (λ (p : Plan). length (arc_value p.view).placements ≤ 4294967296) (¬ NumbersAreSpent v.placements e) c.plan_by.ensures.ok c.plan_by.ensures.few
    (λ p q few. plan_enough v t d c.args.after.now e p (grown_again v t c.take_back.ensures) c.requires.after q few)

pub returns-clause-first : goal.returns-clause-first
returns-clause-first c = subst (λ (t : View). Grown t c.plan_by.new.self) c.take_back.ensures c.plan_by.ensures.stays

pub returns-clause-why : goal.returns-clause-why
returns-clause-why c = spent_by c.plan_by.result c.take_back.new.self c.args.view.now c.args.after.now (changed c.args.design.now c.args.change.now) c.take_back.ensures c.requires.after c.plan_by.ensures.spent c.plan_by.ensures.why
