use Rattle.std.proofs.Common.{Bool, Err, List, ap, refl, subst, sym}
use Rattle.poly_design.specs.Layout.{Layout}
use Rattle.poly_tiling.specs.Puzzle.{View}
use Rattle.poly_tiling.specs.Shows.{Shows}
use Rattle.poly_place.specs.Index.{item_of}
use Rattle.poly_place.specs.Delta.{IsPlanFor}
use Rattle.poly_place.specs.Interned.{GoesOn}
use Rattle.poly_place.specs.Right.{IsRight}
use Rattle.poly_place.specs.Numbered.{numbered_view}
use Rattle.poly_place.specs.Touched.{AreMarked}
use Rattle.poly_place.proofs.Grow.{grown_index, grown_marked, grown_shows, grown_well}
use Rattle.poly_place.proofs.Indexed.{low_row}
use Rattle.poly_place.proofs.Ordered.{order_none}
use Rattle.poly_place.proofs.Rows.{rows_up}
use Rattle.poly_place.proofs.RunOut.{passed_on}
use Rattle.poly_place.proofs.plan_change.plan_change.Goals as goal

pub marks-requires-clause-rows : goal.marks-requires-clause-rows
marks-requires-clause-rows c = rows_up c.args.index.now.rows.items c.args.numbered.now.bounds.items c.requires.indexed.items c.requires.well.items_up

pub marks-requires-clause-low : goal.marks-requires-clause-low
marks-requires-clause-low c = low_row (numbered_view c.args.names.now c.args.numbered.now) c.args.index.now.rows.items c.requires.well c.requires.indexed (item_of c.args.change.now)

pub plan_between-requires-clause-standing : goal.plan_between-requires-clause-standing
plan_between-requires-clause-standing c = grown_well (numbered_view c.args.names.now c.args.numbered.now) c.updated.new.names c.requires.well c.in_ok-update.ensures.grows

pub changed_by-requires-clause-rows : goal.changed_by-requires-clause-rows
changed_by-requires-clause-rows c = rows_up c.args.index.now.rows.items c.args.numbered.now.bounds.items c.requires.indexed.items c.requires.well.items_up

pub changed_by-requires-clause-well : goal.changed_by-requires-clause-well
changed_by-requires-clause-well c =
    let t : View = numbered_view c.args.names.now c.args.numbered.now in
    let are : AreMarked t c.args.change.now c.in_ok-marks.marks.items = c.in_ok-marks.ensures.ok t refl c.requires.indexed in
    let marked : AreMarked t c.args.change.now c.deref.result.now = subst (λ (l : List Bool). AreMarked t c.args.change.now l) (sym c.deref.ensures.value) are in
    (c.in_ok-update.ensures.right c.args.design.now c.requires.shows marked c.requires.after).well

pub plan_between-requires-clause-indexed : goal.plan_between-requires-clause-indexed
plan_between-requires-clause-indexed c =
    let t : View = numbered_view c.args.names.now c.args.numbered.now in
    let all = c.updated.new.names in
    let x = c.args.change.now in
    let g : GoesOn c.args.names.now all = c.in_ok-update.ensures.grows in
    let are : AreMarked t x c.in_ok-marks.marks.items = c.in_ok-marks.ensures.ok t refl c.requires.indexed in
    let marked : AreMarked t x c.deref.result.now = subst (λ (l : List Bool). AreMarked t x l) (sym c.deref.ensures.value) are in
    let again : AreMarked t x c.deref-2.result.now = subst (λ (l : List Bool). AreMarked t x l) (sym c.deref-2.ensures.value) are in
    let right : IsRight (numbered_view all c.in_ok-update.update.numbered) c.args.after.now = c.in_ok-update.ensures.right c.args.design.now c.requires.shows marked c.requires.after in
    c.in_ok-next.ensures.ok (numbered_view all c.args.numbered.now) c.args.design.now x refl
    (grown_well t all c.requires.well g)
    (grown_shows t all c.args.design.now c.requires.well g c.requires.shows)
    (grown_index t all c.args.index.now.rows.items c.requires.well g c.requires.indexed)
    (grown_marked t all x c.deref-2.result.now c.requires.well g again)
    (subst (λ (d : Layout). Shows (numbered_view all c.in_ok-update.update.numbered) d) c.requires.after right.shows)
    (c.in_ok-update.ensures.found marked)

pub plan_between-requires-clause-next : goal.plan_between-requires-clause-next
plan_between-requires-clause-next c =
    let t : View = numbered_view c.args.names.now c.args.numbered.now in
    let are : AreMarked t c.args.change.now c.in_ok-marks.marks.items = c.in_ok-marks.ensures.ok t refl c.requires.indexed in
    let marked : AreMarked t c.args.change.now c.deref.result.now = subst (λ (l : List Bool). AreMarked t c.args.change.now l) (sym c.deref.ensures.value) are in
    (c.in_ok-update.ensures.right c.args.design.now c.requires.shows marked c.requires.after).well

pub returns-clause-ok : goal.returns-clause-ok
returns-clause-ok c =
    let t : View = numbered_view c.args.names.now c.args.numbered.now in
    let g : GoesOn c.args.names.now c.updated.new.names = c.in_ok-update.ensures.grows in
    let v : View = numbered_view c.updated.new.names c.in_ok-update.update.numbered in
    let are : AreMarked t c.args.change.now c.in_ok-marks.marks.items = c.in_ok-marks.ensures.ok t refl c.requires.indexed in
    let marked : AreMarked t c.args.change.now c.deref.result.now = subst (λ (l : List Bool). AreMarked t c.args.change.now l) (sym c.deref.ensures.value) are in
    let right : IsRight v c.args.after.now = c.in_ok-update.ensures.right c.args.design.now c.requires.shows marked c.requires.after in
    subst (λ (w : View). IsPlanFor t c.args.design.now c.args.after.now w c.in_ok-plan.plan.delta) (sym c.in_ok-plan.ensures.view) (record {
      right = right;
      names = (g.more, g.appended);
      order = c.in_ok-update.ensures.order c.args.design.now c.requires.shows marked c.requires.after;
      delta = c.in_ok-plan.ensures.delta c.args.design.now c.args.after.now (grown_shows t c.updated.new.names c.args.design.now c.requires.well g c.requires.shows) right.shows;
    })

pub returns-clause-given : goal.returns-clause-given
returns-clause-given c = ap (λ (w : View). w.placements) c.in_ok-plan.ensures.view

pub returns-in_err-marks-clause-order : goal.returns-in_err-marks-clause-order
returns-in_err-marks-clause-order c = order_none c.args.after.now c.args.names.now c.args.names.now refl

pub returns-in_err-update-clause-order : goal.returns-in_err-update-clause-order
returns-in_err-update-clause-order c =
    let t : View = numbered_view c.args.names.now c.args.numbered.now in
    let are : AreMarked t c.args.change.now c.in_ok-marks.marks.items = c.in_ok-marks.ensures.ok t refl c.requires.indexed in
    let marked : AreMarked t c.args.change.now c.deref.result.now = subst (λ (l : List Bool). AreMarked t c.args.change.now l) (sym c.deref.ensures.value) are in
    c.in_err-update.ensures.order c.args.design.now c.requires.shows marked c.requires.after

pub returns-in_err-next-clause-order : goal.returns-in_err-next-clause-order
returns-in_err-next-clause-order c =
    let t : View = numbered_view c.args.names.now c.args.numbered.now in
    let are : AreMarked t c.args.change.now c.in_ok-marks.marks.items = c.in_ok-marks.ensures.ok t refl c.requires.indexed in
    let marked : AreMarked t c.args.change.now c.deref.result.now = subst (λ (l : List Bool). AreMarked t c.args.change.now l) (sym c.deref.ensures.value) are in
    c.in_ok-update.ensures.order c.args.design.now c.requires.shows marked c.requires.after

pub returns-in_err-plan-clause-order : goal.returns-in_err-plan-clause-order
returns-in_err-plan-clause-order c =
    let t : View = numbered_view c.args.names.now c.args.numbered.now in
    let are : AreMarked t c.args.change.now c.in_ok-marks.marks.items = c.in_ok-marks.ensures.ok t refl c.requires.indexed in
    let marked : AreMarked t c.args.change.now c.deref.result.now = subst (λ (l : List Bool). AreMarked t c.args.change.now l) (sym c.deref.ensures.value) are in
    c.in_ok-update.ensures.order c.args.design.now c.requires.shows marked c.requires.after

pub returns-clause-order : goal.returns-clause-order
returns-clause-order c =
    let t : View = numbered_view c.args.names.now c.args.numbered.now in
    let are : AreMarked t c.args.change.now c.in_ok-marks.marks.items = c.in_ok-marks.ensures.ok t refl c.requires.indexed in
    let marked : AreMarked t c.args.change.now c.deref.result.now = subst (λ (l : List Bool). AreMarked t c.args.change.now l) (sym c.deref.ensures.value) are in
    c.in_ok-update.ensures.order c.args.design.now c.requires.shows marked c.requires.after

pub returns-in_err-update-clause-spent : goal.returns-in_err-update-clause-spent
returns-in_err-update-clause-spent c = λ s.
    c.in_err-update.ensures.spent (ap (λ e. Err e) (passed_on c.from_residual-in_err-update.result c.in_err-update.field-0.0 c.from_residual-in_err-update.ensures.1 s))
