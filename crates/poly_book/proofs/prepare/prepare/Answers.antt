use mathlib.Core.Path.{transport}
use Rattle.std.proofs.Common.{ap, arith, inl, inr, length, refl, subst, sym, ◌∙◌, ◌≡◌, ◌≤◌}
use Rattle.std.specs.Arc.{arc_value}
use Rattle.std.proofs.lemmas.List.{length-reverse}
use Rattle.std.proofs.lemmas.Result.{err_from_is_err_and}
use Rattle.poly_design.specs.Changes.{HasBefore, changed}
use Rattle.poly_design.specs.Limits.{IsDesign}
use Rattle.poly_design.specs.declared.change.Change.{Change}
use Rattle.poly_tiling.specs.Names.{Grown, WellNamed}
use Rattle.poly_tiling.specs.Puzzle.{View}
use Rattle.poly_tiling.specs.Shows.{Shows}
use Rattle.poly_tiling.proofs.Grown.{names_on}
use Rattle.poly_atom.specs.Guards.{guards}
use Rattle.poly_atom.specs.Width.{HasWidth}
use Rattle.poly_atom.proofs.Widths.{widths_show_lem}
use Rattle.poly_catalogue.specs.Listed.{AreOfEither}
use Rattle.poly_place.specs.Between.{IsChangeOf}
use Rattle.poly_place.specs.Spent.{IsSpent as NumbersAreSpent}
use Rattle.poly_place.specs.declared.plan.Plan.{Plan}
use Rattle.poly_book.specs.declared.parts.Parts.{Parts}
use Rattle.poly_book.specs.Changing.{IsGathered, IsNotGathered, stood_by}
use Rattle.poly_book.specs.Events.{Leads}
use Rattle.poly_book.specs.Keeps.{Keeps, state_of}
use Rattle.poly_book.specs.Shown.{shown}
use Rattle.poly_book.specs.Planned.{IsPlanOver}
use Rattle.poly_tasks.specs.Touching.{IsMadeBy}
use Rattle.poly_book.proofs.Alike.{keeps_alike}
use Rattle.poly_book.proofs.Applying.{still_keeps}
use Rattle.poly_book.proofs.Cataloguing.{listed_either}
use Rattle.poly_book.proofs.Refusing.{gather_not_made, memory_not_made, spent_not_made}
use Rattle.poly_book.proofs.prepare.prepare.Goals as goal

over : (p : Parts) (x : Change) (r : Plan) (v : View) → v ≡ p.scene → IsPlanOver v p.design (changed p.design x) r → IsPlanOver p.scene p.design (changed p.design x) r
over p x r v e q = subst (λ z. IsPlanOver z p.design (changed p.design x) r) e q

pub plan_ahead-requires-clause-well : goal.plan_ahead-requires-clause-well
plan_ahead-requires-clause-well c = subst WellNamed (sym c.view.ensures) c.requires.keeps.whole.consistent.well

pub plan_ahead-requires-clause-shows : goal.plan_ahead-requires-clause-shows
plan_ahead-requires-clause-shows c = subst (λ (v : View). Shows v c.args.parts.now.design) (sym c.view.ensures) c.requires.keeps.whole.consistent.shows

pub plan_ahead-requires-clause-first : goal.plan_ahead-requires-clause-first
plan_ahead-requires-clause-first c = subst (λ (v : View). Grown v c.args.parts.now.table) (sym c.view.ensures) c.requires.keeps.grown

-- the change leads to the plan's view
leads_by : (p : Parts) (x : Change) (r : Plan) → Keeps p → HasBefore p.design x → IsDesign (changed p.design x) → IsPlanOver p.scene p.design (changed p.design x) r → Leads (state_of p) x (arc_value r.view)
leads_by p x r k has is q = record {
  before = has;
  design = is;
  well = q.plan.right.well;
  shows = q.plan.right.shows;
  names = names_on p.scene q.table (arc_value r.view) q.first.0 q.plan.names;
}

-- each listed tiling is a tiling of the view before the change or of the plan's view
either_by : (p : Parts) (x : Change) (r : Plan) → Keeps p → IsPlanOver p.scene p.design (changed p.design x) r → AreOfEither (arc_value r.view) r.delta p.listed
either_by p x r k q = listed_either p.scene q.table (arc_value r.view) p.design (changed p.design x) r.delta p.listed k.whole.consistent.well q.first q.right q.plan k.whole.consistent.partition.only

-- the plan's differences are those of the change
abbrev change_by : (p : Parts) (x : Change) (r : Plan) → Keeps p → IsDesign (changed p.design x) → IsPlanOver p.scene p.design (changed p.design x) r → IsChangeOf p.scene (arc_value r.view) r.delta
change_by p x r k is q = record {
  before = p.design;
  after = changed p.design x;
  shown = record { well = k.whole.consistent.well; shows = k.whole.consistent.shows };
  updated = q.plan.right;
  first = k.whole.consistent.design;
  second = is;
  names = names_on p.scene q.table (arc_value r.view) q.first.0 q.plan.names;
  delta = q.plan.delta;
}

widths_by : (p : Parts) (x : Change) (r : Plan) → Keeps p → IsDesign (changed p.design x) → IsPlanOver p.scene p.design (changed p.design x) r →
    HasWidth p.design (changed p.design x) (length (guards p.scene (arc_value r.view))) × HasWidth (changed p.design x) p.design (length (guards (arc_value r.view) p.scene))
widths_by p x r k is q = widths_show_lem p.scene (arc_value r.view) r.delta (change_by p x r k is q)

pub gather-requires-clause-made : goal.gather-requires-clause-made
gather-requires-clause-made c =
    let shown : arc_value c.in_ok-planned.planned.view ≡ arc_value c.in_ok-planned.planned.plan.view = c.in_ok-planned.ensures.view in
    let at : c.deref.result.now ≡ arc_value c.in_ok-planned.planned.plan.view = c.deref.ensures ∙ shown in
    subst (λ w. IsMadeBy c.args.parts.now.scene w c.in_ok-planned.planned.plan.delta c.args.change.now) (sym at) (change_by c.args.parts.now c.args.change.now c.in_ok-planned.planned.plan c.requires.keeps c.requires.design (over c.args.parts.now c.args.change.now c.in_ok-planned.planned.plan c.view.result.now c.view.ensures c.in_ok-planned.ensures.plan), refl)

pub gather-requires-clause-either : goal.gather-requires-clause-either
gather-requires-clause-either c =
    let shown : arc_value c.in_ok-planned.planned.view ≡ arc_value c.in_ok-planned.planned.plan.view = c.in_ok-planned.ensures.view in
    let at : c.deref.result.now ≡ arc_value c.in_ok-planned.planned.plan.view = c.deref.ensures ∙ shown in
    subst (λ w. AreOfEither w c.in_ok-planned.planned.plan.delta c.args.parts.now.listed) (sym at) (either_by c.args.parts.now c.args.change.now c.in_ok-planned.planned.plan c.requires.keeps (over c.args.parts.now c.args.change.now c.in_ok-planned.planned.plan c.view.result.now c.view.ensures c.in_ok-planned.ensures.plan))

pub gather-requires-clause-keeps : goal.gather-requires-clause-keeps
gather-requires-clause-keeps c = keeps_alike refl refl c.reserve.ensures.items refl (still_keeps c.requires.keeps (subst (λ (v : View). Grown v c.plan_ahead.new.table) c.view.ensures c.in_ok-planned.ensures.first) c.in_ok-planned.ensures.right)

pub returns-in_err-reserve : goal.returns-in_err-reserve
returns-in_err-reserve c =
    let p = err_from_is_err_and c.from_residual.result c.from_residual.ensures.1 in
    let steps = c.reserve.ensures.items in
    rw p.1 record {
      stays = refl;
      tasks = refl;
      steps = steps;
      endings = refl;
      keeps = keeps_alike refl refl steps refl c.requires.keeps;
      ok = tt;
      narrow = tt;
      why = memory_not_made c.args.kind c.args.change.now (state_of c.args.parts.now) p.0 p.2;
    }

pub returns-in_err-planned : goal.returns-in_err-planned
returns-in_err-planned c =
    let p = err_from_is_err_and c.from_residual-in_err-planned.result c.from_residual-in_err-planned.ensures.1 in
    let a = c.args.parts.now in
    let steps = c.reserve.ensures.items in
    rw (p.1, p.2) record {
      stays = refl;
      tasks = refl;
      steps = steps;
      endings = refl;
      keeps = keeps_alike refl refl steps refl (still_keeps c.requires.keeps (subst (λ (v : View). Grown v c.plan_ahead.new.table) c.view.ensures c.in_err-planned.ensures.first) c.in_err-planned.ensures.right);
      ok = tt;
      narrow = tt;
      why = elim c.in_err-planned.ensures.why [
        | inl m ↦ spent_not_made c.args.kind c.args.change.now (state_of a) _ m.0 (subst (λ (v : View). NumbersAreSpent v.placements (changed a.design c.args.change.now)) c.view.ensures m.1)
        | inr m ↦ memory_not_made c.args.kind c.args.change.now (state_of a) _ m
      ];
    }

pub returns-in-Err : goal.returns-in-Err
returns-in-Err c =
    let a = c.args.parts.now in
    let s = state_of a in
    let x = c.args.change.now in
    let r = c.in_ok-planned.planned.plan in
    let w = arc_value r.view in
    let q = over a x r c.view.result.now c.view.ensures c.in_ok-planned.ensures.plan in
    let shown : arc_value c.in_ok-planned.planned.view ≡ w = c.in_ok-planned.ensures.view in
    let at : c.deref.result.now ≡ w = c.deref.ensures ∙ shown in
    let l = leads_by a x r c.requires.keeps c.requires.before c.requires.design q in
    let g = widths_by a x r c.requires.keeps c.requires.design q in
    let steps = c.reserve.ensures.items in
    let n : length c.reserve.new.self.items ≡ length s.steps = ap length steps ∙ sym (length-reverse a.steps.items) in
    record {
      stays = refl;
      tasks = refl;
      steps = steps;
      endings = refl;
      keeps = keeps_alike refl refl steps refl (still_keeps c.requires.keeps (subst (λ (v : View). Grown v c.plan_ahead.new.table) c.view.ensures c.in_ok-planned.ensures.first) c.in_ok-planned.ensures.right);
      ok = tt;
      narrow = tt;
      why = gather_not_made a.log s a.history x w refl refl l g (length c.reserve.new.self.items) n c.args.kind c.requires.top _ (subst (λ v. IsNotGathered a.scene v c.args.kind (length c.reserve.new.self.items) a.next (stood_by a.log c.args.kind a.history) c.in-Err.refusal) at c.in-Err.ensures.why);
    }

pub returns-in_default : goal.returns-in_default
returns-in_default c =
    let steps = c.reserve.ensures.items in
    let made = c.make_room.ensures in
    record {
      stays = refl;
      tasks = made.tasks;
      steps = steps;
      endings = made.endings;
      keeps = keeps_alike refl made.tasks steps made.endings (still_keeps c.requires.keeps (subst (λ (v : View). Grown v c.plan_ahead.new.table) c.view.ensures c.in_ok-planned.ensures.first) c.in_ok-planned.ensures.right);
      ok = tt;
      narrow = tt;
      why = memory_not_made c.args.kind c.args.change.now (state_of c.args.parts.now) _ refl;
    }

pub returns : goal.returns
returns c =
    let a = c.args.parts.now in
    let x = c.args.change.now in
    let r = c.in_ok-planned.planned.plan in
    let w = arc_value r.view in
    let q = over a x r c.view.result.now c.view.ensures c.in_ok-planned.ensures.plan in
    let shown_view : arc_value c.in_ok-planned.planned.view ≡ w = c.in_ok-planned.ensures.view in
    let at : c.deref.result.now ≡ w = c.deref.ensures ∙ shown_view in
    let steps : c.reserve.new.self.items ≡ a.steps.items = c.reserve.ensures.items in
    let ends : c.make_room.new.endings.items ≡ a.endings.items = c.make_room.ensures.endings in
    let tasks : c.make_room.new.tasks.items ≡ a.tasks.items = c.make_room.ensures.tasks in
    let l = leads_by a x r c.requires.keeps c.requires.before c.requires.design q in
    let widths = widths_by a x r c.requires.keeps c.requires.design q in
    record {
      stays = refl;
      tasks = tasks;
      steps = steps;
      endings = ends;
      keeps = keeps_alike refl tasks steps ends (still_keeps c.requires.keeps (subst (λ (v : View). Grown v c.plan_ahead.new.table) c.view.ensures c.in_ok-planned.ensures.first) c.in_ok-planned.ensures.right);
      ok = record {
        after_is = c.in_ok-planned.ensures.after;
        view_is = shown_view;
        leads = transport (λ i. Leads (shown a.opened a.design a.scene a.listed a.log (sym tasks i) a.next a.history (sym steps i) (sym ends i)) x w) l;
        right = q.plan.right;
        last = c.in_ok-planned.ensures.last;
        either = either_by a x r c.requires.keeps q;
        gathered = transport (λ i. IsGathered a.scene (at i) a.listed a.log (sym tasks i) (stood_by a.log c.args.kind a.history) a.next c.in-Ok.gathered.entry c.in-Ok.gathered.tasks c.in-Ok.gathered.shelf) c.in-Ok.ensures.ok;
        few_steps = c.in-Ok.ensures.few;
        enough = subst (λ (v : View). ¬ NumbersAreSpent v.placements (changed a.design x)) c.view.ensures c.in_ok-planned.ensures.enough;
        room_steps = omega (arith, c.in_ok-reserve.ensures.ok, c.in_ok-reserve.ensures.len);
        room_endings = c.in-Ok-make_room.ensures.room_endings;
        room_tasks = c.in-Ok-make_room.ensures.room_tasks;
      };
      narrow = λ edit.
          let few = subst (λ v. (length (guards a.scene v) ≤ 20000) × (length (guards v a.scene) ≤ 20000)) at (c.in-Ok.ensures.narrow edit) in
          record {
            forth = _;
            back = _;
            forth_width = widths.0;
            back_width = widths.1;
            few_forth = few.0;
            few_back = few.1;
          };
      why = tt;
    }
