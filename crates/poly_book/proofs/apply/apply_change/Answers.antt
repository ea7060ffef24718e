use mathlib.Core.Path.{transport}
use Rattle.std.proofs.Common.{List, [], ap, arith, length, not, refl, rules, subst, sym, ◌++◌, ◌+◌, ◌∙◌, ◌∷◌, ◌≡◌}
use Rattle.std.specs.Arc.{arc_value}
use Rattle.std.specs.List.{filter}
use Rattle.std.specs.Prelude.{reverse}
use Rattle.std.proofs.lemmas.List.{length-map, length-reverse}
use Rattle.poly_design.specs.Changes.{changed}
use Rattle.poly_tiling.specs.Puzzle.{is_tiling}
use Rattle.poly_atom.specs.Hopeless.{hopeless}
use Rattle.poly_atom.specs.Stairs.{stairs}
use Rattle.poly_catalogue.specs.Listed.{AreSame}
use Rattle.poly_place.specs.Right.{IsRight}
use Rattle.poly_book.specs.declared.parts.Parts.{Parts}
use Rattle.poly_tasks.specs.declared.shelf.Kept.{Kept}
use Rattle.poly_tasks.specs.declared.task.Pending.{Pending}
use Rattle.poly_book.specs.Amounts.{IsNarrow}
use Rattle.poly_book.specs.Changing.{event_of, shelved_by, stood_by}
use Rattle.poly_book.specs.Events.{step}
use Rattle.poly_book.specs.Keeps.{KeepsOf, state_of}
use Rattle.poly_book.specs.Shown.{shown}
use Rattle.poly_tasks.specs.Meaning.{own_of}
use Rattle.poly_tasks.specs.Opens.{Opens}
use Rattle.poly_book.specs.Partition.{Becomes}
use Rattle.poly_tasks.specs.Shelves.{openings}
use Rattle.poly_book.specs.Steps.{IsDone}
use Rattle.poly_book.proofs.Applying.{can_note, did_becomes, did_keeps}
use Rattle.poly_book.proofs.Changes.{Did, reverse_push}
use Rattle.poly_book.proofs.Entering.{entered_shown, entered_top}
use Rattle.poly_book.proofs.apply.apply_change.Goals.{After-finish_change}
use Rattle.poly_book.proofs.apply.apply_change.Goals as goal

pub finish_change-requires-clause-history : goal.finish_change-requires-clause-history
finish_change-requires-clause-history c =
    let q = c.enter_change.new.parts in
    can_note c.args.kind q.history c.args.change (entered_top c.args.kind c.args.change c.args.parts.now q c.in_ok-steps.ensures.ok.stays c.requires.top)

pub finish_change-requires-clause-table : goal.finish_change-requires-clause-table
finish_change-requires-clause-table c = c.in_ok-steps.ensures.ok.prepared.last

pub finish_change-requires-clause-tasks : goal.finish_change-requires-clause-tasks
finish_change-requires-clause-tasks c =
    let r = c.in_ok-steps.ensures.ok.prepared in
    let w = arc_value c.in_ok-steps.ready.plan.view in
    ap length r.gathered.tasks.flags_are ∙ length-map c.enter_change.new.parts.tasks.items (λ (t : Pending). not (hopeless w (own_of c.args.parts.now.log t.own)))

pub finish_change-requires-clause-room : goal.finish_change-requires-clause-room
finish_change-requires-clause-room c = c.in_ok-steps.ensures.ok.prepared.room_tasks

pub finish_change-requires-clause-steps : goal.finish_change-requires-clause-steps
finish_change-requires-clause-steps c = c.in_ok-steps.ensures.ok.prepared.room_steps

pub finish_change-requires-clause-endings : goal.finish_change-requires-clause-endings
finish_change-requires-clause-endings c = c.in_ok-steps.ensures.ok.prepared.room_endings

pub finish_change-requires-clause-next : goal.finish_change-requires-clause-next
finish_change-requires-clause-next c = c.in_ok-steps.ensures.ok.prepared.gathered.tasks.few

abbrev kept_of : (c : After-finish_change) → Kept
kept_of c = record { made = length c.enter_change.new.parts.steps.items + 1; shelf = c.in_ok-steps.ready.shelf }

did : (c : After-finish_change) →
    Did c.enter_change.new.parts.opened c.enter_change.new.parts.design c.finish_change.new.parts.design c.enter_change.new.parts.scene (arc_value c.in_ok-steps.ready.plan.view) c.finish_change.new.parts.table c.args.parts.now.listed c.enter_change.new.parts.listed c.args.parts.now.log c.enter_change.new.parts.log c.enter_change.new.parts.tasks.items c.finish_change.new.parts.tasks.items c.in_ok-steps.ready.tasks.fresh.items c.in_ok-steps.ready.tasks.flags.items c.enter_change.new.parts.next c.finish_change.new.parts.next c.enter_change.new.parts.history c.finish_change.new.parts.history c.enter_change.new.parts.steps.items c.finish_change.new.parts.steps.items c.enter_change.new.parts.endings.items c.finish_change.new.parts.endings.items c.args.kind c.args.change (kept_of c)
did c =
    let p = c.args.parts.now in
    let q = c.enter_change.new.parts in
    let k = c.args.kind in
    let x = c.args.change in
    let f = c.finish_change.ensures in
    let e = c.in_ok-steps.ensures.ok in
    let r = e.prepared in
    let g = r.gathered in
    let t = g.tasks in
    let w = arc_value c.in_ok-steps.ready.plan.view in
    let st = stood_by p.log k q.history in
    record {
      design_is = f.design ∙ r.after_is;
      right = subst (λ z. IsRight z (changed q.design x)) (sym f.table) r.right;
      names = r.leads.names;
      table_is = f.table;
      log_is = e.log_is ∙ ap (λ y. p.log ++ y ∷ []) g.guards_are;
      listed_is = subst (λ L. AreSame q.listed (filter (λ T. is_tiling w T) p.listed ++ L)) g.returned_are e.listed_is;
      flags_are = t.flags_are;
      tasks_are = f.tasks;
      fresh_are = subst (λ y. Opens (p.log ++ y ∷ []) q.next w (openings st (stairs y)) c.in_ok-steps.ready.tasks.fresh.items) g.guards_are t.fresh_are;
      next_is = f.next;
      few_tasks = let few = t.few in omega (arith, few, f.next);
      steps_are = f.steps ∙ ap (λ z. q.steps.items ++ z ∷ []) (c.in_ok-steps.ensures.noted ∙ ap (λ (ps : List Pending). record { kind = k; change = x; pending = length ps; shelved = shelved_by p.log k p.history }) (sym e.tasks) ∙ ap (λ (z : Parts). record { kind = k; change = x; pending = length q.tasks.items; shelved = shelved_by p.log k z.history }) (sym e.stays));
      few_steps = let few = r.few_steps in omega (arith, few);
      ended_are = f.endings ∙ ap (λ es. q.endings.items ++ es) t.ended_are;
      few_ways = e.keeps.few_ways;
      noted = f.history;
      kept_made = refl;
      held = e.keeps.held;
      kept_held = g.shelf_held;
      kept_shelf = g.shelf_is;
    }

-- the book's view after the change is that of the plan
scene_of : (c : After-finish_change) → c.finish_change.new.parts.scene ≡ arc_value c.in_ok-steps.ready.plan.view
scene_of c = c.finish_change.ensures.scene ∙ c.in_ok-steps.ensures.ok.prepared.view_is

pub forget-requires : goal.forget-requires
forget-requires c =
    let f = c.finish_change.new.parts in
    let s = c.finish_change.ensures.stays in
    let e = c.in_ok-steps.ensures.ok in
    let l = e.prepared.leads in
    let k = did_keeps c.args.kind e.keeps (did (goal.at.forget-requires c).After-finish_change) l.before l.design (entered_top c.args.kind c.args.change c.args.parts.now c.enter_change.new.parts e.stays c.requires.top) in
    let register = ap (λ (p : Parts). p.register) s in
    let opened = ap (λ (p : Parts). p.opened) s in
    let listed = ap (λ (p : Parts). p.listed) s in
    let log = ap (λ (p : Parts). p.log) s in
    transport (λ i. KeepsOf (sym register i) (sym opened i) f.design (sym (scene_of (goal.at.forget-requires c).After-finish_change) i) f.table (sym listed i) (sym log i) f.tasks.items f.next f.history f.steps.items f.endings.items) k

pub returns-clause-narrow : goal.returns-clause-narrow
returns-clause-narrow c = λ edit.
    let p = c.args.parts.now in
    let x = c.args.change in
    let design : c.forget.new.parts.design ≡ changed p.design x = ap (λ (z : Parts). z.design) c.forget.ensures.stays ∙ (did (goal.at.returns-clause-narrow c).After-finish_change).design_is ∙ ap (λ (z : Parts). changed z.design x) c.in_ok-steps.ensures.ok.stays in
    subst (λ d. IsNarrow p.design d) (sym design) (c.in_ok-steps.ensures.narrow edit)

pub returns-clause-ok : goal.returns-clause-ok
returns-clause-ok c =
    let p = c.args.parts.now in
    let q = c.enter_change.new.parts in
    let a : Parts = record q { listed = p.listed; log = p.log } in
    let f = c.finish_change.new.parts in
    let s = c.finish_change.ensures.stays in
    let e = c.in_ok-steps.ensures.ok in
    let k = c.args.kind in
    let x = c.args.change in
    let w = arc_value c.in_ok-steps.ready.plan.view in
    let b = did_becomes k (did (goal.at.returns-clause-ok c).After-finish_change) e.keeps.tasks e.keeps.log_length (entered_top k x p q e.stays c.requires.top) in
    let opened = ap (λ (z : Parts). z.opened) s in
    let listed = ap (λ (z : Parts). z.listed) s in
    let log = ap (λ (z : Parts). z.log) s in
    let told : c.in_ok-steps.steps.noted ≡ c.in_ok-steps.steps.told = sym c.in_ok-steps.ensures.told in
    let count : length f.steps.items ≡ c.len-place.result = search rules in
    let start : state_of a ≡ state_of p = entered_shown p q e.stays e.tasks e.steps e.endings in
    let done : IsDone k x (state_of a) (state_of f) (record { place = length f.steps.items; step = c.in_ok-steps.steps.noted }) =
    record {
      view = w;
      leads = e.prepared.leads;
      becomes = transport (λ i. Becomes (step (state_of a) (event_of k x w)) (shown (sym opened i) f.design (sym (scene_of (goal.at.returns-clause-ok c).After-finish_change) i) (sym listed i) (sym log i) f.tasks.items f.next f.history f.steps.items f.endings.items)) b;
      place = sym (length-reverse f.steps.items);
      last = ap reverse c.finish_change.ensures.steps ∙ reverse_push q.steps.items c.in_ok-steps.steps.noted;
    } in
    let end = sym c.forget.ensures.state in
    transport (λ i. IsDone k x (start i) (end i) (record { place = count i; step = told i })) done
