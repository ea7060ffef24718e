-- What the code does to the fields for a change is what the event of the change's kind does to the state that they show.
use Rattle.std.proofs.Common.{Bool, List, Option, Some, [], ap, arith, length, map, refl, reverse, subst, sym, take, ℕ, ◌++◌, ◌+◌, ◌-◌, ◌<◌, ◌∙◌, ◌∷◌, ◌≡◌, ◌≤◌}
use Rattle.std.proofs.lemmas.List.{length-drop, length_push, length-reverse}
use Rattle.std.proofs.lemmas.Option.{slice_get_within}
use Rattle.poly_design.specs.Changes.{HasBefore, changed, inverse_of}
use Rattle.poly_design.specs.Layout.{Layout}
use Rattle.poly_design.specs.Limits.{IsDesign}
use Rattle.poly_design.specs.declared.change.Change.{Change}
use Rattle.poly_tiling.specs.Puzzle.{View}
use Rattle.poly_tiling.specs.Names.{Grown}
use Rattle.poly_tiling.proofs.Grown.{grown_self}
use Rattle.poly_atom.specs.declared.atom.Atom.{Atom}
use Rattle.poly_atom.specs.Guards.{guards}
use Rattle.poly_place.specs.Right.{IsRight}
use Rattle.poly_undo.specs.declared.step.Step.{Step as Beside}
use Rattle.poly_undo.specs.Steps.{Moves, Steps, next_of, newest as newest_undo}
use Rattle.poly_undo.proofs.Turns.{next_of_ends, step_from_next}
use Rattle.poly_tasks.specs.declared.register.Register.{Register}
use Rattle.poly_tasks.specs.declared.shelf.Kept.{Kept}
use Rattle.poly_book.specs.declared.step.Ending.{Ending}
use Rattle.poly_book.specs.declared.step.Kind.{Kind}
use Rattle.poly_book.specs.declared.step.Kind.TheVariants as kind
use Rattle.poly_book.specs.declared.step.Step.{Step}
use Rattle.poly_tasks.specs.declared.task.Pending.{Pending}
use Rattle.poly_book.specs.Events.{Goes, Leads, LeadsBy, moved, redone, step, undone}
use Rattle.poly_book.specs.Keeps.{KeepsOf}
use Rattle.poly_book.specs.Shown.{shown}
use Rattle.poly_tasks.specs.Meaning.{AreHeld, AreTasks, way_by, way_of, ways_of}
use Rattle.poly_book.specs.Partition.{Becomes}
use Rattle.poly_book.specs.Ways.{newest, way_back}
use Rattle.poly_tasks.specs.Shelves.{is_kept}
use Rattle.poly_book.specs.States.{State}
use Rattle.poly_tasks.specs.Stored.{Way}
use Rattle.poly_book.specs.Changing.{CanNote, IsTop, Noted, event_of, shelf_at, stood_by}
use Rattle.poly_book.proofs.Alive.{becomes_lives}
use Rattle.poly_book.proofs.Changes.{Did, all_numbered, changed_by_way, kept_way, moved_shown, new_tasks, newest_all, ways_newest, ways_push}
use Rattle.poly_book.proofs.Holding.{held_after}
use Rattle.poly_tasks.proofs.Holding.{are_held_push, held_left, is_held_push, ways_stay}
use Rattle.poly_book.proofs.Noted.{did_noted}
use Rattle.poly_book.proofs.Proved.{steps_keep_whole_lem}

some_next : {X : Type 0} (xs : List X) (x : X) → next_of xs ≡ Some x → 0 < length xs
some_next xs x e = let l = slice_get_within xs (length xs - 1) x e in omega (arith, l)

pub can_note : (k : Kind) (h : Steps Change Kept) (x : Change) → IsTop k h x → CanNote k h
can_note kind.Edit h x t = tt
can_note kind.Undo h x t = some_next h.undo t.0 t.1
can_note kind.Redo h x t = some_next h.redo t.0 t.1

-- The ways of `from` are the way of `top` followed by the ways of `left`. The ways of `made` are a new way of the same change
-- followed by the ways of `to`.
record Moved (log : List (List Atom)) (from to left made : List (Beside Change Kept)) (top : Beside Change Kept) (kept : Kept) : Type 0 where
  was : ways_of log from ≡ way_of log top ∷ ways_of log left
  now : ways_of log made ≡ way_by log top.change (Some kept) ∷ ways_of log to

moves_ways : (log : List (List Atom)) (from to left made : List (Beside Change Kept)) (kept : Kept) (stood : Option Kept) (top : Beside Change Kept) → Moves from to left made (Some kept) stood → next_of from ≡ Some top → Moved log from to left made top kept
moves_ways log from to left made kept stood top m e =
    let is : m.step ≡ top = step_from_next from to left made (Some kept) stood top m e in
    record {
      was = ap (λ xs. ways_of log xs) m.taken ∙ ways_push log left m.step ∙ ap (λ s. way_of log s ∷ ways_of log left) is;
      now = ap (λ xs. ways_of log xs) m.put ∙ ways_push log to _ ∙ ap (λ s. way_by log s.change (Some kept) ∷ ways_of log to) is;
    }

length-ways : (log : List (List Atom)) (xs : List (Beside Change Kept)) → length (ways_of log xs) ≡ length xs
length-ways log xs = mapped_length (reverse xs) ∙ length-reverse xs
  where
    mapped_length : (ss : List (Beside Change Kept)) → length (map (λ s. way_of log s) ss) ≡ length ss
    mapped_length [] = refl
    mapped_length (s ∷ ss) = omega (arith, mapped_length ss)

pub did_becomes : {o d d2 : Layout} {v w t2 : View} {ls ls2 : List (List ℕ)} {log log2 : List (List Atom)} {ps ps2 fresh : List Pending} {flags : List Bool} {n n2 : ℕ} {h h2 : Steps Change Kept} {ss ss2 : List Step} {es es2 : List Ending} {x : Change} {kept : Kept} (k : Kind) →
    Did o d d2 v w t2 ls ls2 log log2 ps ps2 fresh flags n n2 h h2 ss ss2 es es2 k x kept → AreTasks log ps → length log ≡ length ss → IsTop k h x →
    Becomes (step (shown o d v ls log ps n h ss es) (event_of k x w)) (shown o d2 w ls2 log2 ps2 n2 h2 ss2 es2)
did_becomes {o} {d} {d2} {v} {w} {t2} {ls} {ls2} {log} {log2} {ps} {ps2} {fresh} {flags} {n} {n2} {h} {h2} {ss} {ss2} {es} {es2} {x} {kept} kind.Edit c a l t =
    let s = shown o d v ls log ps n h ss es in
    let added : Beside Change Kept = record { change = x; kept = Some kept } in
    let old : ways_of log2 h.undo ≡ ways_of log h.undo = ways_stay log log2 (guards v w) h.undo c.log_is c.held.0 in
    let first : ways_of log2 (h.undo ++ added ∷ []) ≡ way_back s x w ∷ ways_of log h.undo =
    ways_push log2 h.undo added ∙ ap (λ b. b ∷ ways_of log2 h.undo) (kept_way c l x) ∙ ap (λ bs. way_back s x w ∷ bs) old in
    let back : ways_of log2 h2.undo ≡ newest 256 (way_back s x w ∷ ways_of log h.undo) =
    ap (λ xs. ways_of log2 xs) c.noted.0 ∙ ways_newest log2 (h.undo ++ added ∷ []) ∙ ap (λ ws. newest 256 ws) first in
    let forth : ways_of log2 h2.redo ≡ [] = ap (λ xs. ways_of log2 xs) c.noted.1 in
    moved_shown c a l (newest 256 (way_back s x w ∷ ways_of log h.undo)) [] back forth
did_becomes {o} {d} {d2} {v} {w} {t2} {ls} {ls2} {log} {log2} {ps} {ps2} {fresh} {flags} {n} {n2} {h} {h2} {ss} {ss2} {es} {es2} {x} {kept} kind.Undo c a l t =
    let s = shown o d v ls log ps n h ss es in
    let top = t.0 in
    let b = way_of log top in
    let m = moves_ways log h.undo h.redo h2.undo h2.redo kept c.noted.0 top c.noted.1 t.1 in
    let m2 = moves_ways log2 h.undo h.redo h2.undo h2.redo kept c.noted.0 top c.noted.1 t.1 in
    let y : b.change ≡ top.change = changed_by_way log top.change top.kept in
    let left : ways_of log2 h2.undo ≡ ways_of log h2.undo = ways_stay log log2 (guards v w) h2.undo c.log_is (held_left log h.undo h.redo h2.undo h2.redo (Some kept) c.noted.0 c.noted.1 c.held.0) in
    let old : ways_of log2 h.redo ≡ ways_of log h.redo = ways_stay log log2 (guards v w) h.redo c.log_is c.held.1 in
    let forth : ways_of log2 h2.redo ≡ way_back s top.change w ∷ ways_of log h.redo = m2.now ∙ ap (λ z. z ∷ ways_of log2 h.redo) (kept_way c l top.change) ∙ ap (λ bs. way_back s top.change w ∷ bs) old in
    let e1 : x ≡ inverse_of b.change = t.2 ∙ ap inverse_of (sym y) in
    let e2 : stood_by log kind.Undo h ≡ b.shelf = ap (λ z. shelf_at log z) t.1 in
    let same : moved s kind.Undo x w (stood_by log kind.Undo h) (is_kept (stood_by log kind.Undo h)) (ways_of log h2.undo) (way_back s top.change w ∷ ways_of log h.redo) ≡ undone s w (b ∷ ways_of log h2.undo) =
    λ i. moved s kind.Undo (e1 i) w (e2 i) (is_kept (e2 i)) (ways_of log h2.undo) (way_back s (sym y i) w ∷ ways_of log h.redo) in
    let is = same ∙ ap (λ ws. undone s w ws) (sym m.was) in
    subst (λ z. Becomes z (shown o d2 w ls2 log2 ps2 n2 h2 ss2 es2)) is (moved_shown c a l (ways_of log h2.undo) (way_back s top.change w ∷ ways_of log h.redo) left forth)
did_becomes {o} {d} {d2} {v} {w} {t2} {ls} {ls2} {log} {log2} {ps} {ps2} {fresh} {flags} {n} {n2} {h} {h2} {ss} {ss2} {es} {es2} {x} {kept} kind.Redo c a l t =
    let s = shown o d v ls log ps n h ss es in
    let top = t.0 in
    let b = way_of log top in
    let m = moves_ways log h.redo h.undo h2.redo h2.undo kept c.noted.0 top c.noted.1 t.1 in
    let m2 = moves_ways log2 h.redo h.undo h2.redo h2.undo kept c.noted.0 top c.noted.1 t.1 in
    let y : b.change ≡ top.change = changed_by_way log top.change top.kept in
    let left : ways_of log2 h2.redo ≡ ways_of log h2.redo = ways_stay log log2 (guards v w) h2.redo c.log_is (held_left log h.redo h.undo h2.redo h2.undo (Some kept) c.noted.0 c.noted.1 c.held.1) in
    let old : ways_of log2 h.undo ≡ ways_of log h.undo = ways_stay log log2 (guards v w) h.undo c.log_is c.held.0 in
    let e1 : x ≡ b.change = t.2 ∙ sym y in
    let e2 : stood_by log kind.Redo h ≡ b.shelf = ap (λ z. shelf_at log z) t.1 in
    let first : ways_of log2 h2.undo ≡ way_back s b.change w ∷ ways_of log h.undo =
    m2.now ∙ ap (λ z. z ∷ ways_of log2 h.undo) (kept_way c l top.change ∙ ap (λ z. way_back s z w) (sym y)) ∙ ap (λ bs. way_back s b.change w ∷ bs) old in
    let some = some_next h.redo top t.1 in
    let few : length (way_back s b.change w ∷ ways_of log h.undo) ≤ 256 = omega (arith, length-ways log h.undo, some, c.few_ways) in
    let back : ways_of log2 h2.undo ≡ newest 256 (way_back s b.change w ∷ ways_of log h.undo) = first ∙ sym (newest_all 256 (way_back s b.change w ∷ ways_of log h.undo) few) in
    let same : moved s kind.Redo x w (stood_by log kind.Redo h) (is_kept (stood_by log kind.Redo h)) (newest 256 (way_back s b.change w ∷ ways_of log h.undo)) (ways_of log h2.redo) ≡ redone s w (b ∷ ways_of log h2.redo) =
    λ i. moved s kind.Redo (e1 i) w (e2 i) (is_kept (e2 i)) (newest 256 (way_back s b.change w ∷ ways_of log h.undo)) (ways_of log h2.redo) in
    let is = same ∙ ap (λ ws. redone s w ws) (sym m.was) in
    subst (λ z. Becomes z (shown o d2 w ls2 log2 ps2 n2 h2 ss2 es2)) is (moved_shown c a l (newest 256 (way_back s b.change w ∷ ways_of log h.undo)) (ways_of log h2.redo) back left)

few_newest : (xs : List (Beside Change Kept)) → length (newest_undo xs) ≤ 256
few_newest xs = let l : length (newest_undo xs) ≡ length xs - (length xs - 256) = length-drop (length xs - 256) xs in omega (arith, l)

-- if the history has at most 256 steps, it still does after a change is noted
few_noted : (k : Kind) (h h2 : Steps Change Kept) (x : Change) (kept : Kept) → length h.undo + length h.redo ≤ 256 → Noted k h h2 x kept → length h2.undo + length h2.redo ≤ 256
few_noted kind.Edit h h2 x kept few n = let added : Beside Change Kept = record { change = x; kept = Some kept } in omega (arith, ap length n.0, ap length n.1, few_newest (h.undo ++ added ∷ []))
few_noted kind.Undo h h2 x kept few n = let m = n.1 in let put : Beside Change Kept = record m.step { kept = Some kept } in omega (arith, few, ap length m.taken, length_push h2.undo m.step, ap length m.put, length_push h.redo put)
few_noted kind.Redo h h2 x kept few n = let m = n.1 in let put : Beside Change Kept = record m.step { kept = Some kept } in omega (arith, few, ap length m.taken, length_push h2.redo m.step, ap length m.put, length_push h.undo put)

-- the way of the step that comes next is the first of the ways
pub top_way : (log : List (List Atom)) (ss : List (Beside Change Kept)) (top : Beside Change Kept) → next_of ss ≡ Some top → (left : List Way) × (ways_of log ss ≡ way_of log top ∷ left)
top_way log ss top e = (ways_of log (take (length ss - 1) ss), ap (λ xs. ways_of log xs) (next_of_ends ss top e) ∙ ways_push log (take (length ss - 1) ss) top)

pub leads_top : (log : List (List Atom)) (k : Kind) (s : State) (h : Steps Change Kept) (x : Change) (w : View) → s.back ≡ ways_of log h.undo → s.forth ≡ ways_of log h.redo → IsTop k h x → Leads s x w → Goes s (event_of k x w)
leads_top log kind.Edit s h x w eb ef t g = g
leads_top log kind.Undo s h x w eb ef t g =
    let left = take (length h.undo - 1) h.undo in
    let was : ways_of log h.undo ≡ way_of log t.0 ∷ ways_of log left = ap (λ xs. ways_of log xs) (next_of_ends h.undo t.0 t.1) ∙ ways_push log left t.0 in
    let e1 : x ≡ inverse_of (way_of log t.0).change = t.2 ∙ ap inverse_of (sym (changed_by_way log t.0.change t.0.kept)) in
    let g2 : LeadsBy s inverse_of (way_of log t.0 ∷ ways_of log left) w = subst (λ z. Leads s z w) e1 g in
    subst (λ ws. LeadsBy s inverse_of ws w) (sym (eb ∙ was)) g2
leads_top log kind.Redo s h x w eb ef t g =
    let left = take (length h.redo - 1) h.redo in
    let was : ways_of log h.redo ≡ way_of log t.0 ∷ ways_of log left = ap (λ xs. ways_of log xs) (next_of_ends h.redo t.0 t.1) ∙ ways_push log left t.0 in
    let e1 : x ≡ (way_of log t.0).change = t.2 ∙ sym (changed_by_way log t.0.change t.0.kept) in
    let g2 : LeadsBy s (λ y. y) (way_of log t.0 ∷ ways_of log left) w = subst (λ z. Leads s z w) e1 g in
    subst (λ ws. LeadsBy s (λ y. y) ws w) (sym (ef ∙ was)) g2

-- the change that was made leads to its view
pub did_leads : {o d d2 : Layout} {v w t2 : View} {ls ls2 : List (List ℕ)} {log log2 : List (List Atom)} {ps ps2 fresh : List Pending} {flags : List Bool} {n n2 : ℕ} {h h2 : Steps Change Kept} {ss ss2 : List Step} {es es2 : List Ending} {x : Change} {kept : Kept} (k : Kind) →
    Did o d d2 v w t2 ls ls2 log log2 ps ps2 fresh flags n n2 h h2 ss ss2 es es2 k x kept → HasBefore d x → IsDesign (changed d x) → Leads (shown o d v ls log ps n h ss es) x w
did_leads {d = d} {w = w} {t2 = t2} {x = x} k c has is =
    let r = subst (λ t. IsRight t (changed d x)) c.table_is c.right in
    record { before = has; design = is; well = r.well; shows = r.shows; names = c.names }

pub did_keeps : {m : Register} {o d d2 : Layout} {v t w t2 : View} {ls ls2 : List (List ℕ)} {log log2 : List (List Atom)} {ps ps2 fresh : List Pending} {flags : List Bool} {n n2 : ℕ} {h h2 : Steps Change Kept} {ss ss2 : List Step} {es es2 : List Ending} {x : Change} {kept : Kept} (k : Kind) →
    KeepsOf m o d v t ls log ps n h ss es → Did o d d2 v w t2 ls ls2 log log2 ps ps2 fresh flags n n2 h h2 ss ss2 es es2 k x kept → HasBefore d x → IsDesign (changed d x) → IsTop k h x →
    KeepsOf m o d2 w t2 ls2 log2 ps2 n2 h2 ss2 es2
did_keeps {m} {o} {d} {d2} {v} {t} {w} {t2} {ls} {ls2} {log} {log2} {ps} {ps2} {fresh} {flags} {n} {n2} {h} {h2} {ss} {ss2} {es} {es2} {x} {kept} k p c has is top =
    let s = shown o d v ls log ps n h ss es in
    let g = leads_top log k s h x w refl refl top (did_leads k c has is) in
    let b = did_becomes k c p.tasks p.log_length top in
    let lives = becomes_lives s (shown o d2 w ls2 log2 ps2 n2 h2 ss2 es2) (event_of k x w) b (p.alive, p.sparing) in
    record {
      whole = steps_keep_whole_lem s (shown o d2 w ls2 log2 ps2 n2 h2 ss2 es2) (event_of k x w) p.whole g b;
      right = subst (λ z. IsRight t2 z) (sym c.design_is) c.right;
      grown = subst (λ z. Grown w z) (sym c.table_is) (grown_self w);
      tasks = new_tasks c p.tasks;
      mapped = did_noted m.below m.maps c p.tasks p.below p.mapped;
      below = (let low = p.below in omega (arith, low, c.next_is));
      alive = lives.0;
      sparing = lives.1;
      log_length = ap length c.log_is ∙ length_push log (guards v w) ∙ ap (λ m. m + 1) p.log_length ∙ sym (ap length c.steps_are ∙ length_push ss _);
      few_steps = omega (arith, c.few_steps, ap length c.steps_are ∙ length_push ss _);
      few_tasks = c.few_tasks;
      numbered = all_numbered c p.numbered;
      held = subst (λ L. AreHeld L h2) (sym c.log_is) (held_after (log ++ guards v w ∷ []) k h h2 x kept (are_held_push log (guards v w) h.undo c.held.0, are_held_push log (guards v w) h.redo c.held.1) (is_held_push log (guards v w) kept.shelf c.kept_held) c.noted);
      few_ways = few_noted k h h2 x kept c.few_ways c.noted;
    }

-- what holds of the fields still holds after the table has given out numbers or has taken back some that the view lacks, if it
-- is still right for the design and nothing else has changed
pub still_keeps : {m : Register} {o d : Layout} {v t t2 : View} {ls : List (List ℕ)} {log : List (List Atom)} {ps : List Pending} {n : ℕ} {h : Steps Change Kept} {ss : List Step} {es : List Ending} →
    KeepsOf m o d v t ls log ps n h ss es → Grown v t2 → IsRight t2 d → KeepsOf m o d v t2 ls log ps n h ss es
still_keeps p g r = record { whole = p.whole; right = r; grown = g; tasks = p.tasks; alive = p.alive; sparing = p.sparing; mapped = p.mapped; below = p.below; log_length = p.log_length; few_steps = p.few_steps; few_tasks = p.few_tasks; numbered = p.numbered; held = p.held; few_ways = p.few_ways }
