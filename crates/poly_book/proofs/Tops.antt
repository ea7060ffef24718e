-- The changes that can be undone or redone, and how a book begins.
use Rattle.std.proofs.Common.{List, Some, [], ap, arith, inr, length, not, refl, subst, sym, take, true, ℕ, ◌&&◌, ◌++◌, ◌-◌, ◌||◌, ◌∙◌, ◌∷◌, ◌≡◌}
use Rattle.std.specs.List.{list_all}
use Rattle.std.specs.Prelude.{nat_le}
use Rattle.poly_grid.specs.declared.refusal.Refusal.{Refusal}
use Rattle.poly_design.specs.Changes.{HasBefore, changed, inverse_of}
use Rattle.poly_design.specs.Layout.{Layout}
use Rattle.poly_design.specs.Limits.{IsDesign}
use Rattle.poly_design.specs.declared.change.Change.{Change}
use Rattle.poly_tiling.specs.Puzzle.{View}
use Rattle.poly_tiling.specs.Names.{Grown}
use Rattle.poly_tiling.proofs.Grown.{grown_self}
use Rattle.poly_atom.specs.declared.atom.Atom.{Atom}
use Rattle.poly_atom.specs.Hopeless.{hopeless}
use Rattle.poly_place.specs.Right.{IsRight}
use Rattle.poly_undo.specs.declared.step.Step.{Step as Beside}
use Rattle.poly_undo.specs.Steps.{Steps, next_of}
use Rattle.poly_undo.proofs.Turns.{next_of_ends}
use Rattle.poly_tasks.specs.declared.register.Register.{Register}
use Rattle.poly_tasks.specs.declared.shelf.Kept.{Kept}
use Rattle.poly_book.specs.declared.step.Ending.{Ending}
use Rattle.poly_book.specs.declared.step.Done.{Done}
use Rattle.poly_book.specs.declared.step.Kind.TheVariants as kind
use Rattle.poly_book.specs.declared.step.Step.{Step}
use Rattle.poly_book.specs.Steps.{IsDone, IsRedone, IsUndone}
use Rattle.poly_tasks.specs.declared.task.Own.{Own}
use Rattle.poly_tasks.specs.declared.task.Pending.{Pending}
use Rattle.poly_book.specs.Keeps.{KeepsOf}
use Rattle.poly_tasks.specs.Mapped.{under}
use Rattle.poly_book.specs.Shown.{shown}
use Rattle.poly_tasks.specs.Meaning.{IsOwn, own_of, way_of, ways_of}
use Rattle.poly_book.specs.Refused.{IsNotMade, IsNotRedone, IsNotUndone}
use Rattle.poly_book.specs.States.{State, opening}
use Rattle.poly_tasks.specs.Stored.{Way}
use Rattle.poly_tasks.specs.Tasks.{Spares, Task}
use Rattle.poly_book.specs.Trails.{Follows, Led}
use Rattle.poly_book.specs.Whole.{Whole}
use Rattle.poly_book.proofs.Changes.{changed_by_way, ways_push}
use Rattle.poly_book.proofs.Proved.{openings_are_whole_lem}

pub top_way : (log : List (List Atom)) (xs : List (Beside Change Kept)) (top : Beside Change Kept) → next_of xs ≡ Some top → ways_of log xs ≡ way_of log top ∷ ways_of log (take (length xs - 1) xs)
top_way log xs top e = ap (λ ys. ways_of log ys) (next_of_ends xs top e) ∙ ways_push log (take (length xs - 1) xs) top

no_cons : {X : Type 0} (y : X) (ys : List X) → [] ≡ y ∷ ys → ⊥
no_cons y ys e = cc

heads_same : {X : Type 0} (x y : X) (xs ys : List X) → x ∷ xs ≡ y ∷ ys → x ≡ y
heads_same x y xs ys e = cc

-- the change of the first way can be made
first_stands : (f : Change → Change) (d : Layout) (us : List Led) (ws bs : List Way) (b : Way) → Follows f d us ws → ws ≡ b ∷ bs → HasBefore d (f b.change) × IsDesign (changed d (f b.change))
first_stands f d us [] bs b l e = absurd (no_cons b bs e)
first_stands f d [] (c ∷ cs) bs b l e = absurd l
first_stands f d (u ∷ us) (c ∷ cs) bs b l e = let is : c ≡ b = heads_same c b cs bs e in subst (λ z. HasBefore d (f z.change) × IsDesign (changed d (f z.change))) is (l.0.before, l.0.design)

pub can_undo : {m : Register} {o d : Layout} {v t : View} {ls : List (List ℕ)} {log : List (List Atom)} {ps : List Pending} {n : ℕ} {h : Steps Change Kept} {ss : List Step} {es : List Ending} → KeepsOf m o d v t ls log ps n h ss es →
    (top : Beside Change Kept) → next_of h.undo ≡ Some top → HasBefore d (inverse_of top.change) × IsDesign (changed d (inverse_of top.change))
can_undo {d = d} {log = log} {h = h} p top e =
    subst (λ x. HasBefore d (inverse_of x) × IsDesign (changed d (inverse_of x))) (changed_by_way log top.change top.kept)
    (first_stands inverse_of d p.whole.trail.back (ways_of log h.undo) (ways_of log (take (length h.undo - 1) h.undo)) (way_of log top) p.whole.consistent.back_follows (top_way log h.undo top e))

pub can_redo : {m : Register} {o d : Layout} {v t : View} {ls : List (List ℕ)} {log : List (List Atom)} {ps : List Pending} {n : ℕ} {h : Steps Change Kept} {ss : List Step} {es : List Ending} → KeepsOf m o d v t ls log ps n h ss es →
    (top : Beside Change Kept) → next_of h.redo ≡ Some top → HasBefore d top.change × IsDesign (changed d top.change)
can_redo {d = d} {log = log} {h = h} p top e =
    subst (λ x. HasBefore d x × IsDesign (changed d x)) (changed_by_way log top.change top.kept)
    (first_stands (λ x. x) d p.whole.trail.forth (ways_of log h.redo) (ways_of log (take (length h.redo - 1) h.redo)) (way_of log top) p.whole.consistent.forth_follows (top_way log h.redo top e))

pub begin_keeps : (m : Register) → m.below ≡ 0 → (d : Layout) (v t : View) (own : Own) → own_of [] own ≡ [] → IsOwn [] own → IsDesign d → IsRight t d → v ≡ t →
    KeepsOf m d d v t [] [] ((record { number = 1; own = own; made = 0 }) ∷ []) 2 (record { undo = []; redo = [] }) [] []
begin_keeps m start d v t own none stands is r e =
    let rv = subst (λ z. IsRight z d) (sym e) r in
    let whole : Whole (opening d v) = openings_are_whole_lem d v is rv.well rv.shows in
    record {
      whole = subst (λ A. Whole (record (opening d v) { pending = (let t : Task = record { number = 1; own = A; laid = [] } in t) ∷ [] })) (sym none) whole;
      right = r;
      grown = subst (λ z. Grown v z) e (grown_self v);
      tasks = (record { own = stands; made = omega arith }, tt);
      alive = ap (λ A. not (hopeless v A) && true) none;
      sparing = (subst (λ A. Spares A (A ++ [])) (sym none) (λ p e. refl), tt);
      mapped = ap (λ A. (nat_le m.below 1 || list_all (λ a. under m.maps a 1) A) && true) none ∙ ap (λ b. (nat_le b 1 || true) && true) start;
      below = omega (arith, start);
      log_length = refl;
      few_steps = omega arith;
      few_tasks = omega arith;
      numbered = omega arith;
      held = (tt, tt);
      few_ways = omega arith;
    }

pub begin_shows : (d : Layout) (v : View) (own : Own) → own_of [] own ≡ [] → shown d d v [] [] ((record { number = 1; own = own; made = 0 }) ∷ []) 2 (record { undo = []; redo = [] }) [] [] ≡ opening d v
begin_shows d v own none = ap (λ A. let s : State = record (opening d v) { pending = (let t : Task = record { number = 1; own = A; laid = [] } in t) ∷ [] } in s) none

pub undone_from : {s t : State} (log : List (List Atom)) (h : Steps Change Kept) (top : Beside Change Kept) (x : Change) (done : Done) → s.back ≡ ways_of log h.undo → next_of h.undo ≡ Some top → x ≡ inverse_of top.change → IsDone kind.Undo x s t done → IsUndone s t done
undone_from {s} {t} log h top x done b e is made = record {
  way = way_of log top;
  rest = ways_of log (take (length h.undo - 1) h.undo);
  top = b ∙ top_way log h.undo top e;
  made = subst (λ y. IsDone kind.Undo y s t done) (is ∙ ap inverse_of (sym (changed_by_way log top.change top.kept))) made;
}

pub redone_from : {s t : State} (log : List (List Atom)) (h : Steps Change Kept) (top : Beside Change Kept) (x : Change) (done : Done) → s.forth ≡ ways_of log h.redo → next_of h.redo ≡ Some top → x ≡ top.change → IsDone kind.Redo x s t done → IsRedone s t done
redone_from {s} {t} log h top x done b e is made = record {
  way = way_of log top;
  rest = ways_of log (take (length h.redo - 1) h.redo);
  top = b ∙ top_way log h.redo top e;
  made = subst (λ y. IsDone kind.Redo y s t done) (is ∙ sym (changed_by_way log top.change top.kept)) made;
}

-- if the inverse of the newest change to undo isn't made, nothing is undone
pub not_undone_from : {s : State} (log : List (List Atom)) (h : Steps Change Kept) (top : Beside Change Kept) (x : Change) (r : Refusal) → s.back ≡ ways_of log h.undo → next_of h.undo ≡ Some top → x ≡ inverse_of top.change → IsNotMade kind.Undo x s r → IsNotUndone s r
not_undone_from {s} log h top x r b e is made =
    inr (way_of log top, ways_of log (take (length h.undo - 1) h.undo), b ∙ top_way log h.undo top e, subst (λ y. IsNotMade kind.Undo y s r) (is ∙ ap inverse_of (sym (changed_by_way log top.change top.kept))) made)

pub not_redone_from : {s : State} (log : List (List Atom)) (h : Steps Change Kept) (top : Beside Change Kept) (x : Change) (r : Refusal) → s.forth ≡ ways_of log h.redo → next_of h.redo ≡ Some top → x ≡ top.change → IsNotMade kind.Redo x s r → IsNotRedone s r
not_redone_from {s} log h top x r b e is made =
    inr (way_of log top, ways_of log (take (length h.redo - 1) h.redo), b ∙ top_way log h.redo top e, subst (λ y. IsNotMade kind.Redo y s r) (is ∙ sym (changed_by_way log top.change top.kept)) made)
