-- What each event of a book does to its steps and endings.
use Rattle.std.proofs.Common.{Bool, List, None, Option, [], ap, arith, cond, false, length, map, refl, subst, true, ℕ, ◌++◌, ◌+◌, ◌∙◌, ◌∷◌, ◌≡◌, ◌≤◌}
use Rattle.std.proofs.lemmas.List.{length-append}
use Rattle.std.specs.List.{filter}
use Rattle.poly_design.specs.declared.change.Change.{Change}
use Rattle.poly_design.specs.declared.edit.Edit.{Edit}
use Rattle.poly_tiling.specs.Puzzle.{View}
use Rattle.poly_atom.specs.Hopeless.{hopeless}
use Rattle.poly_report.specs.Trees.{Plan}
use Rattle.poly_book.specs.declared.step.Applied.{Applied}
use Rattle.poly_book.specs.declared.step.Done.{Done}
use Rattle.poly_book.specs.declared.step.Ending.{Ending}
use Rattle.poly_book.specs.declared.step.Ending.TheVariants.{Cut, Hopeless}
use Rattle.poly_book.specs.declared.step.Kind.{Kind}
use Rattle.poly_book.specs.declared.step.Kind.TheVariants as kind
use Rattle.poly_book.specs.Events.{cut, hopeless_endings, handed_in, moved, redone, undone}
use Rattle.poly_book.specs.Partition.{Becomes}
use Rattle.poly_book.specs.Reports.{IsApplied}
use Rattle.poly_book.specs.States.{State}
use Rattle.poly_tasks.specs.Stored.{Stored, Way}
use Rattle.poly_book.specs.Steps.{IsEdited, IsRedone, IsUndone}
use Rattle.poly_tasks.specs.Tasks.{Task}
use Rattle.poly_desk.specs.Changes.{OneChange, OneCut, cut_count}

pub cuts_append : (es fs : List Ending) → cut_count (es ++ fs) ≡ cut_count es + cut_count fs
cuts_append [] fs = omega arith
cuts_append (e ∷ es) fs = omega (arith, cuts_append es fs)

pub cuts_within : (es : List Ending) → cut_count es ≤ length es
cuts_within [] = omega arith
cuts_within (Cut k ∷ es) = omega (arith, cuts_within es)
cuts_within (Hopeless k n ∷ es) = omega (arith, cuts_within es)

-- whether or not one more task is hopeless, the endings have equally many cuts
no_cut_one : (n : ℕ) (t : Task) (b : Bool) (F : List Task) → cut_count (map (λ (u : Task). Hopeless u.number n) (cond b (t ∷ F) F)) ≡ cut_count (map (λ (u : Task). Hopeless u.number n) F)
no_cut_one n t true F = omega arith
no_cut_one n t false F = omega arith

few_one : (n : ℕ) (t : Task) (b : Bool) (F : List Task) → length (map (λ (u : Task). Hopeless u.number n) (cond b (t ∷ F) F)) ≤ length (map (λ (u : Task). Hopeless u.number n) F) + 1
few_one n t true F = omega arith
few_one n t false F = omega arith

no_cuts : (w : View) (n : ℕ) (ts : List Task) → cut_count (hopeless_endings w n ts) ≡ 0
no_cuts w n [] = refl
no_cuts w n (t ∷ ts) = no_cut_one n t (hopeless w t.own) (filter (λ u. hopeless w u.own) ts) ∙ no_cuts w n ts

few_hopeless : (w : View) (n : ℕ) (ts : List Task) → length (hopeless_endings w n ts) ≤ length ts
few_hopeless w n [] = omega arith
few_hopeless w n (t ∷ ts) = omega (arith, few_one n t (hopeless w t.own) (filter (λ u. hopeless w u.own) ts), few_hopeless w n ts)

moved_one : (s t : State) (k : Kind) (x : Change) (w : View) (h : Option Stored) (shelved : Bool) (back forth : List Way) (d : Done) →
    Becomes (moved s k x w h shelved back forth) t → d.place ≡ length t.steps → t.steps ≡ d.step ∷ s.steps → OneChange s t d
moved_one s t k x w h shelved back forth d b place last =
    let ends : t.endings ≡ s.endings ++ hopeless_endings w (length s.steps + 1) s.pending = ap (λ (z : State). z.endings) b.same in
    let more = hopeless_endings w (length s.steps + 1) s.pending in
    let long : length t.endings ≡ length s.endings + length more = ap length ends ∙ length-append s.endings more in
    record {
      opened = ap (λ (z : State). z.opened) b.same;
      last = last;
      place = place;
      cuts = omega (arith, ap cut_count ends, cuts_append s.endings more, no_cuts w (length s.steps + 1) s.pending);
      more = omega (arith, long);
      few = omega (arith, long, few_hopeless w (length s.steps + 1) s.pending);
    }

pub edited_one : (e : Edit) (s t : State) (d : Done) → IsEdited e s t d → OneChange s t d
edited_one e s t d p = let m = p.made in moved_one s t kind.Edit p.change m.view None true _ [] d m.becomes m.place m.last

pub undone_one : (s t : State) (d : Done) → IsUndone s t d → OneChange s t d
undone_one s t d p =
    let m = p.made in
    let b : Becomes (undone s m.view (p.way ∷ p.rest)) t = subst (λ ws. Becomes (undone s m.view ws) t) p.top m.becomes in
    moved_one s t _ _ _ _ _ _ _ d b m.place m.last

pub redone_one : (s t : State) (d : Done) → IsRedone s t d → OneChange s t d
redone_one s t d p =
    let m = p.made in
    let b : Becomes (redone s m.view (p.way ∷ p.rest)) t = subst (λ ws. Becomes (redone s m.view ws) t) p.top m.becomes in
    moved_one s t _ _ _ _ _ _ _ d b m.place m.last

pub applied_one : (k made : ℕ) (tree : Plan) (s t : State) (a : Applied) → IsApplied k made tree s t a → OneCut k s t a
applied_one k made tree s t a p =
    let is : handed_in s k _ tree ≡ cut s k p.task tree = ap (λ z. handed_in s k z tree) p.found ∙ ap (λ b. cond b (cut s k p.task tree) s) p.right in
    let b : Becomes (cut s k p.task tree) t = subst (λ z. Becomes z t) is p.becomes in
    record {
      opened = ap (λ (z : State). z.opened) b.same;
      view = ap (λ (z : State). z.view) b.same;
      steps = ap (λ (z : State). z.steps) b.same;
      endings = ap (λ (z : State). z.endings) b.same;
      place = p.place;
    }
