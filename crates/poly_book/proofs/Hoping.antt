-- Which tasks aren't hopeless while a book settles.
use Rattle.std.proofs.Common.{Bool, List, [], ap, arith, cond, drop, false, get_or, inl, inr, length, min, not, refl, subst, suc, sym, take, true, zero, ℕ, ◌++◌, ◌+◌, ◌<◌, ◌∙◌, ◌∷◌, ◌≡◌, ◌≤◌}
use Rattle.std.proofs.lemmas.Bool.{and_from, and_parts, cases_lt, not-true}
use Rattle.std.proofs.lemmas.List.{append-nil, drop_all, length-take}
use Rattle.std.specs.List.{list_all}
use Rattle.poly_tiling.specs.Puzzle.{View}
use Rattle.poly_tiling.proofs.Lists.{all_append}
use Rattle.poly_atom.specs.declared.atom.Atom.{Atom}
use Rattle.poly_atom.specs.Hopeless.{hopeless}
use Rattle.poly_report.specs.Leaves.{rests}
use Rattle.poly_report.specs.Opened.{opened}
use Rattle.poly_report.specs.Trees.{Plan}
use Rattle.poly_report.proofs.OpenPaths.{open_paths_add_nothing_hopeless_lem}
use Rattle.poly_book.specs.declared.parts.Parts.{Parts}
use Rattle.poly_book.specs.declared.step.Applied.{Applied}
use Rattle.poly_tasks.specs.declared.task.Pending.{Pending}
use Rattle.poly_book.specs.Keeps.{state_of}
use Rattle.poly_tasks.specs.Meaning.{task_of, tasks_of}
use Rattle.poly_book.specs.Reports.{AreLeaves, IsApplied}
use Rattle.poly_book.specs.Settled.{AreHopefulFrom}
use Rattle.poly_book.specs.States.{State}
use Rattle.poly_tasks.specs.Tasks.{AreHopeful, Task, atoms_of, drop_task, hopeful, tasks_from}
use Rattle.poly_tasks.proofs.Held.{length_of}
use Rattle.poly_tasks.proofs.Indices.{at_drop, first_at}
use Rattle.poly_book.proofs.Taking.{step_cut}

-- if a list of atoms isn't hopeless, a tree for it whose branches and splits name only open placements has no hopeless rest
pub rests_hopeful : (v : View) (A : List Atom) (t : Plan) → opened v A t ≡ true → hopeless v A ≡ false → AreHopeful v (rests v A t)
rests_hopeful v A t o h = subst (λ b. list_all (λ B. cond b (hopeless v B) (not (hopeless v B))) (rests v A t) ≡ true) h (open_paths_add_nothing_hopeless_lem v A t o)

abbrev hoped : View → Task → Bool
hoped v t = not (hopeless v (atoms_of t))

all_at : (f : Task → Bool) (log : List (List Atom)) (ps : List Pending) (n i : ℕ) (d : Pending) → n ≤ i → i < length ps → list_all f (drop n (tasks_of log ps)) ≡ true → f (task_of log (get_or ps i d)) ≡ true
all_at f log [] n i d l k h = absurd (omega (arith, k))
all_at f log (p ∷ ps) zero zero d l k h = (and_parts (f (task_of log p)) (list_all f (tasks_of log ps)) h).0
all_at f log (p ∷ ps) zero (suc i) d l k h = all_at f log ps zero i d (omega arith) (omega (arith, k)) (and_parts (f (task_of log p)) (list_all f (tasks_of log ps)) h).1
all_at f log (p ∷ ps) (suc n) zero d l k h = absurd (omega (arith, l))
all_at f log (p ∷ ps) (suc n) (suc i) d l k h = all_at f log ps n i d (omega (arith, l)) (omega (arith, k)) h

-- if no task from n on is hopeless, a task at an index of at least n isn't
pub hopeful_at : (p : Parts) (x : Pending) (i n : ℕ) → n ≤ i → i < length p.tasks.items → x ≡ get_or p.tasks.items i x → AreHopefulFrom n (state_of p) → hopeless p.scene (atoms_of (task_of p.log x)) ≡ false
hopeful_at p x i n l k is from = not-true _ (ap (λ y. hoped p.scene (task_of p.log y)) is ∙ all_at (hoped p.scene) p.log p.tasks.items n i x l k from)

-- if there are at most n pending tasks, no task from index n on is hopeless
pub hopeful_end : (p : Parts) (n : ℕ) → length p.tasks.items ≤ n → AreHopefulFrom n (state_of p)
hopeful_end p n l = ap (list_all (hoped p.scene)) (drop_all n (tasks_of p.log p.tasks.items) (omega (arith, length_of p.log p.tasks.items, l)))

all_drop : (f : Task → Bool) (n : ℕ) (ts : List Task) → list_all f ts ≡ true → list_all f (drop n ts) ≡ true
all_drop f zero [] h = refl
all_drop f zero (t ∷ ts) h = h
all_drop f (suc n) [] h = refl
all_drop f (suc n) (t ∷ ts) h = all_drop f n ts (and_parts (f t) (list_all f ts) h).1

all_before : (f : Task → Bool) (n : ℕ) (ts us : List Task) → list_all f (drop n ts) ≡ true → list_all f us ≡ true → list_all f (drop n (ts ++ us)) ≡ true
all_before f n [] us h k = all_drop f n us k
all_before f zero (t ∷ ts) us h k = all_append f (t ∷ ts) us ∙ and_from (list_all f (t ∷ ts)) (list_all f us) h k
all_before f (suc n) (t ∷ ts) us h k = all_before f n ts us h k

-- if all tasks from n on pass a test, so do those from n on among the first m
all_front : (f : Task → Bool) (log : List (List Atom)) (ps : List Pending) (n m : ℕ) → list_all f (drop n (tasks_of log ps)) ≡ true → list_all f (drop n (tasks_of log (take m ps))) ≡ true
all_front f log [] zero zero h = refl
all_front f log [] zero (suc m) h = refl
all_front f log [] (suc n) zero h = refl
all_front f log [] (suc n) (suc m) h = refl
all_front f log (p ∷ ps) zero zero h = refl
all_front f log (p ∷ ps) (suc n) zero h = refl
all_front f log (p ∷ ps) zero (suc m) h =
    let t = task_of log p in
    let hs = and_parts (f t) (list_all f (tasks_of log ps)) h in
    and_from (f t) (list_all f (tasks_of log (take m ps))) hs.0 (all_front f log ps zero m hs.1)
all_front f log (p ∷ ps) (suc n) (suc m) h = all_front f log ps n m h

fresh_one : (v : View) (n : ℕ) (A : List Atom) (As : List (List Atom)) (b : Bool) → hopeless v A ≡ b → ((m : ℕ) → list_all (hoped v) (tasks_from m (hopeful v As)) ≡ true) →
    list_all (hoped v) (tasks_from n (cond (not b) (A ∷ hopeful v As) (hopeful v As))) ≡ true
fresh_one v n A As true h ih = ih n
fresh_one v n A As false h ih = and_from (not (hopeless v (A ++ []))) (list_all (hoped v) (tasks_from (n + 1) (hopeful v As))) (ap (λ B. not (hopeless v B)) (append-nil A) ∙ ap not h) (ih (n + 1))

-- none of the opened tasks is hopeless
fresh_hopeful : (v : View) (n : ℕ) (As : List (List Atom)) → list_all (hoped v) (tasks_from n (hopeful v As)) ≡ true
fresh_hopeful v n [] = refl
fresh_hopeful v n (A ∷ As) = fresh_one v n A As (hopeless v A) refl (λ m. fresh_hopeful v m As)

-- A turn ends the last task, whose index is `at`, and opens others. If no task from n on is hopeless before the turn, no task
-- from n or from `at` on, whichever is less, is hopeless after it.
pub hopeful_on : (p : Parts) (t : State) (k made : ℕ) (tree : Plan) (a : Applied) (at n : ℕ) (ts : List (List ℕ)) (rs : List (List Atom)) → AreLeaves p k at tree ts rs → length p.tasks.items ≤ at + 1 → IsApplied k made tree (state_of p) t a →
    AreHopefulFrom n (state_of p) → AreHopefulFrom (min n at) t
hopeful_on p t k made tree a at n ts rs l long done from =
    let s = state_of p in
    let ps = p.tasks.items in
    let f = hoped p.scene in
    let is = step_cut s k done.task tree done.found done.right in
    let same = done.becomes.same in
    let view : t.view ≡ s.view = ap (λ (z : State). z.view) same ∙ ap (λ (z : State). z.view) is in
    let new = tasks_from s.next (hopeful s.view (rests s.view (atoms_of done.task) tree)) in
    let left : List Task = tasks_of p.log (take at ps) in
    let none : drop (suc at) ps ≡ [] = drop_all (suc at) ps (omega (arith, long)) in
    let front : drop_task k s.pending ≡ left = at_drop k p.log ps at (first_at k ps at l.first) ∙ ap (λ qs. tasks_of p.log (take at ps ++ qs)) none ∙ ap (λ qs. tasks_of p.log qs) (append-nil (take at ps)) in
    let pending : t.pending ≡ left ++ new = ap (λ (z : State). z.pending) same ∙ ap (λ (z : State). z.pending) is ∙ ap (λ us. us ++ new) front in
    let old : list_all f (drop (min n at) left) ≡ true = elim (cases_lt at n) [
      | inl h ↦
          let e : min n at ≡ at = omega (arith, h) in
          subst (λ m. list_all f (drop m left) ≡ true) (sym e) (ap (list_all f) (drop_all at left (omega (arith, length_of p.log (take at ps), length-take at ps))))
      | inr h ↦
          let e : min n at ≡ n = omega (arith, h) in
          subst (λ m. list_all f (drop m left) ≡ true) (sym e) (all_front f p.log ps n at from)
    ] in
    let all : list_all f (drop (min n at) (left ++ new)) ≡ true = all_before f (min n at) left new old (fresh_hopeful s.view s.next (rests s.view (atoms_of done.task) tree)) in
    subst (λ v. list_all (hoped v) (drop (min n at) t.pending) ≡ true) (sym view) (subst (λ us. list_all f (drop (min n at) us) ≡ true) (sym pending) all)
