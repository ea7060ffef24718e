-- Each task number that was given out is that of one pending task or of one ending.
use Rattle.std.proofs.Common.{Bool, List, None, Option, Some, [], ap, arith, cond, eqb, false, inl, inr, length, map, not, refl, subst, sym, true, ℕ, ◌&&◌, ◌+◌, ◌<◌, ◌∷◌, ◌≡◌, ◌≤◌}
use Rattle.std.proofs.lemmas.Bool.{cases_lt, cond_both, eq-eqb, eqb-false, eqb-true, ne_eqb}
use Rattle.std.specs.List.{filter}
use Rattle.poly_design.specs.Changes.{inverse_of}
use Rattle.poly_design.specs.Layout.{Layout}
use Rattle.poly_design.specs.declared.change.Change.{Change}
use Rattle.poly_tiling.specs.Lists.{one}
use Rattle.poly_tiling.specs.Puzzle.{View}
use Rattle.poly_tiling.proofs.Lists.{tally_append}
use Rattle.poly_atom.specs.declared.atom.Atom.{Atom}
use Rattle.poly_atom.specs.Guards.{guards}
use Rattle.poly_atom.specs.Hopeless.{hopeless}
use Rattle.poly_atom.specs.Stairs.{stairs}
use Rattle.poly_report.specs.Holds.{holds}
use Rattle.poly_report.specs.Leaves.{rests}
use Rattle.poly_report.specs.Sizes.{fits}
use Rattle.poly_report.specs.Trees.{Plan}
use Rattle.poly_book.specs.declared.step.Ending.TheVariants.{Cut, Hopeless}
use Rattle.poly_book.specs.declared.step.Kind.{Kind}
use Rattle.poly_book.specs.declared.step.Kind.TheVariants as kind
use Rattle.poly_book.specs.Accounts.{EachIsPendingOrEnded, ended, ended_as, pending_as}
use Rattle.poly_book.specs.Events.{Edit, Event, Redo, Report, Undo, cut, handed_in, hopeless_endings, moved, redone, step, undone}
use Rattle.poly_book.specs.Partition.{Becomes}
use Rattle.poly_book.specs.Ways.{newest, way_back}
use Rattle.poly_tasks.specs.Shelves.{is_kept, openings}
use Rattle.poly_book.specs.States.{State, opening}
use Rattle.poly_tasks.specs.Stored.{Stored, Way}
use Rattle.poly_tasks.specs.Tasks.{Task, atoms_of, drop_task, find_task, hopeful, lay, tasks_from}

same_one : (m k : ℕ) → m ≡ k → one (eqb m k) ≡ 1
same_one m k e = ap one (eq-eqb m k e)

other_one : (m k : ℕ) → (m ≡ k → ⊥) → one (eqb m k) ≡ 0
other_one m k h = ap one (ne_eqb m k h)

-- no new task has a number below the first new one
fresh_below : (k n : ℕ) (As : List (List Atom)) → k < n → pending_as k (tasks_from n As) ≡ 0
fresh_below k n [] h = refl
fresh_below k n (A ∷ As) h = omega (arith, other_one n k (λ e. omega (arith, h, e)), fresh_below k (n + 1) As (omega (arith, h)))

-- no new task has a number after the last new one
fresh_above : (k n : ℕ) (As : List (List Atom)) → n + length As ≤ k → pending_as k (tasks_from n As) ≡ 0
fresh_above k n [] h = refl
fresh_above k n (A ∷ As) h = omega (arith, other_one n k (λ e. omega (arith, h, e)), fresh_above k (n + 1) As (omega (arith, h)))

fresh_one : (k n : ℕ) (As : List (List Atom)) → n ≤ k → k < (n + 1) + length As → (b : Bool) → eqb n k ≡ b → (n + 1 ≤ k → k < (n + 1) + length As → pending_as k (tasks_from (n + 1) As) ≡ 1) → one (eqb n k) + pending_as k (tasks_from (n + 1) As) ≡ 1
fresh_one k n As l h true e ih = let is = eqb-true n k e in omega (arith, ap one e, fresh_below k (n + 1) As (omega (arith, is)))
fresh_one k n As l h false e ih =
    let apart = eqb-false n k e in
    let above : n + 1 ≤ k = elim (cases_lt n k) [ inl low ↦ omega (arith, low) | inr high ↦ absurd (apart (omega (arith, l, high))) ] in
    omega (arith, ap one e, ih above (omega (arith, h)))

-- each number from the first new one to the last new one is that of one new task
fresh_at : (k n : ℕ) (As : List (List Atom)) → n ≤ k → k < n + length As → pending_as k (tasks_from n As) ≡ 1
fresh_at k n [] l h = absurd (omega (arith, l, h))
fresh_at k n (A ∷ As) l h = fresh_one k n As l (omega (arith, h)) (eqb n k) refl (λ m g. fresh_at k (n + 1) As m g)

-- how many pending tasks and endings have the number
abbrev counted : ℕ → State → ℕ
counted k s = pending_as k s.pending + ended_as k s.endings

-- if an event opens tasks, and each task that was pending goes on or gets an ending, the account stays right
accounts_on : (s t : State) (As : List (List Atom)) → t.next ≡ s.next + length As → ((k : ℕ) → counted k t ≡ counted k s + pending_as k (tasks_from s.next As)) → EachIsPendingOrEnded s → EachIsPendingOrEnded t
accounts_on s t As next is p = record {
  start = let low = p.start in omega (arith, low, next);
  each = λ k l h. elim (cases_lt k s.next) [
    | inl low ↦ let was = p.each k l low in omega (arith, is k, was, fresh_below k s.next As low)
    | inr high ↦ let was = p.others k (inr high) in omega (arith, is k, was, fresh_at k s.next As high (omega (arith, h, next)))
  ];
  others = λ k o. elim o [
    | inl low ↦ let start = p.start in let was = p.others k (inl low) in omega (arith, is k, was, fresh_below k s.next As (omega (arith, low, start)))
    | inr high ↦ let was = p.others k (inr (omega (arith, high, next))) in omega (arith, is k, was, fresh_above k s.next As (omega (arith, high, next)))
  ];
}

drop_at : (k j : ℕ) (t u : Task) (us : List Task) → (find_task j us ≡ Some t → pending_as k (drop_task j us) + one (eqb j k) ≡ pending_as k us) → (b : Bool) → eqb u.number j ≡ b → cond b (Some u) (find_task j us) ≡ Some t →
    pending_as k (cond b us (u ∷ drop_task j us)) + one (eqb j k) ≡ one (eqb u.number k) + pending_as k us
drop_at k j t u us ih true e f = omega (arith, ap (λ m. one (eqb m k)) (eqb-true u.number j e))
drop_at k j t u us ih false e f = omega (arith, ih f)

no_task : (t : Task) → None ≡ Some t → ⊥
no_task t e = cc

-- dropping the pending task with a number takes one away from the count of this number alone
drop_one : (k j : ℕ) (t : Task) (ts : List Task) → find_task j ts ≡ Some t → pending_as k (drop_task j ts) + one (eqb j k) ≡ pending_as k ts
drop_one k j t [] f = absurd (no_task t f)
drop_one k j t (u ∷ us) f = drop_at k j t u us (drop_one k j t us) (eqb u.number j) refl f

cut_accounts : (s : State) (j : ℕ) (t : Task) (tree : Plan) → find_task j s.pending ≡ Some t → EachIsPendingOrEnded s → EachIsPendingOrEnded (cut s j t tree)
cut_accounts s j t tree found p =
    let opened = hopeful s.view (rests s.view (atoms_of t) tree) in
    accounts_on s (cut s j t tree) opened refl
    (λ k. omega (
      arith,
      tally_append (λ (u : Task). eqb u.number k) (drop_task j s.pending) (tasks_from s.next opened),
      tally_append (λ e. eqb (ended e) k) s.endings (Cut j ∷ []),
      drop_one k j t s.pending found,
    ))
    p

handed_accounts : (s : State) (j : ℕ) (o : Option Task) (tree : Plan) → find_task j s.pending ≡ o → EachIsPendingOrEnded s → EachIsPendingOrEnded (handed_in s j o tree)
handed_accounts s j None tree found p = p
handed_accounts s j (Some t) tree found p = cond_both (fits tree && holds s.view (atoms_of t) tree) (cut s j t tree) s EachIsPendingOrEnded (λ h. cut_accounts s j t tree found p) (λ h. p)

goes_or_ends : (k edition : ℕ) (g : List Atom) (t : Task) (F G : List Task) (b : Bool) →
    pending_as k (cond (not b) (lay g t ∷ F) F) + ended_as k (map (λ (u : Task). Hopeless u.number edition) (cond b (t ∷ G) G)) ≡ one (eqb t.number k) + (pending_as k F + ended_as k (map (λ (u : Task). Hopeless u.number edition) G))
goes_or_ends k edition g t F G true = omega arith
goes_or_ends k edition g t F G false = omega arith

-- a change lets each pending task go on or ends it
go_or_end : (k edition : ℕ) (w : View) (g : List Atom) (ts : List Task) → pending_as k (filter (λ t. not (hopeless w t.own)) (map (λ t. lay g t) ts)) + ended_as k (hopeless_endings w edition ts) ≡ pending_as k ts
go_or_end k edition w g [] = refl
go_or_end k edition w g (t ∷ ts) =
    omega (arith, goes_or_ends k edition g t (filter (λ t. not (hopeless w t.own)) (map (λ t. lay g t) ts)) (filter (λ t. hopeless w t.own) ts) (hopeless w t.own), go_or_end k edition w g ts)

moved_accounts : (s : State) (kd : Kind) (x : Change) (w : View) (h : Option Stored) (b : Bool) (us rs : List Way) → EachIsPendingOrEnded s → EachIsPendingOrEnded (moved s kd x w h b us rs)
moved_accounts s kd x w h b us rs p =
    let g = guards s.view w in
    let opened = hopeful w (openings h (stairs g)) in
    let edition = length s.steps + 1 in
    accounts_on s (moved s kd x w h b us rs) opened refl
    (λ k. omega (
      arith,
      tally_append (λ (u : Task). eqb u.number k) (filter (λ t. not (hopeless w t.own)) (map (λ t. lay g t) s.pending)) (tasks_from s.next opened),
      tally_append (λ e. eqb (ended e) k) s.endings (hopeless_endings w edition s.pending),
      go_or_end k edition w g s.pending,
    ))
    p

undone_accounts : (s : State) (w : View) (ways : List Way) → EachIsPendingOrEnded s → EachIsPendingOrEnded (undone s w ways)
undone_accounts s w [] p = p
undone_accounts s w (b ∷ ways) p = moved_accounts s kind.Undo (inverse_of b.change) w b.shelf (is_kept b.shelf) ways (way_back s b.change w ∷ s.forth) p

redone_accounts : (s : State) (w : View) (ways : List Way) → EachIsPendingOrEnded s → EachIsPendingOrEnded (redone s w ways)
redone_accounts s w [] p = p
redone_accounts s w (b ∷ ways) p = moved_accounts s kind.Redo b.change w b.shelf (is_kept b.shelf) (newest 256 (way_back s b.change w ∷ s.back)) ways p

pub step_accounts : (s : State) (e : Event) → EachIsPendingOrEnded s → EachIsPendingOrEnded (step s e)
step_accounts s (Edit x w) p = moved_accounts s kind.Edit x w None true (newest 256 (way_back s x w ∷ s.back)) [] p
step_accounts s (Undo w) p = undone_accounts s w s.back p
step_accounts s (Redo w) p = redone_accounts s w s.forth p
step_accounts s (Report k tree) p = handed_accounts s k (find_task k s.pending) tree refl p

relisted_accounts : (s : State) (L : List (List ℕ)) → EachIsPendingOrEnded s → EachIsPendingOrEnded (record s { listed = L })
relisted_accounts s L p = record { start = p.start; each = p.each; others = p.others }

pub becomes_accounts : (s z : State) → Becomes s z → EachIsPendingOrEnded s → EachIsPendingOrEnded z
becomes_accounts s z k p = subst EachIsPendingOrEnded (sym k.same) (relisted_accounts s z.listed p)

opening_one : (k : ℕ) → 1 ≤ k → k < 2 → 1 ≡ k
opening_one k l h = omega (arith, l, h)

pub opening_accounts : (d : Layout) (v : View) → EachIsPendingOrEnded (opening d v)
opening_accounts d v = record {
  start = omega arith;
  each = λ k l h. omega (arith, same_one 1 k (opening_one k l h));
  others = λ k o. elim o [ inl low ↦ omega (arith, other_one 1 k (λ e. omega (arith, low, e))) | inr high ↦ omega (arith, other_one 1 k (λ e. omega (arith, high, e))) ];
}
