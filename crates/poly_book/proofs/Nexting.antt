-- The next pending task, and all tilings once nothing is pending.
use Rattle.std.proofs.Common.{Bool, List, None, Option, Some, [], ap, arith, cond, eqb, false, inl, inr, length, refl, sym, true, ℕ, ◌+◌, ◌<◌, ◌∙◌, ◌∷◌, ◌≡◌, ◌≤◌}
use Rattle.std.proofs.lemmas.Bool.{cond-false, eq-eqb, eqb-true, false_from_ne_true, leb-true, ne_eqb, true≢false}
use Rattle.std.proofs.lemmas.Bool.Decides.{leb_tells}
use Rattle.std.specs.Prelude.{MatchOption, nat_le}
use Rattle.poly_tiling.specs.Lister.{HasEachOnce}
use Rattle.poly_tiling.specs.Lists.{one, same_list, tally}
use Rattle.poly_tiling.specs.Puzzle.{is_tiling}
use Rattle.poly_tiling.proofs.Ascending.{same_list_is, same_list_self}
use Rattle.poly_tiling.proofs.Lists.{In, all_in, tally_none}
use Rattle.poly_tiling.proofs.Named.{tally_same_in}
use Rattle.poly_atom.specs.declared.atom.Atom.{Atom}
use Rattle.poly_atom.specs.Atoms.{meets_all}
use Rattle.poly_tasks.specs.declared.task.Pending.{Pending}
use Rattle.poly_tasks.specs.Meaning.{task_of, tasks_of}
use Rattle.poly_tasks.specs.Nexts.{IsLeastFrom, NoneFrom, number_from}
use Rattle.poly_book.specs.Partition.{Partition}
use Rattle.poly_book.specs.States.{State}
use Rattle.poly_tasks.specs.Tasks.{Rising, Task, atoms_of, find_task}
use Rattle.poly_tasks.proofs.Numbered.{found_in, low}

not_le : (m n : ℕ) → nat_le m n ≡ false → n < m
not_le m n e = elim (leb_tells m n) [ inl p ↦ absurd (true≢false (sym p.0 ∙ e)) | inr p ↦ p.1 ]

below_it : (m k : ℕ) (u : Task) (ts : List Task) (t : Task) → u.number < m → (find_task k ts ≡ Some t → k < m) → (b : Bool) → eqb u.number k ≡ b → cond b (Some u) (find_task k ts) ≡ Some t → k < m
below_it m k u ts t l h true e f = omega (arith, l, eqb-true u.number k e)
below_it m k u ts t l h false e f = h f

behind_it : (m k : ℕ) (u : Task) (ts : List Task) (t : Task) → u.number < m → m ≤ k → (b : Bool) → eqb u.number k ≡ b → cond b (Some u) (find_task k ts) ≡ Some t → find_task k ts ≡ Some t
behind_it m k u ts t l h true e f = absurd (omega (arith, l, h, eqb-true u.number k e))
behind_it m k u ts t l h false e f = f

-- a task whose number is less than m doesn't change the result if it is put in front of the list
passed : (m : ℕ) (u : Task) (ts : List Task) (o : Option ℕ) → u.number < m → MatchOption o (NoneFrom m ts) (λ k. IsLeastFrom m ts k) → MatchOption o (NoneFrom m (u ∷ ts)) (λ k. IsLeastFrom m (u ∷ ts) k)
passed m u ts None l h = λ k t f. below_it m k u ts t l (h k t) (eqb u.number k) refl f
passed m u ts (Some n) l h = record {
  task = h.task;
  found = cond-false (eqb u.number n) (Some u) (find_task n ts) (ne_eqb u.number n (λ e. omega (arith, l, h.from, e))) ∙ h.found;
  from = h.from;
  least = λ k t g f. h.least k t g (behind_it m k u ts t l g (eqb u.number k) refl f);
}

at_least : (u : Task) (ts : List Task) (n k : ℕ) (t : Task) → Rising (u.number + 1) ts n → In t (u ∷ ts) → t.number ≡ k → u.number ≤ k
at_least u ts n k t r (inl e) g = omega (arith, ap (λ w. w.number) e, g)
at_least u ts n k t r (inr i) g = omega (arith, low (u.number + 1) ts n r t i, g)

here : (m : ℕ) (u : Task) (ts : List Task) (n : ℕ) → Rising (u.number + 1) ts n → m ≤ u.number → IsLeastFrom m (u ∷ ts) u.number
here m u ts n r h = record {
  task = u;
  found = ap (λ b. cond b (Some u) (find_task u.number ts)) (eq-eqb u.number u.number refl);
  from = h;
  least = λ k t g f. let p = found_in k (u ∷ ts) t f in at_least u ts n k t r p.0 p.1;
}

least_at : (m : ℕ) (log : List (List Atom)) (p : Pending) (ps : List Pending) (n : ℕ) → Rising (p.number + 1) (tasks_of log ps) n →
    MatchOption (number_from m ps) (NoneFrom m (tasks_of log ps)) (λ k. IsLeastFrom m (tasks_of log ps) k) → (b : Bool) → nat_le m p.number ≡ b →
    MatchOption (cond b (Some p.number) (number_from m ps)) (NoneFrom m (tasks_of log (p ∷ ps))) (λ k. IsLeastFrom m (tasks_of log (p ∷ ps)) k)
least_at m log p ps n r ih true e = here m (task_of log p) (tasks_of log ps) n r (leb-true m p.number e)
least_at m log p ps n r ih false e = passed m (task_of log p) (tasks_of log ps) (number_from m ps) (not_le m p.number e) ih

no_task : (t : Task) → None ≡ Some t → ⊥
no_task t e = cc

pub least_from : (m j : ℕ) (log : List (List Atom)) (ps : List Pending) (n : ℕ) → Rising j (tasks_of log ps) n → MatchOption (number_from m ps) (NoneFrom m (tasks_of log ps)) (λ k. IsLeastFrom m (tasks_of log ps) k)
least_from m j log [] n r = λ k t e. absurd (no_task t e)
least_from m j log (p ∷ ps) n r = least_at m log p ps n r.1 (least_from m (p.number + 1) log ps n r.1) (nat_le m p.number) refl

turn_at : (T U : List ℕ) (b : Bool) → same_list T U ≡ b → same_list T U ≡ same_list U T
turn_at T U true e = e ∙ sym (same_list_self U) ∙ ap (λ V. same_list U V) (sym (same_list_is T U e))
turn_at T U false e = e ∙ sym (false_from_ne_true (same_list U T) (λ h. true≢false (sym (same_list_self T) ∙ ap (λ V. same_list T V) (sym (same_list_is U T h)) ∙ e)))

-- whether two lists are the same doesn't depend on which comes first
pub same_flipped : (T U : List ℕ) → same_list T U ≡ same_list U T
same_flipped T U = turn_at T U (same_list T U) refl

each_at : (s : State) → Partition s → s.pending ≡ [] → (T : List ℕ) → (b : Bool) → is_tiling s.view T ≡ b → tally (same_list T) s.listed ≡ one b
each_at s p e T true h = tally_same_in (same_list T) (λ U. same_list U T) s.listed (λ U i. same_flipped T U) ∙ omega (arith, p.shared T h, ap (λ ts. tally (λ t. meets_all s.view T (atoms_of t)) ts) e)
each_at s p e T false h = tally_none (same_list T) s.listed (λ U i. false_from_ne_true (same_list T U) (λ g. true≢false (sym (all_in (λ V. is_tiling s.view V) s.listed p.only U i) ∙ ap (λ V. is_tiling s.view V) (sym (same_list_is T U g)) ∙ h)))

-- if nothing is pending, each tiling is listed once, and nothing else is listed
pub partition_each : (s : State) → Partition s → s.pending ≡ [] → HasEachOnce s.view s.listed
partition_each s p e T = each_at s p e T (is_tiling s.view T) refl

pub none_pending : (log : List (List Atom)) (ps : List Pending) → length ps ≤ 0 → tasks_of log ps ≡ []
none_pending log [] h = refl
none_pending log (p ∷ ps) h = absurd (omega (arith, h))
