-- The index of a task in the list of tasks.
use Rattle.std.proofs.Common.{Bool, List, None, Option, Some, [], ap, arith, cond, drop, false, get_or, length, refl, subst, suc, sym, take, true, zero, ℕ, ◌++◌, ◌+◌, ◌<◌, ◌∙◌, ◌∷◌, ◌≡◌, ◌≤◌}
use Rattle.std.proofs.lemmas.Bool.{eq-eqb, ne_eqb, true≢false}
use Rattle.std.specs.List.{position_from}
use Rattle.std.specs.Prelude.{◌==◌}
use Rattle.poly_atom.specs.declared.atom.Atom.{Atom}
use Rattle.poly_tasks.specs.Tasks.{Rising, drop_task, find_task}
use Rattle.poly_tasks.specs.declared.task.Pending.{Pending}
use Rattle.poly_tasks.specs.Meaning.{AreTasks, task_of, tasks_of}

-- the index is that of the first task with the number
abbrev pub At : ℕ → List Pending → ℕ → Type 0
At k [] m = ⊥
At k (p ∷ ps) zero = (p.number == k) ≡ true
At k (p ∷ ps) (suc m) = ((p.number == k) ≡ false) × At k ps m

abbrev or_zero : Option ℕ → ℕ
or_zero None = 0
or_zero (Some n) = n

abbrev filled : Option ℕ → Bool
filled None = false
filled (Some n) = true

no_some : (i : ℕ) → None ≡ Some i → ⊥
no_some i e = true≢false (sym (ap filled e))

index_one : (k j : ℕ) (p : Pending) (ps : List Pending) (i : ℕ) (b : Bool) → (position_from (λ p. p.number == k) (j + 1) ps ≡ Some i → (m : ℕ) × (i ≡ (j + 1) + m) × At k ps m) → (p.number == k) ≡ b →
    cond b (Some j) (position_from (λ p. p.number == k) (j + 1) ps) ≡ Some i → (m : ℕ) × (i ≡ j + m) × At k (p ∷ ps) m
index_one k j p ps i true ih h e = (0, omega (arith, ap or_zero e), h)
index_one k j p ps i false ih h e = let r = ih e in (suc r.0, omega (arith, r.1), (h, r.2))

index_at : (k j : ℕ) (ps : List Pending) (i : ℕ) → position_from (λ p. p.number == k) j ps ≡ Some i → (m : ℕ) × (i ≡ j + m) × At k ps m
index_at k j [] i e = absurd (no_some i e)
index_at k j (p ∷ ps) i e = index_one k j p ps i (p.number == k) (index_at k (j + 1) ps i) refl e

pub first_at : (k : ℕ) (ps : List Pending) (i : ℕ) → position_from (λ p. p.number == k) 0 ps ≡ Some i → At k ps i
first_at k ps i e = let r = index_at k 0 ps i e in let h : r.0 ≡ i = omega (arith, r.1) in subst (λ m. At k ps m) h r.2

pub at_below : (k : ℕ) (ps : List Pending) (m : ℕ) → At k ps m → m < length ps
at_below k [] m h = absurd h
at_below k (p ∷ ps) zero h = omega arith
at_below k (p ∷ ps) (suc m) h = omega (arith, at_below k ps m h.1)

pub at_find : (k : ℕ) (log : List (List Atom)) (ps : List Pending) (m : ℕ) (d : Pending) → At k ps m → find_task k (tasks_of log ps) ≡ Some (task_of log (get_or ps m d))
at_find k log [] m d h = absurd h
at_find k log (p ∷ ps) zero d h = ap (λ b. cond b (Some (task_of log p)) (find_task k (tasks_of log ps))) h
at_find k log (p ∷ ps) (suc m) d h = ap (λ b. cond b (Some (task_of log p)) (find_task k (tasks_of log ps))) h.0 ∙ at_find k log ps m d h.1

pub at_drop : (k : ℕ) (log : List (List Atom)) (ps : List Pending) (m : ℕ) → At k ps m → drop_task k (tasks_of log ps) ≡ tasks_of log (take m ps ++ drop (suc m) ps)
at_drop k log [] m h = absurd h
at_drop k log (p ∷ ps) zero h = ap (λ b. cond b (tasks_of log ps) (task_of log p ∷ drop_task k (tasks_of log ps))) h
at_drop k log (p ∷ ps) (suc m) h = ap (λ b. cond b (tasks_of log ps) (task_of log p ∷ drop_task k (tasks_of log ps))) h.0 ∙ ap (λ ts. task_of log p ∷ ts) (at_drop k log ps m h.1)

pub at_tasks : (log : List (List Atom)) (k : ℕ) (ps : List Pending) (m : ℕ) → At k ps m → AreTasks log ps → AreTasks log (take m ps ++ drop (suc m) ps)
at_tasks log k [] m h b = absurd h
at_tasks log k (p ∷ ps) zero h b = b.1
at_tasks log k (p ∷ ps) (suc m) h b = (b.0, at_tasks log k ps m h.1 b.1)

nowhere_one : (k j : ℕ) (log : List (List Atom)) (p : Pending) (ps : List Pending) (b : Bool) → (position_from (λ p. p.number == k) (j + 1) ps ≡ None → find_task k (tasks_of log ps) ≡ None) → (p.number == k) ≡ b →
    cond b (Some j) (position_from (λ p. p.number == k) (j + 1) ps) ≡ None → find_task k (tasks_of log (p ∷ ps)) ≡ None
nowhere_one k j log p ps true ih h e = absurd (no_some j (sym e))
nowhere_one k j log p ps false ih h e = ap (λ b. cond b (Some (task_of log p)) (find_task k (tasks_of log ps))) h ∙ ih e

pub nowhere : (k j : ℕ) (log : List (List Atom)) (ps : List Pending) → position_from (λ p. p.number == k) j ps ≡ None → find_task k (tasks_of log ps) ≡ None
nowhere k j log [] e = refl
nowhere k j log (p ∷ ps) e = nowhere_one k j log p ps (p.number == k) (nowhere k (j + 1) log ps) refl e

-- without the task at the index there is one task fewer
pub at_left : (k : ℕ) (ps : List Pending) (m : ℕ) → At k ps m → length (take m ps ++ drop (suc m) ps) + 1 ≡ length ps
at_left k [] m h = absurd h
at_left k (p ∷ ps) zero h = omega arith
at_left k (p ∷ ps) (suc m) h = omega (arith, at_left k ps m h.1)

pub behind : (m n : ℕ) (log : List (List Atom)) (ps : List Pending) (i : ℕ) (d : Pending) → Rising m (tasks_of log ps) n → i < length ps → m ≤ (get_or ps i d).number
behind m n log [] i d r l = absurd (omega (arith, l))
behind m n log (p ∷ ps) zero d r l = r.0
behind m n log (p ∷ ps) (suc i) d r l = omega (arith, r.0, behind (p.number + 1) n log ps i d r.1 (omega (arith, l)))

-- in a rising list each number is found at its own index
pub found_where : (m n j : ℕ) (log : List (List Atom)) (ps : List Pending) (i : ℕ) (d : Pending) → Rising m (tasks_of log ps) n → i < length ps → position_from (λ p. p.number == (get_or ps i d).number) j ps ≡ Some (j + i)
found_where m n j log [] i d r l = absurd (omega (arith, l))
found_where m n j log (p ∷ ps) zero d r l =
    let same : j ≡ j + 0 = omega arith in
    ap (λ b. cond b (Some j) (position_from (λ q. q.number == p.number) (j + 1) ps)) (eq-eqb p.number p.number refl) ∙ ap (λ x. Some x) same
found_where m n j log (p ∷ ps) (suc i) d r l =
    let k = (get_or ps i d).number in
    let low : i < length ps = omega (arith, l) in
    let other : p.number ≡ k → ⊥ = λ e. omega (arith, e, behind (p.number + 1) n log ps i d r.1 low) in
    let same : (j + 1) + i ≡ j + suc i = omega arith in
    ap (λ b. cond b (Some j) (position_from (λ q. q.number == k) (j + 1) ps)) (ne_eqb p.number k other) ∙ found_where (p.number + 1) n (j + 1) log ps i d r.1 low ∙ ap (λ x. Some x) same

-- searching for the number of the task at an index finds that task
pub find_where : (m n : ℕ) (log : List (List Atom)) (ps : List Pending) (i : ℕ) (d : Pending) → Rising m (tasks_of log ps) n → i < length ps → find_task (get_or ps i d).number (tasks_of log ps) ≡ Some (task_of log (get_or ps i d))
find_where m n log ps i d r l =
    let e : position_from (λ p. p.number == (get_or ps i d).number) 0 ps ≡ Some i = found_where m n 0 log ps i d r l ∙ ap (λ x. Some x) (let z : 0 + i ≡ i = omega arith in z) in
    at_find (get_or ps i d).number log ps i d (first_at (get_or ps i d).number ps i e)
