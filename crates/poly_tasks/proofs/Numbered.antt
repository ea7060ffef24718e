-- The numbers of the pending tasks rise.
use Rattle.std.proofs.Common.{Bool, List, None, Some, [], ap, arith, cond, eqb, false, inl, inr, length, map, refl, subst, sym, true, ℕ, ◌++◌, ◌+◌, ◌<◌, ◌∙◌, ◌∷◌, ◌≡◌, ◌≤◌}
use Rattle.std.proofs.lemmas.Bool.{cond-false, cond_both, eqb-false, eqb-true, ne_eqb}
use Rattle.std.specs.List.{filter}
use Rattle.poly_tiling.specs.Lists.{ascending}
use Rattle.poly_tiling.proofs.Lists.{In, map_in}
use Rattle.poly_tiling.proofs.Ascending.{ascending_from}
use Rattle.poly_atom.specs.declared.atom.Atom.{Atom}
use Rattle.poly_tasks.specs.Tasks.{Rising, Task, drop_task, find_task, lay, tasks_from}

pub low : (m : ℕ) (ts : List Task) (n : ℕ) → Rising m ts n → (u : Task) → In u ts → m ≤ u.number
low m [] n r u i = absurd i
low m (t ∷ ts) n r u (inl e) = subst (λ w. m ≤ w.number) e r.0
low m (t ∷ ts) n r u (inr i) = omega (arith, r.0, low (t.number + 1) ts n r.1 u i)

spans : (m : ℕ) (ts : List Task) (n : ℕ) → Rising m ts n → m ≤ n
spans m [] n r = r
spans m (t ∷ ts) n r = omega (arith, r.0, spans (t.number + 1) ts n r.1)

pub high : (m : ℕ) (ts : List Task) (n : ℕ) → Rising m ts n → (u : Task) → In u ts → u.number < n
high m [] n r u i = absurd i
high m (t ∷ ts) n r u (inl e) = subst (λ w. w.number < n) e (omega (arith, spans (t.number + 1) ts n r.1))
high m (t ∷ ts) n r u (inr i) = high (t.number + 1) ts n r.1 u i

falls_to : (m k : ℕ) (ts : List Task) (n : ℕ) → k ≤ m → Rising m ts n → Rising k ts n
falls_to m k [] n h r = omega arith
falls_to m k (t ∷ ts) n h r = (omega (arith, r.0), r.1)

pub rising_append : (m : ℕ) (ts us : List Task) (n k : ℕ) → Rising m ts n → Rising n us k → Rising m (ts ++ us) k
rising_append m [] us n k r s = falls_to n m us k r s
rising_append m (t ∷ ts) us n k r s = (r.0, rising_append (t.number + 1) ts us n k r.1 s)

pub rising_fresh : (n : ℕ) (As : List (List Atom)) → Rising n (tasks_from n As) (n + length As)
rising_fresh n [] = omega arith
rising_fresh n (A ∷ As) = (omega arith, let e : n + length (A ∷ As) ≡ (n + 1) + length As = omega arith in subst (λ k. Rising (n + 1) (tasks_from (n + 1) As) k) (sym e) (rising_fresh (n + 1) As))

pub rising_filter : (f : Task → Bool) (m : ℕ) (ts : List Task) (n : ℕ) → Rising m ts n → Rising m (filter f ts) n
rising_filter f m [] n r = r
rising_filter f m (t ∷ ts) n r = cond_both (f t) (t ∷ filter f ts) (filter f ts) (λ us. Rising m us n)
    (λ e. (r.0, rising_filter f (t.number + 1) ts n r.1)) (λ e. falls_to (t.number + 1) m (filter f ts) n (omega (arith, r.0)) (rising_filter f (t.number + 1) ts n r.1))

pub rising_lay : (g : List Atom) (m : ℕ) (ts : List Task) (n : ℕ) → Rising m ts n → Rising m (map (λ t. lay g t) ts) n
rising_lay g m [] n r = r
rising_lay g m (t ∷ ts) n r = (r.0, rising_lay g (t.number + 1) ts n r.1)

pub rising_drop : (k m : ℕ) (ts : List Task) (n : ℕ) → Rising m ts n → Rising m (drop_task k ts) n
rising_drop k m [] n r = r
rising_drop k m (t ∷ ts) n r = cond_both (eqb t.number k) ts (t ∷ drop_task k ts) (λ us. Rising m us n)
    (λ e. falls_to (t.number + 1) m ts n (omega (arith, r.0)) r.1) (λ e. (r.0, rising_drop k (t.number + 1) ts n r.1))

drop_in_at : (k : ℕ) (t : Task) (ts : List Task) (u : Task) → (In u (drop_task k ts) → In u ts) → (b : Bool) → In u (cond b ts (t ∷ drop_task k ts)) → In u (t ∷ ts)
drop_in_at k t ts u ih true i = inr i
drop_in_at k t ts u ih false (inl e) = inl e
drop_in_at k t ts u ih false (inr i) = inr (ih i)

pub drop_in : (k : ℕ) (ts : List Task) (u : Task) → In u (drop_task k ts) → In u ts
drop_in k [] u i = i
drop_in k (t ∷ ts) u i = drop_in_at k t ts u (drop_in k ts u) (eqb t.number k) i

unique_at : (k : ℕ) (x : Task) (ts : List Task) (n : ℕ) → Rising (x.number + 1) ts n → (t u : Task) → (find_task k ts ≡ Some t → In u ts → u.number ≡ k → u ≡ t) →
    In u (x ∷ ts) → u.number ≡ k → (b : Bool) → eqb x.number k ≡ b → cond b (Some x) (find_task k ts) ≡ Some t → u ≡ t
unique_at k x ts n r t u ih (inl i) e true b f = let g : x ≡ t = cc in sym i ∙ g
unique_at k x ts n r t u ih (inr i) e true b f = let g = eqb-true x.number k b in absurd (omega (arith, low (x.number + 1) ts n r u i))
unique_at k x ts n r t u ih (inl i) e false b f = absurd (eqb-false x.number k b (ap (λ w. w.number) i ∙ e))
unique_at k x ts n r t u ih (inr i) e false b f = ih f i e

pub unique : (k m : ℕ) (ts : List Task) (n : ℕ) → Rising m ts n → (t u : Task) → find_task k ts ≡ Some t → In u ts → u.number ≡ k → u ≡ t
unique k m [] n r t u f i e = absurd i
unique k m (x ∷ ts) n r t u f i e = unique_at k x ts n r.1 t u (unique k (x.number + 1) ts n r.1 t u) i e (eqb x.number k) refl f

found_at : (k : ℕ) (u : Task) (ts : List Task) (t : Task) → (find_task k ts ≡ Some t → In t ts × (t.number ≡ k)) → (b : Bool) → eqb u.number k ≡ b →
    cond b (Some u) (find_task k ts) ≡ Some t → In t (u ∷ ts) × (t.number ≡ k)
found_at k u ts t ih true b h = let e : u ≡ t = cc in (inl e, sym (ap (λ w. w.number) e) ∙ eqb-true u.number k b)
found_at k u ts t ih false b h = let r = ih h in (inr r.0, r.1)

pub found_in : (k : ℕ) (ts : List Task) (t : Task) → find_task k ts ≡ Some t → In t ts × (t.number ≡ k)
found_in k [] t h = cc
found_in k (u ∷ ts) t h = found_at k u ts t (found_in k ts t) (eqb u.number k) refl h

-- a number that no pending task has isn't found
pub not_found : (k : ℕ) (ts : List Task) → ((u : Task) → In u ts → u.number ≡ k → ⊥) → find_task k ts ≡ None
not_found k [] h = refl
not_found k (u ∷ ts) h = cond-false (eqb u.number k) (Some u) (find_task k ts) (ne_eqb u.number k (h u (inl refl))) ∙ not_found k ts (λ x i. h x (inr i))

dropped_at : (k : ℕ) (t : Task) (ts : List Task) (n : ℕ) → Rising (t.number + 1) ts n → (u : Task) → (In u (drop_task k ts) → u.number ≡ k → ⊥) → (b : Bool) → eqb t.number k ≡ b → In u (cond b ts (t ∷ drop_task k ts)) → u.number ≡ k → ⊥
dropped_at k t ts n r u ih true b i e = omega (arith, low (t.number + 1) ts n r u i, eqb-true t.number k b)
dropped_at k t ts n r u ih false b (inl i) e = eqb-false t.number k b (ap (λ x. x.number) i ∙ e)
dropped_at k t ts n r u ih false b (inr i) e = ih i e

-- if the numbers rise, then once the task with a number is dropped, no pending task has this number
pub dropped : (k m : ℕ) (ts : List Task) (n : ℕ) → Rising m ts n → (u : Task) → In u (drop_task k ts) → u.number ≡ k → ⊥
dropped k m [] n r u i e = i
dropped k m (t ∷ ts) n r u i e = dropped_at k t ts n r.1 u (dropped k (t.number + 1) ts n r.1 u) (eqb t.number k) refl i e

pub rising_ascends : (m : ℕ) (ts : List Task) (n : ℕ) → Rising m ts n → ascending (map (λ t. t.number) ts) ≡ true
rising_ascends m [] n r = refl
rising_ascends m (t ∷ ts) n r = ascending_from t.number (map (λ u. u.number) ts)
    (λ k i. let u = map_in (λ u. u.number) ts k i in omega (arith, low (t.number + 1) ts n r.1 u.0 u.1, u.2)) (rising_ascends (t.number + 1) ts n r.1)
