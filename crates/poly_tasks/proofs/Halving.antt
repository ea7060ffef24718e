-- In a list of rising numbers, a binary search ends at the first number that is at least the wanted one.
use Rattle.std.proofs.Common.{Bool, List, None, Some, [], ap, arith, cond, false, get_or, inl, inr, length, nat_lt, refl, suc, sym, true, zero, ℕ, ◌+◌, ◌<◌, ◌∙◌, ◌∷◌, ◌≡◌, ◌≤◌}
use Rattle.std.proofs.lemmas.Bool.{cases_lt, eq-eqb, eqb-true, lt-ltb, ltb-false, ltb-true, ne_eqb, true≢false}
use Rattle.std.proofs.lemmas.List.{get_or_default}
use Rattle.std.proofs.lemmas.Bool.Decides.{leb_tells}
use Rattle.std.specs.List.{AllWithin, position_from}
use Rattle.std.specs.List.Sorted.{IsNonDecreasingBy}
use Rattle.std.specs.Prelude.{nat_le, ◌==◌, ◌⊎◌}
use Rattle.poly_atom.specs.declared.atom.Atom.{Atom}
use Rattle.poly_tasks.specs.declared.task.Pending.{Pending}
use Rattle.poly_tasks.specs.Meaning.{tasks_of}
use Rattle.poly_tasks.specs.Nexts.{number_from}
use Rattle.poly_tasks.specs.Tasks.{Rising}
use Rattle.poly_tasks.proofs.Indices.{behind}

pub numbers_rise : (m n : ℕ) (log : List (List Atom)) (ps : List Pending) → Rising m (tasks_of log ps) n → IsNonDecreasingBy (λ (p : Pending). p.number) ps
numbers_rise m n log [] r i j d h l = absurd (omega (arith, l))
numbers_rise m n log (p ∷ ps) r zero zero d h l = omega arith
numbers_rise m n log (p ∷ ps) r zero (suc j) d h l = let b = behind (p.number + 1) n log ps j d r.1 (omega (arith, l)) in omega (arith, b)
numbers_rise m n log (p ∷ ps) r (suc i) zero d h l = absurd (omega (arith, h))
numbers_rise m n log (p ∷ ps) r (suc i) (suc j) d h l = numbers_rise (p.number + 1) n log ps r.1 i j d (omega (arith, h)) (omega (arith, l))

from_not_below : (m k : ℕ) → nat_lt k m ≡ false → nat_le m k ≡ true
from_not_below m k f = elim (leb_tells m k) [ inl p ↦ p.0 | inr p ↦ absurd (true≢false (sym (lt-ltb k m p.1) ∙ f)) ]

pub not_from_below : (m k : ℕ) → nat_lt k m ≡ true → nat_le m k ≡ false
not_from_below m k t = elim (leb_tells m k) [ inl p ↦ absurd (omega (arith, p.1, ltb-true k m t)) | inr p ↦ p.0 ]

pub first_here : (m : ℕ) (ps : List Pending) (i : ℕ) (d : Pending) → AllWithin (λ (p : Pending). nat_lt p.number m ≡ true) ps 0 i → AllWithin (λ (p : Pending). nat_lt p.number m ≡ false) ps i (length ps) → i < length ps → number_from m ps ≡ Some (get_or ps i d).number
first_here m [] i d a b l = absurd (omega (arith, l))
first_here m (p ∷ ps) zero d a b l = ap (λ c. cond c (Some p.number) (number_from m ps)) (from_not_below m p.number (b zero p (omega arith) l))
first_here m (p ∷ ps) (suc i) d a b l =
    ap (λ c. cond c (Some p.number) (number_from m ps)) (not_from_below m p.number (a zero p (omega arith) (omega arith)))
    ∙ first_here m ps i d (λ k e low high. a (suc k) e (omega arith) (omega (arith, high))) (λ k e low high. b (suc k) e (omega (arith, low)) (omega (arith, high))) (omega (arith, l))

pub first_none : (m : ℕ) (ps : List Pending) (i : ℕ) → AllWithin (λ (p : Pending). nat_lt p.number m ≡ true) ps 0 i → length ps ≤ i → number_from m ps ≡ None
first_none m [] i a l = refl
first_none m (p ∷ ps) zero a l = absurd (omega (arith, l))
first_none m (p ∷ ps) (suc i) a l =
    ap (λ c. cond c (Some p.number) (number_from m ps)) (not_from_below m p.number (a zero p (omega arith) (omega arith)))
    ∙ first_none m ps i (λ k e low high. a (suc k) e (omega arith) (omega (arith, high))) (omega (arith, l))

-- no task has the number if each number before an index is less, and each from there on is greater
absent : (k j : ℕ) (ps : List Pending) → ((i : ℕ) (d : Pending) → i < length ps → (get_or ps i d).number ≡ k → ⊥) → position_from (λ p. p.number == k) j ps ≡ None
absent k j [] h = refl
absent k j (p ∷ ps) h =
    ap (λ b. cond b (Some j) (position_from (λ q. q.number == k) (j + 1) ps)) (ne_eqb p.number k (λ e. h zero p (omega arith) e))
    ∙ absent k (j + 1) ps (λ i d l e. h (suc i) d (omega (arith, l)) e)

present : (k j : ℕ) (ps : List Pending) (i : ℕ) (d : Pending) → AllWithin (λ (p : Pending). nat_lt p.number k ≡ true) ps 0 i → i < length ps → (get_or ps i d).number ≡ k → position_from (λ p. p.number == k) j ps ≡ Some (j + i)
present k j [] i d a l e = absurd (omega (arith, l))
present k j (p ∷ ps) zero d a l e =
    ap (λ b. cond b (Some j) (position_from (λ q. q.number == k) (j + 1) ps)) (eq-eqb p.number k e) ∙ ap (λ n. Some n) (let z : j ≡ j + 0 = omega arith in z)
present k j (p ∷ ps) (suc i) d a l e =
    let less = ltb-true p.number k (a zero p (omega arith) (omega arith)) in
    ap (λ b. cond b (Some j) (position_from (λ q. q.number == k) (j + 1) ps)) (ne_eqb p.number k (λ q. omega (arith, less, q)))
    ∙ present k (j + 1) ps i d (λ n x low high. a (suc n) x (omega arith) (omega (arith, high))) (omega (arith, l)) e ∙ ap (λ n. Some n) (let z : j + 1 + i ≡ j + suc i = omega arith in z)

-- of the tasks, whose numbers rise, the first whose number isn't below k decides whether one of them has the number k, and
-- where
pub index_here : (k : ℕ) (ps : List Pending) (i : ℕ) (d : Pending) (b : Bool) → IsNonDecreasingBy (λ (p : Pending). p.number) ps → AllWithin (λ (p : Pending). nat_lt p.number k ≡ true) ps 0 i → AllWithin (λ (p : Pending). nat_lt p.number k ≡ false) ps i (length ps) → i < length ps →
    ((get_or ps i d).number == k) ≡ b → cond b (Some i) None ≡ position_from (λ p. p.number == k) 0 ps
index_here k ps i d true rises below above l e = sym (present k 0 ps i d below l (eqb-true (get_or ps i d).number k e) ∙ ap (λ n. Some n) (let z : 0 + i ≡ i = omega arith in z))
index_here k ps i d false rises below above l e = sym (absent k 0 ps (λ n x low q. other n x low q (cases_lt n i)))
  where
    other : (n : ℕ) (x : Pending) → n < length ps → (get_or ps n x).number ≡ k → (n < i) ⊎ (i ≤ n) → ⊥
    other n x low q (inl a) = let less = ltb-true (get_or ps n x).number k (below n x (omega arith) a) in omega (arith, less, q)
    other n x low q (inr a) =
        let first = ltb-false (get_or ps i d).number k (above i d (omega arith) l) in
        let most = rises i n d a low in
        let same : (get_or ps n d).number ≡ (get_or ps n x).number = ap (λ (p : Pending). p.number) (get_or_default ps n d x low) in
        absurd (true≢false (sym (eq-eqb (get_or ps i d).number k (let z : (get_or ps i d).number ≡ k = omega (arith, first, most, same, q) in z)) ∙ e))

pub index_none : (k : ℕ) (ps : List Pending) (i : ℕ) → AllWithin (λ (p : Pending). nat_lt p.number k ≡ true) ps 0 i → length ps ≤ i → None ≡ position_from (λ p. p.number == k) 0 ps
index_none k ps i below past = sym (absent k 0 ps (λ n x low q. let less = ltb-true (get_or ps n x).number k (below n x (omega arith) (omega (arith, low, past))) in omega (arith, less, q)))
