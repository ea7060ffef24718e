-- No pending task lacks a placement that its own atoms ask for: when it is made it isn't hopeless, and later guards lack only placements
-- that are new.
use Rattle.std.proofs.Common.{Bool, List, [], ap, append_assoc, arith, false, get_or, inl, inr, length, map, not, refl, subst, suc, sym, true, zero, ℕ, ◌&&◌, ◌++◌, ◌+◌, ◌<◌, ◌==◌, ◌∷◌, ◌≡◌, ◌||◌}
use Rattle.std.proofs.lemmas.Bool.{and_from, and_parts, both_ways, cond_both, eq-eqb, eqb-true, not-true, or_left, or_right, true≢false}
use Rattle.std.proofs.lemmas.List.{append-nil}
use Rattle.std.specs.List.{filter, list_all, list_any}
use Rattle.std.specs.Prelude.{nat_lt}
use Rattle.poly_tiling.specs.Lists.{mem}
use Rattle.poly_tiling.specs.Puzzle.{View, conflicts, count, is_piece, items, most}
use Rattle.poly_tiling.proofs.Lists.{In, all_in, any_from, any_none, filter_in, in_append_cases, in_mem, map_in, mem_in}
use Rattle.poly_atom.specs.declared.atom.Atom.{Atom}
use Rattle.poly_atom.specs.declared.atom.Atom.TheVariants.{AtLeast, AtMost, Has, Lacks}
use Rattle.poly_atom.specs.Guards.{guards, guards_fresh, guards_least, guards_most, guards_pins}
use Rattle.poly_atom.specs.Hopeless.{asked, base, hopeless, lacks, lost}
use Rattle.poly_atom.proofs.Bases.{asked_in}
use Rattle.poly_lists.specs.Words.{is_other}
use Rattle.poly_tasks.specs.declared.task.Pending.{Pending}
use Rattle.poly_tasks.specs.Meaning.{own_of, task_of, tasks_of}
use Rattle.poly_tasks.specs.Tasks.{AreAlive, AreSparing, Spares, Task, atoms_of, drop_task, hopeful, lay, tasks_from}
use Rattle.poly_tasks.proofs.Lacking.{by_beyond, by_lost, guards_others, lacks_of}

lacks_is : (a : Atom) (p : ℕ) → lacks a p ≡ true → a ≡ Lacks p
lacks_is (Has q) p h = absurd (true≢false (sym h))
lacks_is (Lacks q) p h = ap Lacks (eqb-true q p h)
lacks_is (AtLeast i n) p h = absurd (true≢false (sym h))
lacks_is (AtMost i n) p h = absurd (true≢false (sym h))

-- it is enough that no Lacks of B is about a placement that A asks for
spares_by : (A B : List Atom) → ((p : ℕ) → In p (asked A) → In (Lacks p) B → ⊥) → Spares A B
spares_by A B h p m = any_none (λ b. lacks b p) B (λ b i l. h p (mem_in (asked A) p m) (subst (λ x. In x B) (lacks_is b p l) i))

pub spared : (A B : List Atom) (p : ℕ) → Spares A B → In p (asked A) → In (Lacks p) B → ⊥
spared A B p h i j = both_ways (list_any (λ b. lacks b p) B) (h p (in_mem (asked A) p i)) (any_from (λ b. lacks b p) B (Lacks p) j (eq-eqb p p refl))

-- a list that isn't hopeless lacks nothing that it asks for
hopeful_spares : (v : View) (A : List Atom) → hopeless v A ≡ false → Spares A A
hopeful_spares v A alive = spares_by A A (λ p i j. both_ways (hopeless v A) alive (by_beyond v A A (Lacks p) refl j (or_right (mem v.pins p) (mem (asked A) p) (in_mem (asked A) p i))))

-- the guards of a change lack only new placements
lacks_new : (v w : View) (p : ℕ) → In (Lacks p) (guards v w) → not (mem v.live p) ≡ true
lacks_new v w p i =
    let rest = guards_least v w ++ (guards_most v w ++ guards_pins v w) in
    let new : ℕ → Bool = λ q. not (mem v.live q) in
    elim (in_append_cases (Lacks p) (guards_fresh v w) rest i) [
      | inl j ↦ let r = map_in (λ q. Lacks q) (filter new w.live) (Lacks p) j in (filter_in new w.live p (subst (λ q. In q (filter new w.live)) (ap lacks_of r.2) r.1)).1
      | inr j ↦ absurd (true≢false (sym (all_in is_other rest (guards_others v w) (Lacks p) j)))
    ]

-- a list that isn't hopeless before a change asks for none of them
guards_spare : (v w : View) (A : List Atom) → hopeless v A ≡ false → Spares A (guards v w)
guards_spare v w A alive = spares_by A (guards v w) (λ p i j. both_ways (hopeless v A) alive (by_lost v A A (Has p) refl (asked_in A p i) (gone p (lacks_new v w p j))))
  where
    gone : (p : ℕ) → not (mem v.live p) ≡ true → lost v A (Has p) ≡ true
    gone p h =
        or_left (not (mem v.live p) || list_any (λ q. conflicts v p q) (base v A)) (list_any (λ i. is_piece i && nat_lt (most v i) (count v (base v A) i)) (items v p))
        (or_left (not (mem v.live p)) (list_any (λ q. conflicts v p q) (base v A)) h)

spares_more : (A B C : List Atom) → Spares A B → Spares A C → Spares A (B ++ C)
spares_more A B C h k = spares_by A (B ++ C) (λ p i j. elim (in_append_cases (Lacks p) B C j) [
  | inl l ↦ spared A B p h i l
  | inr l ↦ spared A C p k i l
])

pub spares_same : (A B C D : List Atom) → A ≡ C → B ≡ D → Spares A B → Spares C D
spares_same A B C D e f h = subst (λ X. Spares X D) e (subst (λ X. Spares A X) f h)

pub all_filter : {X : Type 0} (f : X → Bool) (xs : List X) → list_all f (filter f xs) ≡ true
all_filter f [] = refl
all_filter f (x ∷ xs) = cond_both (f x) (x ∷ filter f xs) (filter f xs) (λ ys. list_all f ys ≡ true) (λ e. and_from (f x) (list_all f (filter f xs)) e (all_filter f xs)) (λ e. all_filter f xs)

laid_sparing : (v w : View) (ts : List Task) → AreAlive v ts → AreSparing ts → AreSparing (map (λ t. lay (guards v w) t) ts)
laid_sparing v w [] alive h = tt
laid_sparing v w (t ∷ ts) alive h =
    let hs = and_parts (not (hopeless v t.own)) (list_all (λ u. not (hopeless v u.own)) ts) alive in
    let more = spares_more t.own (atoms_of t) (guards v w) h.0 (guards_spare v w t.own (not-true (hopeless v t.own) hs.0)) in
    (subst (λ B. Spares t.own B) (append_assoc t.own t.laid (guards v w)) more, laid_sparing v w ts hs.1 h.1)

filter_sparing : (f : Task → Bool) (ts : List Task) → AreSparing ts → AreSparing (filter f ts)
filter_sparing f [] h = tt
filter_sparing f (t ∷ ts) h = cond_both (f t) (t ∷ filter f ts) (filter f ts) (λ us. AreSparing us) (λ e. (h.0, filter_sparing f ts h.1)) (λ e. filter_sparing f ts h.1)

append_sparing : (ts us : List Task) → AreSparing ts → AreSparing us → AreSparing (ts ++ us)
append_sparing [] us h k = k
append_sparing (t ∷ ts) us h k = (h.0, append_sparing ts us h.1 k)

from_sparing : (v : View) (n : ℕ) (As : List (List Atom)) → list_all (λ A. not (hopeless v A)) As ≡ true → AreSparing (tasks_from n As)
from_sparing v n [] h = tt
from_sparing v n (A ∷ As) h =
    let hs = and_parts (not (hopeless v A)) (list_all (λ B. not (hopeless v B)) As) h in
    (subst (λ B. Spares A B) (sym (append-nil A)) (hopeful_spares v A (not-true (hopeless v A) hs.0)), from_sparing v (n + 1) As hs.1)

-- new tasks aren't hopeless
pub fresh_sparing : (v : View) (n : ℕ) (As : List (List Atom)) → AreSparing (tasks_from n (hopeful v As))
fresh_sparing v n As = from_sparing v n (hopeful v As) (all_filter (λ A. not (hopeless v A)) As)

-- after a change, the tasks that go on have its guards, too
pub moved_sparing : (v w : View) (n : ℕ) (ts : List Task) (As : List (List Atom)) → AreAlive v ts → AreSparing ts →
    AreSparing (filter (λ t. not (hopeless w t.own)) (map (λ t. lay (guards v w) t) ts) ++ tasks_from n (hopeful w As))
moved_sparing v w n ts As alive h =
    let laid = map (λ t. lay (guards v w) t) ts in
    let stays : Task → Bool = λ t. not (hopeless w t.own) in
    append_sparing (filter stays laid) (tasks_from n (hopeful w As)) (filter_sparing stays laid (laid_sparing v w ts alive h)) (fresh_sparing w n As)

-- after a report, the task is replaced by new ones
pub cut_sparing : (v : View) (k n : ℕ) (ts : List Task) (As : List (List Atom)) → AreSparing ts → AreSparing (drop_task k ts ++ tasks_from n (hopeful v As))
cut_sparing v k n ts As h = append_sparing (drop_task k ts) (tasks_from n (hopeful v As)) (dropped k ts h) (fresh_sparing v n As)
  where
    dropped : (k : ℕ) (ts : List Task) → AreSparing ts → AreSparing (drop_task k ts)
    dropped k [] h = tt
    dropped k (t ∷ ts) h = cond_both (t.number == k) ts (t ∷ drop_task k ts) (λ us. AreSparing us) (λ e. h.1) (λ e. (h.0, dropped k ts h.1))

-- a task of the book
pub sparing_at : (log : List (List Atom)) (ps : List Pending) (i : ℕ) (d : Pending) → AreSparing (tasks_of log ps) → i < length ps → Spares (own_of log (get_or ps i d).own) (atoms_of (task_of log (get_or ps i d)))
sparing_at log [] i d h l = absurd (omega (arith, l))
sparing_at log (p ∷ ps) zero d h l = h.0
sparing_at log (p ∷ ps) (suc i) d h l = sparing_at log ps i d h.1 (omega (arith, l))
