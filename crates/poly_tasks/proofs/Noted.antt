-- Which tasks the maps have noted after tasks end, after new ones are opened, and after the register catches up.
use Rattle.std.proofs.Common.{Bool, List, [], ap, arith, drop, eqb, false, inl, inr, length, nat_lt, refl, suc, sym, take, true, zero, ℕ, ◌+◌, ◌++◌, ◌-◌, ◌||◌, ◌∙◌, ◌∷◌, ◌≡◌, ◌≤◌}
use Rattle.std.proofs.lemmas.Bool.Decides.{leb_tells}
use Rattle.std.proofs.lemmas.Bool.{and_from, and_parts, eq-eqb, or_cases, or_left, or_right, true≢false}
use Rattle.std.specs.List.{AllWithin, items_where_true, list_all}
use Rattle.std.specs.Prelude.{nat_le}
use Rattle.poly_tiling.proofs.Lists.{all_append, all_from, all_in, any_from}
use Rattle.poly_atom.specs.declared.atom.Atom.{Atom}
use Rattle.poly_tasks.specs.declared.maps.Maps.{Maps}
use Rattle.poly_tasks.specs.declared.task.Pending.{Pending}
use Rattle.poly_tasks.specs.Mapped.{AreNoted, AreNotedBelow, IsWider, KeepsPending, under}
use Rattle.poly_tasks.specs.Meaning.{AreTasks, own_of, task_of, tasks_of}
use Rattle.poly_tasks.specs.Tasks.{Task, tasks_from}
use Rattle.poly_tasks.proofs.Halving.{not_from_below}
use Rattle.poly_tasks.proofs.Held.{own_push}
use Rattle.poly_tasks.proofs.Mapping.{all_imply, wide_atoms}

all_take : {X : Type 0} (f : X → Bool) (n : ℕ) (xs : List X) → list_all f xs ≡ true → list_all f (take n xs) ≡ true
all_take f zero xs h = refl
all_take f (suc n) [] h = refl
all_take f (suc n) (x ∷ xs) h = let hs = and_parts (f x) (list_all f xs) h in and_from (f x) (list_all f (take n xs)) hs.0 (all_take f n xs hs.1)

all_drop : {X : Type 0} (f : X → Bool) (n : ℕ) (xs : List X) → list_all f xs ≡ true → list_all f (drop n xs) ≡ true
all_drop f zero xs h = h
all_drop f (suc n) [] h = refl
all_drop f (suc n) (x ∷ xs) h = let hs = and_parts (f x) (list_all f xs) h in all_drop f n xs hs.1

pub all_picked : {X : Type 0} (f : X → Bool) (bs : List Bool) (xs : List X) → list_all f xs ≡ true → list_all f (items_where_true bs xs) ≡ true
all_picked f [] xs h = refl
all_picked f (b ∷ bs) [] h = refl
all_picked f (true ∷ bs) (x ∷ xs) h = let hs = and_parts (f x) (list_all f xs) h in and_from (f x) (list_all f (items_where_true bs xs)) hs.0 (all_picked f bs xs hs.1)
all_picked f (false ∷ bs) (x ∷ xs) h = let hs = and_parts (f x) (list_all f xs) h in all_picked f bs xs hs.1

abbrev pub has_all : Maps → List (List Atom) → Pending → Bool
has_all m log p = list_all (λ a. under m a p.number) (own_of log p.own)

abbrev pub has_below : ℕ → Maps → List (List Atom) → Pending → Bool
has_below b m log p = nat_le b p.number || has_all m log p

pub below_append : (b : ℕ) (m : Maps) (log : List (List Atom)) (ps qs : List Pending) → AreNotedBelow b m log ps → AreNotedBelow b m log qs → AreNotedBelow b m log (ps ++ qs)
below_append b m log ps qs h k = all_append (has_below b m log) ps qs ∙ and_from (list_all (has_below b m log) ps) (list_all (has_below b m log) qs) h k

-- the tasks below b are still noted after the task at an index is removed
pub below_left : (b : ℕ) (m : Maps) (log : List (List Atom)) (i : ℕ) (ps : List Pending) → AreNotedBelow b m log ps → AreNotedBelow b m log (take i ps ++ drop (suc i) ps)
below_left b m log i ps h = below_append b m log (take i ps) (drop (suc i) ps) (all_take (has_below b m log) i ps h) (all_drop (has_below b m log) (suc i) ps h)

-- one more change doesn't alter the own atoms of a task, so the tasks below b are still noted
pub below_push : (b : ℕ) (m : Maps) (log : List (List Atom)) (g : List Atom) (ps : List Pending) → AreTasks log ps → AreNotedBelow b m log ps → AreNotedBelow b m (log ++ g ∷ []) ps
below_push b m log g [] are h = refl
below_push b m log g (p ∷ ps) are h =
    let hs = and_parts (has_below b m log p) (list_all (has_below b m log) ps) h in
    let one : has_below b m (log ++ g ∷ []) p ≡ true = ap (λ A. nat_le b p.number || list_all (λ a. under m a p.number) A) (own_push log g p.own are.0.own) ∙ hs.0 in
    and_from (has_below b m (log ++ g ∷ []) p) (list_all (has_below b m (log ++ g ∷ [])) ps) one (below_push b m log g ps are.1 hs.1)

low_true : (m n : ℕ) → m ≤ n → nat_le m n ≡ true
low_true m n h = elim (leb_tells m n) [ inl p ↦ p.0 | inr p ↦ absurd (omega (arith, h, p.1)) ]

-- new tasks needn't be noted, since their numbers aren't below b
pub below_fresh : (b n : ℕ) (m : Maps) (log : List (List Atom)) (ps : List Pending) (As : List (List Atom)) → b ≤ n → tasks_of log ps ≡ tasks_from n As → AreNotedBelow b m log ps
below_fresh b n m log [] As l e = refl
below_fresh b n m log (p ∷ ps) [] l e = absurd (cc)
below_fresh b n m log (p ∷ ps) (A ∷ As) l e =
    let first : task_of log p ≡ (let t : Task = record { number = n; own = A; laid = [] } in t) = cc in
    let rest : tasks_of log ps ≡ tasks_from (n + 1) As = cc in
    let number : p.number ≡ n = ap (λ (t : Task). t.number) first in
    and_from (has_below b m log p) (list_all (has_below b m log) ps) (or_left (nat_le b p.number) (has_all m log p) (low_true b p.number (omega (arith, l, number))))
    (below_fresh b (n + 1) m log ps As (omega (arith, l)) rest)

-- if all tasks are noted, those below any number are
pub noted_below : (b : ℕ) (m : Maps) (log : List (List Atom)) (ps : List Pending) → AreNoted m log ps → AreNotedBelow b m log ps
noted_below b m log ps h = all_imply (has_all m log) (has_below b m log) ps (λ p e. or_right (nat_le b p.number) (has_all m log p) e) h

-- if what is noted for pending tasks stays noted, the tasks below a number stay noted
pub below_kept : (b : ℕ) (m m2 : Maps) (log : List (List Atom)) (ps : List Pending) → KeepsPending ps m m2 → AreNotedBelow b m log ps → AreNotedBelow b m2 log ps
below_kept b m m2 log ps keeps h =
    all_from (has_below b m2 log) ps (λ p i.
    elim (or_cases (nat_le b p.number) (has_all m log p) (all_in (has_below b m log) ps h p i)) [
      | inl e ↦ or_left (nat_le b p.number) (has_all m2 log p) e
      | inr e ↦ or_right (nat_le b p.number) (has_all m2 log p)
          (all_imply (λ a. under m a p.number) (λ a. under m2 a p.number) (own_of log p.own)
          (λ a f. keeps a p.number (any_from (λ (q : Pending). eqb q.number p.number) ps p i (eq-eqb p.number p.number refl)) f) e)
    ])

pub below_wide : (b : ℕ) (m m2 : Maps) (log : List (List Atom)) (ps : List Pending) → IsWider m m2 → AreNotedBelow b m log ps → AreNotedBelow b m2 log ps
below_wide b m m2 log ps wider h = below_kept b m m2 log ps (λ a n is e. wider a n e) h

-- if the tasks below b are noted, and so are the tasks after them, all tasks are noted
pub caught_up : (b : ℕ) (m m2 : Maps) (log : List (List Atom)) (ps : List Pending) (i : ℕ) → IsWider m m2 → AllWithin (λ (p : Pending). nat_lt p.number b ≡ true) ps 0 i → AreNotedBelow b m log ps → AreNoted m2 log (drop i ps) → AreNoted m2 log ps
caught_up b m m2 log [] i wider low h k = refl
caught_up b m m2 log (p ∷ ps) zero wider low h k = k
caught_up b m m2 log (p ∷ ps) (suc i) wider low h k =
    let hs = and_parts (has_below b m log p) (list_all (has_below b m log) ps) h in
    let one : has_all m2 log p ≡ true = elim (or_cases (nat_le b p.number) (has_all m log p) hs.0) [
      | inl e ↦ absurd (true≢false (sym e ∙ not_from_below b p.number (low zero p (omega arith) (omega arith))))
      | inr e ↦ wide_atoms m m2 p.number (own_of log p.own) wider e
    ] in
    and_from (has_all m2 log p) (list_all (has_all m2 log) ps) one
    (caught_up b m m2 log ps i wider (λ j d a z. low (suc j) d (omega arith) (omega (arith, z))) hs.1 k)

pub tasks_drop : (log : List (List Atom)) (i : ℕ) (ps : List Pending) → AreTasks log ps → AreTasks log (drop i ps)
tasks_drop log zero ps h = h
tasks_drop log (suc i) [] h = tt
tasks_drop log (suc i) (p ∷ ps) h = tasks_drop log i ps h.1

take_whole : {X : Type 0} (xs : List X) → take (length xs) xs ≡ xs
take_whole [] = refl
take_whole {X} (x ∷ xs) = ap {B = List X} (λ ys. x ∷ ys) (take_whole xs)

pub rest_is : {X : Type 0} (i : ℕ) (xs : List X) → take (length xs - i) (drop i xs) ≡ drop i xs
rest_is zero xs = ap (λ n. take n xs) (let z : length xs - 0 ≡ length xs = omega arith in z) ∙ take_whole xs
rest_is {X} (suc i) [] = ap {B = List X} (λ n. take n []) (let z : 0 - suc i ≡ 0 = omega arith in z)
rest_is {X} (suc i) (x ∷ xs) = ap {B = List X} (λ n. take n (drop i xs)) (let z : suc (length xs) - suc i ≡ length xs - i = omega arith in z) ∙ rest_is i xs
