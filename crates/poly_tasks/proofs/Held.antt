-- The pending tasks that a book's fields store, read as tasks of the definitions.
use Rattle.std.proofs.Common.{Bool, List, [], ap, append_assoc, arith, cond, drop, false, get_or, length, map, not, refl, subst, suc, sym, take, true, zero, ℕ, ◌++◌, ◌+◌, ◌<◌, ◌∙◌, ◌∷◌, ◌≡◌, ◌≤◌}
use Rattle.std.proofs.lemmas.Bool.{and_parts, cond_both, not-true}
use Rattle.std.proofs.lemmas.List.{append-nil, drop_all, drop_more, get_or_push, length-append, length_push}
use Rattle.std.specs.Arc.{arc_value}
use Rattle.std.specs.List.{filter, items_where_true, list_all}
use Rattle.poly_tiling.specs.Puzzle.{View}
use Rattle.poly_atom.specs.declared.atom.Atom.{Atom}
use Rattle.poly_atom.specs.declared.stair.Stair.{Stair}
use Rattle.poly_atom.specs.Atoms.{negated}
use Rattle.poly_atom.specs.Hopeless.{hopeless}
use Rattle.poly_atom.specs.Logs.{IsStairOf, flat, stair_of}
use Rattle.poly_atom.specs.Stairs.{stairs}
use Rattle.poly_atom.proofs.Walks.{is_stair_stays, length-stairs, stair_stays, stairs_at}
use Rattle.poly_tasks.specs.declared.task.Own.{Own}
use Rattle.poly_tasks.specs.declared.task.Own.TheVariants.{Crossed, Listed, Stair as OfStair}
use Rattle.poly_tasks.specs.declared.task.Pending.{Pending}
use Rattle.poly_tasks.specs.Tasks.{AreHopeful, Task, hopeful, lay, tasks_from}
use Rattle.poly_tasks.specs.Meaning.{AreTasks, IsOwn, IsTask, own_of, task_of, tasks_of}
use Rattle.poly_tasks.specs.Opens.{Opening, Opens}
use Rattle.poly_tasks.proofs.Basing.{base_push, flat_none, is_base_push, since_push}

pub own_push : (log : List (List Atom)) (g : List Atom) (o : Own) → IsOwn log o → own_of (log ++ g ∷ []) o ≡ own_of log o
own_push log g (Listed v i) h = refl
own_push log g (OfStair s) h = stair_stays log g s h.edition_in
own_push log g (Crossed b s) h =
    let base = base_push log g (arc_value b) h.0 in
    let stair = stair_stays log g s h.1.edition_in in
    λ i. base i ++ stair i

pub is_own_push : (log : List (List Atom)) (g : List Atom) (o : Own) → IsOwn log o → IsOwn (log ++ g ∷ []) o
is_own_push log g (Listed v i) h = h
is_own_push log g (OfStair s) h = is_stair_stays log g s h
is_own_push log g (Crossed b s) h = (is_base_push log g (arc_value b) h.0, is_stair_stays log g s h.1)

task_push : (log : List (List Atom)) (g : List Atom) (p : Pending) → IsTask log p → task_of (log ++ g ∷ []) p ≡ lay g (task_of log p)
task_push log g p h =
    let a = own_push log g p.own h.own in
    let b = since_push p.made log g h.made in
    λ i. let t : Task = record { number = p.number; own = a i; laid = b i } in t

is_task_push : (log : List (List Atom)) (g : List Atom) (p : Pending) → IsTask log p → IsTask (log ++ g ∷ []) p
is_task_push log g p h = record { own = is_own_push log g p.own h.own; made = let m = h.made in omega (arith, length_push log g) }

kept_one : (log : List (List Atom)) (p : Pending) (xs : List Pending) (t : Task) (ts : List Task) (b : Bool) → task_of log p ≡ t → tasks_of log xs ≡ ts → tasks_of log (cond b (p ∷ xs) xs) ≡ cond b (t ∷ ts) ts
kept_one log p xs t ts true e f = cc
kept_one log p xs t ts false e f = f

-- read with the log after one more change, the tasks that go on are the same tasks with the guards of the change added
pub kept_tasks : (w : View) (log : List (List Atom)) (g : List Atom) (ps : List Pending) → AreTasks log ps →
    tasks_of (log ++ g ∷ []) (filter (λ p. not (hopeless w (own_of log p.own))) ps) ≡ filter (λ t. not (hopeless w t.own)) (map (λ t. lay g t) (tasks_of log ps))
kept_tasks w log g [] h = refl
kept_tasks w log g (p ∷ ps) h = kept_one (log ++ g ∷ []) p _ _ _ (not (hopeless w (own_of log p.own))) (task_push log g p h.0) (kept_tasks w log g ps h.1)

pub tasks_push : (log : List (List Atom)) (g : List Atom) (ps : List Pending) → AreTasks log ps → AreTasks (log ++ g ∷ []) ps
tasks_push log g [] h = tt
tasks_push log g (p ∷ ps) h = (is_task_push log g p h.0, tasks_push log g ps h.1)

pub tasks_filter : (log : List (List Atom)) (f : Pending → Bool) (ps : List Pending) → AreTasks log ps → AreTasks log (filter f ps)
tasks_filter log f [] h = tt
tasks_filter log f (p ∷ ps) h = cond_both (f p) (p ∷ filter f ps) (filter f ps) (λ xs. AreTasks log xs) (λ e. (h.0, tasks_filter log f ps h.1)) (λ e. tasks_filter log f ps h.1)

pub are_append : (log : List (List Atom)) (ps qs : List Pending) → AreTasks log ps → AreTasks log qs → AreTasks log (ps ++ qs)
are_append log [] qs h k = k
are_append log (p ∷ ps) qs h k = (h.0, are_append log ps qs h.1 k)

pub tasks_append : (log : List (List Atom)) (ps qs : List Pending) → tasks_of log (ps ++ qs) ≡ tasks_of log ps ++ tasks_of log qs
tasks_append log [] qs = refl
tasks_append log (p ∷ ps) qs = ap (λ ts. task_of log p ∷ ts) (tasks_append log ps qs)

pub task_at : (log : List (List Atom)) (ps : List Pending) (i : ℕ) (d : Pending) → AreTasks log ps → i < length ps → IsTask log (get_or ps i d)
task_at log [] i d h l = absurd (omega (arith, l))
task_at log (p ∷ ps) zero d h l = h.0
task_at log (p ∷ ps) (suc i) d h l = task_at log ps i d h.1 (omega (arith, l))

picked_one : {X : Type 0} (x : X) (xs ys : List X) (bs : List Bool) (b : Bool) → items_where_true bs xs ≡ ys → items_where_true (b ∷ bs) (x ∷ xs) ≡ cond b (x ∷ ys) ys
picked_one x xs ys bs true e = ap (λ l. x ∷ l) e
picked_one x xs ys bs false e = e

pub picked_filter : {X : Type 0} (f : X → Bool) (xs : List X) → items_where_true (map f xs) xs ≡ filter f xs
picked_filter f [] = refl
picked_filter f (x ∷ xs) = picked_one x xs (filter f xs) (map f xs) (f x) (picked_filter f xs)

length_from : (n : ℕ) (As : List (List Atom)) → length (tasks_from n As) ≡ length As
length_from n [] = refl
length_from n (A ∷ As) = omega (arith, length_from (n + 1) As)

pub length_of : (log : List (List Atom)) (ps : List Pending) → length (tasks_of log ps) ≡ length ps
length_of log [] = refl
length_of log (p ∷ ps) = omega (arith, length_of log ps)

pub opened_length : (log : List (List Atom)) (n : ℕ) (w : View) (all : List (List Atom)) (ps : List Pending) → Opens log n w all ps → length ps ≡ length (hopeful w all)
opened_length log n w all ps o = sym (length_of log ps) ∙ ap length o.tasks ∙ length_from n (hopeful w all)

pub opening_start : (log : List (List Atom)) (next : ℕ) (w : View) (all : List (List Atom)) → Opening log next next w all all []
opening_start log next w all = record { are = tt; tasks = refl }

pub opening_skip : (log : List (List Atom)) (next n : ℕ) (w : View) (all rest : List (List Atom)) (A : List Atom) (ps : List Pending) → hopeless w A ≡ true → Opening log next n w all (A ∷ rest) ps → Opening log next n w all rest ps
opening_skip log next n w all rest A ps h o = record {
  are = o.are;
  tasks = subst (λ B. tasks_of log ps ++ tasks_from n B ≡ tasks_from next (hopeful w all)) (ap (λ b. cond (not b) (A ∷ hopeful w rest) (hopeful w rest)) h) o.tasks;
}

pub opening_more : (log : List (List Atom)) (next n : ℕ) (w : View) (all rest : List (List Atom)) (A : List Atom) (ps : List Pending) (p : Pending) → hopeless w A ≡ false → p.number ≡ n → own_of log p.own ≡ A → IsOwn log p.own → p.made ≡ length log →
    Opening log next n w all (A ∷ rest) ps → Opening log next (n + 1) w all rest (ps ++ p ∷ [])
opening_more log next n w all rest A ps p h number own is made o =
    let tail = tasks_from (n + 1) (hopeful w rest) in
    let t : Task = record { number = n; own = A; laid = [] } in
    let none : flat (drop p.made log) ≡ [] = flat_none p.made log (omega (arith, made)) in
    let one : task_of log p ≡ t = λ i. let u : Task = record { number = number i; own = own i; laid = none i } in u in
    let k : hopeful w (A ∷ rest) ≡ A ∷ hopeful w rest = ap (λ b. cond (not b) (A ∷ hopeful w rest) (hopeful w rest)) h in
    let x : tasks_of log (ps ++ p ∷ []) ++ tail ≡ (tasks_of log ps ++ task_of log p ∷ []) ++ tail = ap (λ z. z ++ tail) (tasks_append log ps (p ∷ [])) in
    let y : (tasks_of log ps ++ task_of log p ∷ []) ++ tail ≡ tasks_of log ps ++ task_of log p ∷ tail = append_assoc (tasks_of log ps) (task_of log p ∷ []) tail in
    let z : tasks_of log ps ++ task_of log p ∷ tail ≡ tasks_of log ps ++ tasks_from n (hopeful w (A ∷ rest)) = ap (λ u. tasks_of log ps ++ u ∷ tail) one ∙ ap (λ B. tasks_of log ps ++ tasks_from n B) (sym k) in
    record {
      are = are_append log ps (p ∷ []) o.are (record { own = is; made = omega (arith, made) }, tt);
      tasks = x ∙ y ∙ z ∙ o.tasks;
    }

pub opening_end : (log : List (List Atom)) (next n : ℕ) (w : View) (all rest : List (List Atom)) (ps : List Pending) → rest ≡ [] → Opening log next n w all rest ps → Opens log next w all ps
opening_end log next n w all rest ps e o = record {
  are = o.are;
  tasks = sym (append-nil (tasks_of log ps)) ∙ ap (λ r. tasks_of log ps ++ tasks_from n (hopeful w r)) (sym e) ∙ o.tasks;
}

-- if the next number is over 4,294,967,295 and the next list isn't hopeless, there are too few numbers for the lists
pub opening_over : (log : List (List Atom)) (next n : ℕ) (w : View) (all rest : List (List Atom)) (A : List Atom) (ps : List Pending) → hopeless w A ≡ false → Opening log next n w all (A ∷ rest) ps → next + length ps ≡ n → 4294967295 < n →
    4294967296 < next + length (hopeful w all)
opening_over log next n w all rest A ps h o number high =
    let k : hopeful w (A ∷ rest) ≡ A ∷ hopeful w rest = ap (λ b. cond (not b) (A ∷ hopeful w rest) (hopeful w rest)) h in
    let tail = tasks_from n (hopeful w (A ∷ rest)) in
    omega (
      arith,
      number,
      high,
      ap length o.tasks,
      length-append (tasks_of log ps) tail,
      length_of log ps,
      length_from n (hopeful w (A ∷ rest)),
      length_from next (hopeful w all),
      ap length k,
    )

-- the stairs from an index on
abbrev pub stairs_from : List Atom → ℕ → List (List Atom)
stairs_from gs j = drop j (stairs gs)

pub stairs_next : (gs : List Atom) (j : ℕ) (d : Atom) → j < length gs → stairs_from gs j ≡ (take j gs ++ negated (get_or gs j d) ∷ []) ∷ stairs_from gs (j + 1)
stairs_next gs j d h = drop_more (stairs gs) j [] (omega (arith, length-stairs gs)) ∙ ap (λ A. A ∷ drop (j + 1) (stairs gs)) (stairs_at gs j d h)

pub stairs_end : (gs : List Atom) (j : ℕ) → length gs ≤ j → stairs_from gs j ≡ []
stairs_end gs j h = drop_all j (stairs gs) (omega (arith, length-stairs gs))

log_last : (log : List (List Atom)) (g : List Atom) (e : ℕ) → length log ≡ e → get_or (log ++ g ∷ []) e [] ≡ g
log_last log g e h = get_or_push log g [] e h

pub stairs_skip : (log : List (List Atom)) (g : List Atom) (next n : ℕ) (w : View) (j : ℕ) (d : Atom) (A : List Atom) (ps : List Pending) → j < length g → A ≡ take j g ++ negated (get_or g j d) ∷ [] → hopeless w A ≡ true →
    Opening (log ++ g ∷ []) next n w (stairs g) (stairs_from g j) ps → Opening (log ++ g ∷ []) next n w (stairs g) (stairs_from g (j + 1)) ps
stairs_skip log g next n w j d A ps l e h o =
    opening_skip (log ++ g ∷ []) next n w (stairs g) (stairs_from g (j + 1)) A ps h
    (subst (λ r. Opening (log ++ g ∷ []) next n w (stairs g) r ps) (stairs_next g j d l ∙ ap (λ B. B ∷ stairs_from g (j + 1)) (sym e)) o)

pub stairs_more : (log : List (List Atom)) (g : List Atom) (next n : ℕ) (w : View) (j e : ℕ) (d : Atom) (A : List Atom) (ps : List Pending) → length log ≡ e → j < length g → A ≡ take j g ++ negated (get_or g j d) ∷ [] → hopeless w A ≡ false →
    Opening (log ++ g ∷ []) next n w (stairs g) (stairs_from g j) ps →
    Opening (log ++ g ∷ []) next (n + 1) w (stairs g) (stairs_from g (j + 1)) (ps ++ record { number = n; own = OfStair (record { edition = e; index = j }); made = e + 1 } ∷ [])
stairs_more log g next n w j e d A ps le l is h o =
    let s : Stair = record { edition = e; index = j } in
    let last = log_last log g e le in
    let p : Pending = record { number = n; own = OfStair s; made = e + 1 } in
    let own : stair_of (log ++ g ∷ []) s ≡ A = ap (λ x. get_or (stairs x) j []) last ∙ stairs_at g j d l ∙ sym is in
    let there : IsStairOf (log ++ g ∷ []) s = record {
      edition_in = omega (arith, length_push log g, le);
      index_in = subst (λ x. j < length x) (sym last) l;
    } in
    opening_more (log ++ g ∷ []) next n w (stairs g) (stairs_from g (j + 1)) A ps p h refl own there (omega (arith, length_push log g, le))
    (subst (λ r. Opening (log ++ g ∷ []) next n w (stairs g) r ps) (stairs_next g j d l ∙ ap (λ B. B ∷ stairs_from g (j + 1)) (sym is)) o)

-- the stairs that follow a base, from an index on
abbrev pub crossed_from : List Atom → List Atom → ℕ → List (List Atom) → List (List Atom)
crossed_from base gs j rest = map (λ B. base ++ B) (stairs_from gs j) ++ rest

-- an element of a list that has one
pub some_of : {X : Type 0} (xs : List X) (i : ℕ) → i < length xs → X
some_of [] i l = absurd (omega (arith, l))
some_of (x ∷ xs) i l = x

-- if none of the lists is hopeless, the first isn't, and none of the others is
pub first_hopeful : (v : View) (A : List Atom) (As : List (List Atom)) → AreHopeful v (A ∷ As) → (hopeless v A ≡ false) × AreHopeful v As
first_hopeful v A As h = let hs = and_parts (not (hopeless v A)) (list_all (λ B. not (hopeless v B)) As) h in (not-true _ hs.0, hs.1)
