-- A log without guards that nothing reads shows the same.
use Rattle.std.proofs.Common.{List, None, Option, Some, [], ap, arith, drop, get_or, inl, inr, length, map, nat_le, refl, reverse, subst, suc, sym, take, zero, ℕ, ◌&&◌, ◌++◌, ◌+◌, ◌<◌, ◌∙◌, ◌∷◌, ◌≡◌, ◌≤◌, ◌||◌}
use Rattle.std.proofs.lemmas.Bool.{cases_lt}
use Rattle.std.proofs.lemmas.List.{get_or_default}
use Rattle.std.proofs.lemmas.Option.{slice_get-get_or}
use Rattle.std.specs.Arc.{arc_value}
use Rattle.std.specs.List.{All, list_all, slice_get}
use Rattle.poly_design.specs.Layout.{Layout}
use Rattle.poly_design.specs.declared.change.Change.{Change}
use Rattle.poly_tiling.specs.Puzzle.{View}
use Rattle.poly_atom.specs.declared.atom.Atom.{Atom}
use Rattle.poly_atom.specs.Logs.{flat, forgotten}
use Rattle.poly_atom.proofs.Forgets.{drop-forgotten, is_stair-forgotten, length-forgotten, stair_of-forgotten}
use Rattle.poly_undo.specs.declared.step.Step.{Step as Beside}
use Rattle.poly_undo.specs.Steps.{Steps}
use Rattle.poly_tasks.specs.declared.maps.Maps.{Maps}
use Rattle.poly_tasks.specs.declared.register.Register.{Register}
use Rattle.poly_tasks.specs.declared.shelf.Frozen.{Frozen}
use Rattle.poly_tasks.specs.declared.shelf.Kept.{Kept}
use Rattle.poly_tasks.specs.declared.shelf.Shelf.{Shelf}
use Rattle.poly_book.specs.declared.step.Ending.{Ending}
use Rattle.poly_book.specs.declared.step.Step.{Step}
use Rattle.poly_tasks.specs.declared.task.Own.{Own}
use Rattle.poly_tasks.specs.declared.task.Own.TheVariants.{Crossed, Listed, Stair as OfStair}
use Rattle.poly_tasks.specs.declared.task.Pending.{Pending}
use Rattle.poly_book.specs.Keeps.{KeepsOf}
use Rattle.poly_tasks.specs.Mapped.{under}
use Rattle.poly_book.specs.Shown.{shown}
use Rattle.poly_tasks.specs.Meaning.{AreFrozen, AreHeldBy, AreTasks, IsFrozen, IsHeld, IsHeldBy, IsOwn, IsTask, frozen_of, own_of, stored_of, task_of, tasks_of, way_by, way_of, ways_of}
use Rattle.poly_tasks.specs.Needed.{AreKeptFrom, ArePendingFrom, IsFrozenFrom, IsKeptFrom, IsOwnFrom, IsShelfFrom, IsStepFrom, IsTaskFrom}
use Rattle.poly_book.specs.States.{State}
use Rattle.poly_tasks.specs.Stored.{Stored, Way}
use Rattle.poly_tasks.specs.Tasks.{AreAlive, AreSparing, Task}
use Rattle.poly_book.specs.Whole.{Whole}
use Rattle.poly_tasks.proofs.Basing.{all_head, all_tail, base_same, is_base_still}
use Rattle.poly_tasks.proofs.Holding.{map_reverse}
use Rattle.poly_tasks.proofs.Sparing.{spares_same}

-- what is read from no edition before e is read from no edition before an earlier one
own_earlier : (d e : ℕ) (o : Own) → d ≤ e → IsOwnFrom e o → IsOwnFrom d o
own_earlier d e (Listed v i) l h = tt
own_earlier d e (OfStair s) l h = omega (arith, l, h)
own_earlier d e (Crossed b s) l h = ((λ k x within. let m = h.0 k x within in omega (arith, l, m)), omega (arith, l, h.1))

pub task_earlier : (d e : ℕ) (o : Own) (made : ℕ) → d ≤ e → IsTaskFrom e o made → IsTaskFrom d o made
task_earlier d e o made l h = record { own_from = own_earlier d e o l h.own_from; made_from = let m = h.made_from in omega (arith, l, m) }

pub frozen_earlier : (d e : ℕ) (f : Frozen) → d ≤ e → IsFrozenFrom e f → IsFrozenFrom d f
frozen_earlier d e f l h = record { own_from = own_earlier d e f.own l h.own_from; made_from = λ some. let m = h.made_from some in omega (arith, l, m) }

shelf_earlier : (d e : ℕ) (h : Option Shelf) → d ≤ e → IsShelfFrom e h → IsShelfFrom d h
shelf_earlier d e None l h = tt
shelf_earlier d e (Some s) l h = λ k x within. frozen_earlier d e _ l (h k x within)

pub kept_earlier : (d e : ℕ) (k : Option Kept) → d ≤ e → IsKeptFrom e k → IsKeptFrom d k
kept_earlier d e None l h = tt
kept_earlier d e (Some k) l h = shelf_earlier d e k.shelf l h

-- the first i elements, and the one at i
pub first_more : {X : Type 0} (P Q : X → Type 0) (xs : List X) (i : ℕ) (d : X) → i < length xs → ((x : X) → P x → Q x) → ((k : ℕ) (b : X) → k < i → P (get_or xs k b)) → Q (get_or xs i d) → (k : ℕ) (b : X) → k < i + 1 → Q (get_or xs k b)
first_more P Q xs i d within on before here k b low =
    elim (cases_lt k i) [
      | inl less ↦ on (get_or xs k b) (before k b less)
      | inr more ↦
          let same : i ≡ k = omega (arith, more, low) in
          subst (λ j. Q (get_or xs j b)) same (subst Q (get_or_default xs i d b within) here)
    ]

pub step_at : (e : ℕ) (ss : List (Beside Change Kept)) (i : ℕ) (d : Beside Change Kept) (o : Option (Beside Change Kept)) → i < length ss → o ≡ slice_get ss i → IsStepFrom e o → IsKeptFrom e (get_or ss i d).kept
step_at e ss i d o within is h = subst (λ x. IsStepFrom e x) (is ∙ slice_get-get_or ss i d within) h

own_same : (e : ℕ) (log : List (List Atom)) (o : Own) → IsOwnFrom e o → own_of (forgotten e log) o ≡ own_of log o
own_same e log (Listed v i) h = refl
own_same e log (OfStair s) h = stair_of-forgotten e s log h
own_same e log (Crossed b s) h =
    let base = base_same e log (arc_value b) h.0 in
    let stair = stair_of-forgotten e s log h.1 in
    λ i. base i ++ stair i

is_own_still : (e : ℕ) (log : List (List Atom)) (o : Own) → IsOwnFrom e o → IsOwn log o → IsOwn (forgotten e log) o
is_own_still e log (Listed v i) h k = k
is_own_still e log (OfStair s) h k = is_stair-forgotten e s log h k
is_own_still e log (Crossed b s) h k = (is_base_still e log (arc_value b) h.0 k.0, is_stair-forgotten e s log h.1 k.1)

since_same : (e made : ℕ) (log : List (List Atom)) → e ≤ made → flat (drop made (forgotten e log)) ≡ flat (drop made log)
since_same e made log h = ap flat (drop-forgotten e made log h)

task_same : (e : ℕ) (log : List (List Atom)) (p : Pending) → IsTaskFrom e p.own p.made → task_of (forgotten e log) p ≡ task_of log p
task_same e log p h =
    let a = own_same e log p.own h.own_from in
    let b = since_same e p.made log h.made_from in
    λ i. let t : Task = record { number = p.number; own = a i; laid = b i } in t

is_task_still : (e : ℕ) (log : List (List Atom)) (p : Pending) → IsTaskFrom e p.own p.made → IsTask log p → IsTask (forgotten e log) p
is_task_still e log p h k = record {
  own = is_own_still e log p.own h.own_from k.own;
  made = let m = k.made in omega (arith, m, length-forgotten e log);
}

tasks_same : (e : ℕ) (log : List (List Atom)) (ps : List Pending) → ArePendingFrom e ps → tasks_of (forgotten e log) ps ≡ tasks_of log ps
tasks_same e log [] h = refl
tasks_same e log (p ∷ ps) h =
    let a = task_same e log p (all_head (λ q. IsTaskFrom e q.own q.made) p ps h) in
    let b = tasks_same e log ps (all_tail (λ q. IsTaskFrom e q.own q.made) p ps h) in
    λ i. a i ∷ b i

tasks_still : (e : ℕ) (log : List (List Atom)) (ps : List Pending) → ArePendingFrom e ps → AreTasks log ps → AreTasks (forgotten e log) ps
tasks_still e log [] h k = tt
tasks_still e log (p ∷ ps) h k = (is_task_still e log p (all_head (λ q. IsTaskFrom e q.own q.made) p ps h) k.0, tasks_still e log ps (all_tail (λ q. IsTaskFrom e q.own q.made) p ps h) k.1)

noted_same : (e b : ℕ) (m : Maps) (log : List (List Atom)) (ps : List Pending) → ArePendingFrom e ps →
    list_all (λ p. nat_le b p.number || list_all (λ a. under m a p.number) (own_of (forgotten e log) p.own)) ps ≡ list_all (λ p. nat_le b p.number || list_all (λ a. under m a p.number) (own_of log p.own)) ps
noted_same e b m log [] h = refl
noted_same e b m log (p ∷ ps) h =
    let a = own_same e log p.own (all_head (λ q. IsTaskFrom e q.own q.made) p ps h).own_from in
    let rest = noted_same e b m log ps (all_tail (λ q. IsTaskFrom e q.own q.made) p ps h) in
    λ i. (nat_le b p.number || list_all (λ x. under m x p.number) (a i)) && rest i

taken_same : (n e made : ℕ) (log : List (List Atom)) → (0 < n → e ≤ made) → take n (flat (drop made (forgotten e log))) ≡ take n (flat (drop made log))
taken_same zero e made log h = refl
taken_same (suc n) e made log h = ap (λ bs. take (suc n) bs) (since_same e made log (h (omega arith)))

count_still : (n e made : ℕ) (log : List (List Atom)) → (0 < n → e ≤ made) → n ≤ length (flat (drop made log)) → n ≤ length (flat (drop made (forgotten e log)))
count_still zero e made log h k = omega arith
count_still (suc n) e made log h k = omega (arith, k, ap length (since_same e made log (h (omega arith))))

frozen_same : (e : ℕ) (log : List (List Atom)) (f : Frozen) → IsFrozenFrom e f → frozen_of (forgotten e log) f ≡ frozen_of log f
frozen_same e log f h =
    let a = own_same e log f.own h.own_from in
    let b = taken_same f.count e f.made log h.made_from in
    λ i. a i ++ b i

is_frozen_still : (e : ℕ) (log : List (List Atom)) (f : Frozen) → IsFrozenFrom e f → IsFrozen log f → IsFrozen (forgotten e log) f
is_frozen_still e log f h k = record {
  own = is_own_still e log f.own h.own_from k.own;
  made = let m = k.made in omega (arith, m, length-forgotten e log);
  count = count_still f.count e f.made log h.made_from k.count;
  spares = spares_same (own_of log f.own) (frozen_of log f) (own_of (forgotten e log) f.own) (frozen_of (forgotten e log) f) (sym (own_same e log f.own h.own_from)) (sym (frozen_same e log f h)) k.spares;
}

all_frozen_same : (e : ℕ) (log : List (List Atom)) (fs : List Frozen) → All (λ f. IsFrozenFrom e f) fs → map (λ f. frozen_of (forgotten e log) f) fs ≡ map (λ f. frozen_of log f) fs
all_frozen_same e log [] h = refl
all_frozen_same e log (f ∷ fs) h =
    let a = frozen_same e log f (all_head (λ g. IsFrozenFrom e g) f fs h) in
    let b = all_frozen_same e log fs (all_tail (λ g. IsFrozenFrom e g) f fs h) in
    λ i. a i ∷ b i

are_frozen_still : (e : ℕ) (log : List (List Atom)) (fs : List Frozen) → All (λ f. IsFrozenFrom e f) fs → AreFrozen log fs → AreFrozen (forgotten e log) fs
are_frozen_still e log [] h k = tt
are_frozen_still e log (f ∷ fs) h k = (is_frozen_still e log f (all_head (λ g. IsFrozenFrom e g) f fs h) k.0, are_frozen_still e log fs (all_tail (λ g. IsFrozenFrom e g) f fs h) k.1)

stored_same : (e : ℕ) (log : List (List Atom)) (h : Option Shelf) → IsShelfFrom e h → stored_of (forgotten e log) h ≡ stored_of log h
stored_same e log None k = refl
stored_same e log (Some h) k = let a = all_frozen_same e log h.frozen.items k in λ i. let s : Stored = record { taken = h.tilings.items; frozen = a i } in Some s

is_held_still : (e : ℕ) (log : List (List Atom)) (h : Option Shelf) → IsShelfFrom e h → IsHeld log h → IsHeld (forgotten e log) h
is_held_still e log None k l = tt
is_held_still e log (Some h) k l = are_frozen_still e log h.frozen.items k l

way_same : (e : ℕ) (log : List (List Atom)) (x : Change) (k : Option Kept) → IsKeptFrom e k → way_by (forgotten e log) x k ≡ way_by log x k
way_same e log x None h = refl
way_same e log x (Some k) h = let a = stored_same e log k.shelf h in λ i. let b : Way = record { change = x; made = k.made; shelf = a i } in b

held_by_still : (e : ℕ) (log : List (List Atom)) (k : Option Kept) → IsKeptFrom e k → IsHeldBy log k → IsHeldBy (forgotten e log) k
held_by_still e log None h l = tt
held_by_still e log (Some k) h l = is_held_still e log k.shelf h l

are_held_still : (e : ℕ) (log : List (List Atom)) (ss : List (Beside Change Kept)) → AreKeptFrom e ss → AreHeldBy log ss → AreHeldBy (forgotten e log) ss
are_held_still e log [] h l = tt
are_held_still e log (s ∷ ss) h l = (held_by_still e log s.kept (all_head (λ t. IsKeptFrom e t.kept) s ss h) l.0, are_held_still e log ss (all_tail (λ t. IsKeptFrom e t.kept) s ss h) l.1)

ways_back : (e : ℕ) (log : List (List Atom)) (ss : List (Beside Change Kept)) → AreKeptFrom e ss → map (λ s. way_of (forgotten e log) s) ss ≡ map (λ s. way_of log s) ss
ways_back e log [] h = refl
ways_back e log (s ∷ ss) h =
    let a = way_same e log s.change s.kept (all_head (λ t. IsKeptFrom e t.kept) s ss h) in
    let b = ways_back e log ss (all_tail (λ t. IsKeptFrom e t.kept) s ss h) in
    λ i. a i ∷ b i

ways_same : (e : ℕ) (log : List (List Atom)) (ss : List (Beside Change Kept)) → AreKeptFrom e ss → ways_of (forgotten e log) ss ≡ ways_of log ss
ways_same e log ss h = sym (map_reverse (λ s. way_of (forgotten e log) s) ss) ∙ ap (λ ws. reverse ws) (ways_back e log ss h) ∙ map_reverse (λ s. way_of log s) ss

-- if nothing is read from an edition before e, the fields show the same without the guards of these editions
pub shown_same : (e : ℕ) (o d : Layout) (v : View) (ls : List (List ℕ)) (log : List (List Atom)) (ps : List Pending) (n : ℕ) (h : Steps Change Kept) (ss : List Step) (es : List Ending) →
    ArePendingFrom e ps → AreKeptFrom e h.undo → AreKeptFrom e h.redo → shown o d v ls (forgotten e log) ps n h ss es ≡ shown o d v ls log ps n h ss es
shown_same e o d v ls log ps n h ss es p undo redo =
    let a = tasks_same e log ps p in
    let b = ways_same e log h.undo undo in
    let f = ways_same e log h.redo redo in
    λ i. let s : State = record { opened = o; design = d; view = v; listed = ls; pending = a i; next = n; back = b i; forth = f i; steps = reverse ss; endings = es } in s

-- what holds of the fields still holds
pub forgotten_keeps : {m : Register} {o d : Layout} {v t : View} {ls : List (List ℕ)} {log : List (List Atom)} {ps : List Pending} {n : ℕ} {h : Steps Change Kept} {ss : List Step} {es : List Ending} (e : ℕ) →
    KeepsOf m o d v t ls log ps n h ss es → ArePendingFrom e ps → AreKeptFrom e h.undo → AreKeptFrom e h.redo → KeepsOf m o d v t ls (forgotten e log) ps n h ss es
forgotten_keeps {m} {o} {d} {v} {t} {ls} {log} {ps} {n} {h} {ss} {es} e k p undo redo = record {
  whole = subst (λ s. Whole s) (sym (shown_same e o d v ls log ps n h ss es p undo redo)) k.whole;
  right = k.right;
  grown = k.grown;
  tasks = tasks_still e log ps p k.tasks;
  alive = subst (λ ts. AreAlive v ts) (sym (tasks_same e log ps p)) k.alive;
  sparing = subst (λ ts. AreSparing ts) (sym (tasks_same e log ps p)) k.sparing;
  mapped = noted_same e m.below m.maps log ps p ∙ k.mapped;
  below = k.below;
  log_length = length-forgotten e log ∙ k.log_length;
  few_steps = k.few_steps;
  few_tasks = k.few_tasks;
  numbered = k.numbered;
  held = (are_held_still e log h.undo undo k.held.0, are_held_still e log h.redo redo k.held.1);
  few_ways = k.few_ways;
}
