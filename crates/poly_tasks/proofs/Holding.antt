-- What a history keeps is read from the guard log. As the log grows, it reads the same.
use Rattle.std.proofs.Common.{List, None, Option, Some, [], ap, arith, drop, get_or, length, map, refl, reverse, subst, suc, sym, take, zero, ℕ, ◌++◌, ◌+◌, ◌-◌, ◌<◌, ◌∙◌, ◌∷◌, ◌≡◌}
use Rattle.std.proofs.lemmas.List.{drop_more, length-append, length-map, length_push, reverse-append, take-append-le, take_more}
use Rattle.poly_design.specs.declared.change.Change.{Change}
use Rattle.poly_tiling.specs.Puzzle.{View}
use Rattle.poly_atom.specs.declared.atom.Atom.{Atom}
use Rattle.poly_atom.specs.Logs.{flat}
use Rattle.poly_atom.specs.Stairs.{stairs}
use Rattle.poly_undo.specs.declared.step.Step.{Step as Beside}
use Rattle.poly_undo.specs.Steps.{Moves, next_of, newest}
use Rattle.poly_undo.proofs.Turns.{next_of_ends}
use Rattle.poly_tasks.specs.declared.shelf.Frozen.{Frozen}
use Rattle.poly_tasks.specs.declared.shelf.Kept.{Kept}
use Rattle.poly_tasks.specs.declared.shelf.Shelf.{Shelf}
use Rattle.poly_tasks.specs.Meaning.{AreFrozen, AreHeldBy, IsFrozen, IsHeld, IsHeldAt, IsHeldBy, frozen_of, own_of, stored_of, task_of, tasks_of, way_by, way_of, ways_of}
use Rattle.poly_tasks.specs.Opens.{Opens}
use Rattle.poly_tasks.specs.Shelves.{crossed}
use Rattle.poly_tasks.specs.Stored.{Stored, Way}
use Rattle.poly_tasks.specs.Tasks.{atoms_of, hopeful, tasks_from}
use Rattle.poly_tasks.specs.declared.task.Pending.{Pending}
use Rattle.poly_tasks.proofs.Basing.{since_push}
use Rattle.poly_tasks.proofs.Held.{is_own_push, own_push, tasks_append}
use Rattle.poly_tasks.proofs.Sparing.{spares_same}

frozen_push : (log : List (List Atom)) (g : List Atom) (f : Frozen) → IsFrozen log f → frozen_of (log ++ g ∷ []) f ≡ frozen_of log f
frozen_push log g f h =
    let since : take f.count (flat (drop f.made (log ++ g ∷ []))) ≡ take f.count (flat (drop f.made log)) = ap (λ bs. take f.count bs) (since_push f.made log g h.made) ∙ take-append-le f.count (flat (drop f.made log)) g h.count in
    let own = own_push log g f.own h.own in
    λ i. own i ++ since i

is_frozen_push : (log : List (List Atom)) (g : List Atom) (f : Frozen) → IsFrozen log f → IsFrozen (log ++ g ∷ []) f
is_frozen_push log g f h = record {
  own = is_own_push log g f.own h.own;
  made = let m = h.made in omega (arith, m, length_push log g);
  count = let m = h.count in omega (arith, m, ap length (since_push f.made log g h.made), length-append (flat (drop f.made log)) g);
  spares = spares_same (own_of log f.own) (frozen_of log f) (own_of (log ++ g ∷ []) f.own) (frozen_of (log ++ g ∷ []) f) (sym (own_push log g f.own h.own)) (sym (frozen_push log g f h)) h.spares;
}

all_frozen_push : (log : List (List Atom)) (g : List Atom) (fs : List Frozen) → AreFrozen log fs → map (λ f. frozen_of (log ++ g ∷ []) f) fs ≡ map (λ f. frozen_of log f) fs
all_frozen_push log g [] h = refl
all_frozen_push log g (f ∷ fs) h = let a = frozen_push log g f h.0 in let b = all_frozen_push log g fs h.1 in λ i. a i ∷ b i

are_frozen_push : (log : List (List Atom)) (g : List Atom) (fs : List Frozen) → AreFrozen log fs → AreFrozen (log ++ g ∷ []) fs
are_frozen_push log g [] h = tt
are_frozen_push log g (f ∷ fs) h = (is_frozen_push log g f h.0, are_frozen_push log g fs h.1)

pub stored_push : (log : List (List Atom)) (g : List Atom) (h : Option Shelf) → IsHeld log h → stored_of (log ++ g ∷ []) h ≡ stored_of log h
stored_push log g None k = refl
stored_push log g (Some h) k = let a = all_frozen_push log g h.frozen.items k in λ i. let s : Stored = record { taken = h.tilings.items; frozen = a i } in Some s

pub is_held_push : (log : List (List Atom)) (g : List Atom) (h : Option Shelf) → IsHeld log h → IsHeld (log ++ g ∷ []) h
is_held_push log g None k = tt
is_held_push log g (Some h) k = are_frozen_push log g h.frozen.items k

way_push : (log : List (List Atom)) (g : List Atom) (x : Change) (k : Option Kept) → IsHeldBy log k → way_by (log ++ g ∷ []) x k ≡ way_by log x k
way_push log g x None h = refl
way_push log g x (Some k) h = let a = stored_push log g k.shelf h in λ i. let b : Way = record { change = x; made = k.made; shelf = a i } in b

held_by_push : (log : List (List Atom)) (g : List Atom) (k : Option Kept) → IsHeldBy log k → IsHeldBy (log ++ g ∷ []) k
held_by_push log g None h = tt
held_by_push log g (Some k) h = is_held_push log g k.shelf h

all_ways_push : (log : List (List Atom)) (g : List Atom) (ss : List (Beside Change Kept)) → AreHeldBy log ss → map (λ s. way_of (log ++ g ∷ []) s) ss ≡ map (λ s. way_of log s) ss
all_ways_push log g [] h = refl
all_ways_push log g (s ∷ ss) h = let a = way_push log g s.change s.kept h.0 in let b = all_ways_push log g ss h.1 in λ i. a i ∷ b i

map_append : {X Y : Type 0} (f : X → Y) (xs ys : List X) → map f (xs ++ ys) ≡ map f xs ++ map f ys
map_append f [] ys = refl
map_append {X} {Y} f (x ∷ xs) ys = ap {B = List Y} (λ zs. f x ∷ zs) (map_append f xs ys)

-- the frozen tasks so far and the next one
pub frozen_more : (log : List (List Atom)) (ps : List Pending) (i : ℕ) (d : Pending) (fs : List Frozen) (x : Frozen) → i < length ps → d ≡ get_or ps i d → map (λ f. frozen_of log f) fs ≡ map (λ t. atoms_of t) (tasks_of log (take i ps)) →
    frozen_of log x ≡ atoms_of (task_of log d) → map (λ f. frozen_of log f) (fs ++ x ∷ []) ≡ map (λ t. atoms_of t) (tasks_of log (take (i + 1) ps))
frozen_more log ps i d fs x l e so one =
    let here : map (λ f. frozen_of log f) (fs ++ x ∷ []) ≡ map (λ f. frozen_of log f) fs ++ frozen_of log x ∷ [] = map_append (λ f. frozen_of log f) fs (x ∷ []) in
    let next : take (i + 1) ps ≡ take i ps ++ d ∷ [] = take_more ps i d l ∙ ap (λ p. take i ps ++ p ∷ []) (sym e) in
    let there : map (λ t. atoms_of t) (tasks_of log (take (i + 1) ps)) ≡ map (λ t. atoms_of t) (tasks_of log (take i ps)) ++ atoms_of (task_of log d) ∷ [] =
    ap (λ qs. map (λ t. atoms_of t) (tasks_of log qs)) next ∙ ap (λ ts. map (λ t. atoms_of t) ts) (tasks_append log (take i ps) (d ∷ [])) ∙ map_append (λ t. atoms_of t) (tasks_of log (take i ps)) (task_of log d ∷ []) in
    here ∙ (λ k. so k ++ one k ∷ []) ∙ sym there

pub frozen_push_one : (log : List (List Atom)) (fs : List Frozen) (x : Frozen) → AreFrozen log fs → IsFrozen log x → AreFrozen log (fs ++ x ∷ [])
frozen_push_one log [] x h k = (k, tt)
frozen_push_one log (f ∷ fs) x h k = (h.0, frozen_push_one log fs x h.1 k)

pub frozen_at : (log : List (List Atom)) (fs : List Frozen) (i : ℕ) (d : Frozen) → AreFrozen log fs → i < length fs → IsFrozen log (get_or fs i d)
frozen_at log [] i d h l = absurd (omega (arith, l))
frozen_at log (f ∷ fs) zero d h l = h.0
frozen_at log (f ∷ fs) (suc i) d h l = frozen_at log fs i d h.1 (omega (arith, l))

-- without stairs there is nothing to cross with
crossed_none : (F : List (List Atom)) → crossed F [] ≡ []
crossed_none [] = refl
crossed_none (A ∷ F) = crossed_none F

pub opens_none : (log : List (List Atom)) (next : ℕ) (w : View) (F : List (List Atom)) (gs : List Atom) → length gs ≡ 0 → Opens log next w (crossed F (stairs gs)) []
opens_none log next w F [] e = record {
  are = tt;
  tasks = ap (λ As. tasks_from next (hopeful w As)) (sym (crossed_none F));
}
opens_none log next w F (g ∷ gs) e = absurd (omega (arith, e))

-- of the lists that are still to be crossed, those of the next base come first
pub crossed_head : (L S : List (List Atom)) (i : ℕ) → i < length L → crossed (drop i L) S ≡ map (λ B. get_or L i [] ++ B) S ++ crossed (drop (i + 1) L) S
crossed_head L S i l = ap (λ M. crossed M S) (drop_more L i [] l)

listed_at : (log : List (List Atom)) (fs : List Frozen) (i : ℕ) (d : Frozen) → i < length fs → get_or (map (λ f. frozen_of log f) fs) i [] ≡ frozen_of log (get_or fs i d)
listed_at log [] i d l = absurd (omega (arith, l))
listed_at log (f ∷ fs) zero d l = refl
listed_at log (f ∷ fs) (suc i) d l = listed_at log fs i d (omega (arith, l))

-- the same for the lists of frozen tasks
pub frozen_head : (log S : List (List Atom)) (fs : List Frozen) (i : ℕ) (d : Frozen) (A : List Atom) → i < length fs → d ≡ get_or fs i d → A ≡ frozen_of log d →
    crossed (drop i (map (λ f. frozen_of log f) fs)) S ≡ map (λ B. A ++ B) S ++ crossed (drop (i + 1) (map (λ f. frozen_of log f) fs)) S
frozen_head log S fs i d A l e h =
    let L = map (λ f. frozen_of log f) fs in
    let is : get_or L i [] ≡ A = listed_at log fs i d l ∙ ap (λ f. frozen_of log f) (sym e) ∙ sym h in
    crossed_head L S i (omega (arith, l, length-map fs (λ f. frozen_of log f))) ∙ ap (λ K. map (λ B. K ++ B) S ++ crossed (drop (i + 1) L) S) is

pub map_reverse : {X Y : Type 0} (f : X → Y) (xs : List X) → reverse (map f xs) ≡ map f (reverse xs)
map_reverse f [] = refl
map_reverse {X} {Y} f (x ∷ xs) =
    reverse-append (f x ∷ []) (map f xs) ∙ ap {B = List Y} (λ ys. ys ++ f x ∷ []) (map_reverse f xs)
    ∙ sym (ap {B = List Y} (λ ys. map f ys) (reverse-append (x ∷ []) xs) ∙ map_append f (reverse xs) (x ∷ []))

-- the ways read the same with one more change in the log
pub ways_stay : (log log2 : List (List Atom)) (g : List Atom) (ss : List (Beside Change Kept)) → log2 ≡ log ++ g ∷ [] → AreHeldBy log ss → ways_of log2 ss ≡ ways_of log ss
ways_stay log log2 g ss is h =
    ap (λ L. ways_of L ss) is ∙ sym (map_reverse (λ s. way_of (log ++ g ∷ []) s) ss) ∙ ap (λ ws. reverse ws) (all_ways_push log g ss h) ∙ map_reverse (λ s. way_of log s) ss

pub are_held_push : (log : List (List Atom)) (g : List Atom) (ss : List (Beside Change Kept)) → AreHeldBy log ss → AreHeldBy (log ++ g ∷ []) ss
are_held_push log g [] h = tt
are_held_push log g (s ∷ ss) h = (held_by_push log g s.kept h.0, are_held_push log g ss h.1)

pub held_append : (log : List (List Atom)) (xs ys : List (Beside Change Kept)) → AreHeldBy log xs → AreHeldBy log ys → AreHeldBy log (xs ++ ys)
held_append log [] ys h k = k
held_append log (x ∷ xs) ys h k = (h.0, held_append log xs ys h.1 k)

held_front : (log : List (List Atom)) (xs ys : List (Beside Change Kept)) → AreHeldBy log (xs ++ ys) → AreHeldBy log xs × AreHeldBy log ys
held_front log [] ys h = (tt, h)
held_front log (x ∷ xs) ys h = let r = held_front log xs ys h.1 in ((h.0, r.0), r.1)

held_drop : (log : List (List Atom)) (n : ℕ) (xs : List (Beside Change Kept)) → AreHeldBy log xs → AreHeldBy log (drop n xs)
held_drop log zero xs h = h
held_drop log (suc n) [] h = tt
held_drop log (suc n) (x ∷ xs) h = held_drop log n xs h.1

-- the steps from which the last one has moved away
pub held_left : (log : List (List Atom)) (from to left made : List (Beside Change Kept)) (kept stood : Option Kept) → Moves from to left made kept stood → AreHeldBy log from → AreHeldBy log left
held_left log from to left made kept stood m h = (held_front log left (m.step ∷ []) (subst (λ xs. AreHeldBy log xs) m.taken h)).0

pub held_made : (log : List (List Atom)) (from to left made : List (Beside Change Kept)) (kept stood : Option Kept) → Moves from to left made kept stood → AreHeldBy log to → IsHeldBy log kept → AreHeldBy log made
held_made log from to left made kept stood m h k = subst (λ xs. AreHeldBy log xs) (sym m.put) (held_append log to ((record m.step { kept = kept }) ∷ []) h (k, tt))

pub held_newest : (log : List (List Atom)) (xs ys : List (Beside Change Kept)) → ys ≡ newest xs → AreHeldBy log xs → AreHeldBy log ys
held_newest log xs ys e h = subst (λ zs. AreHeldBy log zs) (sym e) (held_drop log (length xs - 256) xs h)

held_at : (log : List (List Atom)) (ss : List (Beside Change Kept)) (o : Option (Beside Change Kept)) → next_of ss ≡ o → AreHeldBy log ss → IsHeldAt log o
held_at log ss None e h = tt
held_at log ss (Some top) e h = (held_front log (take (length ss - 1) ss) (top ∷ []) (subst (λ xs. AreHeldBy log xs) (next_of_ends ss top e) h)).1.0

pub held_next : (log : List (List Atom)) (ss : List (Beside Change Kept)) → AreHeldBy log ss → IsHeldAt log (next_of ss)
held_next log ss h = held_at log ss (next_of ss) refl h
