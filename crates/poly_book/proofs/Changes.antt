-- What the fields after a change show.
use Rattle.std.proofs.Common.{Bool, List, None, Option, Some, [], ap, arith, cond, drop, false, leb, length, map, not, refl, reverse, subst, suc, sym, take, true, zero, ℕ, ◌*◌, ◌++◌, ◌+◌, ◌-◌, ◌<◌, ◌∙◌, ◌∷◌, ◌≡◌, ◌≤◌}
use Rattle.std.proofs.lemmas.Bool.{leb-true, leb-false}
use Rattle.std.proofs.lemmas.List.{length-append, length-drop, length-reverse, reverse-append, take-append-drop}
use Rattle.std.specs.List.{filter, items_where_true}
use Rattle.poly_design.specs.Changes.{changed}
use Rattle.poly_design.specs.Layout.{Layout}
use Rattle.poly_design.specs.declared.change.Change.{Change}
use Rattle.poly_tiling.specs.Lists.{tally}
use Rattle.poly_tiling.specs.Puzzle.{View, is_tiling}
use Rattle.poly_tiling.specs.Names.{Names}
use Rattle.poly_atom.specs.declared.atom.Atom.{Atom}
use Rattle.poly_atom.specs.Guards.{guards}
use Rattle.poly_atom.specs.Hopeless.{hopeless}
use Rattle.poly_atom.specs.Stairs.{stairs}
use Rattle.poly_place.specs.Right.{IsRight}
use Rattle.poly_undo.specs.declared.step.Step.{Step as Beside}
use Rattle.poly_undo.specs.Steps.{Steps, newest as newest_undo}
use Rattle.poly_tasks.specs.declared.shelf.Kept.{Kept}
use Rattle.poly_book.specs.declared.step.Ending.{Ending}
use Rattle.poly_book.specs.declared.step.Ending.TheVariants.{Hopeless}
use Rattle.poly_book.specs.declared.step.Kind.{Kind}
use Rattle.poly_book.specs.declared.step.Step.{Step}
use Rattle.poly_tasks.specs.declared.task.Pending.{Pending}
use Rattle.poly_book.specs.Events.{hopeless_endings, moved}
use Rattle.poly_book.specs.Shown.{shown}
use Rattle.poly_tasks.specs.Meaning.{AreHeld, AreTasks, IsHeld, own_of, stored_of, task_of, tasks_of, way_by, way_of, ways_of}
use Rattle.poly_tasks.specs.Opens.{Opens}
use Rattle.poly_book.specs.Partition.{Becomes}
use Rattle.poly_book.specs.Ways.{newest, way_back}
use Rattle.poly_tasks.specs.Shelves.{openings, returned}
use Rattle.poly_book.specs.States.{State}
use Rattle.poly_tasks.specs.Stored.{Stored, Way}
use Rattle.poly_tasks.specs.Tasks.{Task, atoms_of, hopeful, lay, tasks_from}
use Rattle.poly_book.specs.Changing.{Noted, shelf_by, shelved_by, stood_by}
use Rattle.poly_tasks.proofs.Holding.{stored_push}
use Rattle.poly_tasks.proofs.Held.{are_append, kept_tasks, length_of, opened_length, picked_filter, tasks_append, tasks_filter, tasks_push}

pub newest_all : {X : Type 0} (n : ℕ) (xs : List X) → length xs ≤ n → newest n xs ≡ xs
newest_all zero [] h = refl
newest_all zero (x ∷ xs) h = absurd (omega (arith, h))
newest_all (suc n) [] h = refl
newest_all (suc n) (x ∷ xs) h = ap (λ ys. x ∷ ys) (newest_all n xs (omega (arith, h)))

newest_front : {X : Type 0} (n : ℕ) (xs ys : List X) → length xs ≡ n → newest n (xs ++ ys) ≡ xs
newest_front zero [] ys h = refl
newest_front zero (x ∷ xs) ys h = absurd (omega (arith, h))
newest_front (suc n) [] ys h = absurd (omega (arith, h))
newest_front (suc n) (x ∷ xs) ys h = ap (λ zs. x ∷ zs) (newest_front n xs ys (omega (arith, h)))

newest_last_at : {X : Type 0} (n : ℕ) (xs : List X) (b : Bool) → leb (length xs) n ≡ b → reverse (drop (length xs - n) xs) ≡ newest n (reverse xs)
newest_last_at n xs true h =
    let low = leb-true (length xs) n h in
    let none : length xs - n ≡ 0 = omega (arith, low) in
    ap (λ k. reverse (drop k xs)) none ∙ sym (newest_all n (reverse xs) (omega (arith, length-reverse xs, low)))
newest_last_at n xs false h =
    let k = length xs - n in
    let high = leb-false (length xs) n h in
    let long : length (reverse (drop k xs)) ≡ n = omega (arith, length-reverse (drop k xs), length-drop k xs, high) in
    sym (ap (λ ys. newest n (reverse ys)) (sym (take-append-drop k xs)) ∙ ap (λ ys. newest n ys) (reverse-append (take k xs) (drop k xs)) ∙ newest_front n (reverse (drop k xs)) (reverse (take k xs)) long)

-- the last n elements of a list, in reverse, are the first n of the reversed list
newest_last : {X : Type 0} (n : ℕ) (xs : List X) → reverse (drop (length xs - n) xs) ≡ newest n (reverse xs)
newest_last n xs = newest_last_at n xs (leb (length xs) n) refl

pub reverse_push : {X : Type 0} (xs : List X) (x : X) → reverse (xs ++ x ∷ []) ≡ x ∷ reverse xs
reverse_push xs x = reverse-append xs (x ∷ [])

newest_ways : (log : List (List Atom)) (n : ℕ) (ss : List (Beside Change Kept)) → newest n (map (λ s. way_of log s) ss) ≡ map (λ s. way_of log s) (newest n ss)
newest_ways log zero ss = refl
newest_ways log (suc n) [] = refl
newest_ways log (suc n) (s ∷ ss) = ap (λ xs. way_of log s ∷ xs) (newest_ways log n ss)

pub ways_push : (log : List (List Atom)) (ss : List (Beside Change Kept)) (s : Beside Change Kept) → ways_of log (ss ++ s ∷ []) ≡ way_of log s ∷ ways_of log ss
ways_push log ss s = ap (λ xs. map (λ s. way_of log s) xs) (reverse_push ss s)

pub ways_newest : (log : List (List Atom)) (ss : List (Beside Change Kept)) → ways_of log (newest_undo ss) ≡ newest 256 (ways_of log ss)
ways_newest log ss = ap (λ xs. map (λ s. way_of log s) xs) (newest_last 256 ss) ∙ sym (newest_ways log 256 (reverse ss))

pub changed_by_way : (log : List (List Atom)) (x : Change) (k : Option Kept) → (way_by log x k).change ≡ x
changed_by_way log x None = refl
changed_by_way log x (Some k) = refl

-- whether a task ends or goes on, it adds one to the sum of the number of endings and the number of tasks that go on
ends_or_stays : (e : ℕ) (t : Task) (p : Pending) (b : Bool) (F : List Task) (G : List Pending) →
    length (map (λ (u : Task). Hopeless u.number e) (cond b (t ∷ F) F)) + length (cond (not b) (p ∷ G) G) ≡ length (map (λ (u : Task). Hopeless u.number e) F) + length G + 1
ends_or_stays e t p true F G = omega arith
ends_or_stays e t p false F G = omega arith

end_or_stay : (w : View) (e : ℕ) (log : List (List Atom)) (ps : List Pending) → length (hopeless_endings w e (tasks_of log ps)) + length (filter (λ p. not (hopeless w (own_of log p.own))) ps) ≡ length ps
end_or_stay w e log [] = refl
end_or_stay w e log (p ∷ ps) =
    omega (arith, ends_or_stays e (task_of log p) p (hopeless w (own_of log p.own)) (filter (λ t. hopeless w t.own) (tasks_of log ps)) (filter (λ p. not (hopeless w (own_of log p.own))) ps), end_or_stay w e log ps)

-- what the code did to the fields
pub record Did (o d d2 : Layout) (v w t2 : View) (ls ls2 : List (List ℕ)) (log log2 : List (List Atom)) (ps ps2 fresh : List Pending) (flags : List Bool) (n n2 : ℕ) (h h2 : Steps Change Kept) (ss ss2 : List Step) (es es2 : List Ending) (k : Kind) (x : Change) (kept : Kept) : Type 0 where
  pub design_is : d2 ≡ changed d x
  pub right : IsRight t2 (changed d x)
  pub names : Names v w
  pub table_is : t2 ≡ w
  pub log_is : log2 ≡ log ++ guards v w ∷ []
  pub listed_is : (f : List ℕ → Bool) → tally f ls2 ≡ tally f (filter (λ T. is_tiling w T) ls ++ returned (stood_by log k h))
  pub flags_are : flags ≡ map (λ p. not (hopeless w (own_of log p.own))) ps
  pub tasks_are : ps2 ≡ items_where_true flags ps ++ fresh
  pub fresh_are : Opens (log ++ guards v w ∷ []) n w (openings (stood_by log k h) (stairs (guards v w))) fresh
  pub next_is : n2 ≡ n + length fresh
  pub few_tasks : n2 ≤ 4294967296
  pub steps_are : ss2 ≡ ss ++ (record { kind = k; change = x; pending = length ps; shelved = shelved_by log k h }) ∷ []
  pub few_steps : length ss + 1 ≤ 100000
  pub ended_are : es2 ≡ es ++ hopeless_endings w (length log + 1) (tasks_of log ps)
  pub few_ways : length h.undo + length h.redo ≤ 256
  pub noted : Noted k h h2 x kept
  pub kept_made : kept.made ≡ length ss + 1
  pub held : AreHeld log h
  pub kept_held : IsHeld log kept.shelf
  pub kept_shelf : stored_of log kept.shelf ≡ shelf_by w ls log ps (length (guards w v))

module _ {o d d2 : Layout} {v w t2 : View} {ls ls2 : List (List ℕ)} {log log2 : List (List Atom)} {ps ps2 fresh : List Pending} {flags : List Bool} {n n2 : ℕ} {h h2 : Steps Change Kept} {ss ss2 : List Step} {es es2 : List Ending} {k : Kind} {x : Change} {kept : Kept} (c : Did o d d2 v w t2 ls ls2 log log2 ps ps2 fresh flags n n2 h h2 ss ss2 es es2 k x kept) where
  tasks_kept : ps2 ≡ filter (λ p. not (hopeless w (own_of log p.own))) ps ++ fresh
  tasks_kept = c.tasks_are ∙ ap (λ fs. items_where_true fs ps ++ fresh) c.flags_are ∙ ap (λ y. y ++ fresh) (picked_filter (λ p. not (hopeless w (own_of log p.own))) ps)

  pub all_numbered : length es + length ps < n → length es2 + length ps2 < n2
  all_numbered l =
      omega (
        arith,
        l,
        c.next_is,
        ap length c.ended_are,
        length-append es (hopeless_endings w (length log + 1) (tasks_of log ps)),
        ap length tasks_kept,
        length-append (filter (λ p. not (hopeless w (own_of log p.own))) ps) fresh,
        end_or_stay w (length log + 1) log ps,
      )

  pub new_tasks : AreTasks log ps → AreTasks log2 ps2
  new_tasks a =
      let g = guards v w in
      let kept_ps = filter (λ p. not (hopeless w (own_of log p.own))) ps in
      let all : AreTasks (log ++ g ∷ []) (kept_ps ++ fresh) = are_append (log ++ g ∷ []) kept_ps fresh (tasks_push log g kept_ps (tasks_filter log (λ p. not (hopeless w (own_of log p.own))) ps a)) c.fresh_are.are in
      subst (λ L. AreTasks L ps2) (sym c.log_is) (subst (λ qs. AreTasks (log ++ g ∷ []) qs) (sym tasks_kept) all)

  pub kept_way : length log ≡ length ss → (y : Change) → way_by log2 y (Some kept) ≡ way_back (shown o d v ls log ps n h ss es) y w
  kept_way l y =
      let made : kept.made ≡ length (reverse ss) + 1 = omega (arith, c.kept_made, length-reverse ss) in
      let shelf = ap (λ L. stored_of L kept.shelf) c.log_is ∙ stored_push log (guards v w) kept.shelf c.kept_held ∙ c.kept_shelf ∙ ap (λ m. shelf_at_count m) (sym (length_of log ps)) in
      λ i. let b : Way = record { change = y; made = made i; shelf = shelf i } in b
    where
      shelf_at_count : ℕ → Option Stored
      shelf_at_count m = cond (leb (m * length (guards w v)) 4096) (Some (record { taken = filter (λ T. not (is_tiling w T)) ls; frozen = map (λ t. atoms_of t) (tasks_of log ps) })) None

  pub moved_shown : AreTasks log ps → length log ≡ length ss → (back forth : List Way) → ways_of log2 h2.undo ≡ back → ways_of log2 h2.redo ≡ forth →
      Becomes (moved (shown o d v ls log ps n h ss es) k x w (stood_by log k h) (shelved_by log k h) back forth) (shown o d2 w ls2 log2 ps2 n2 h2 ss2 es2)
  moved_shown a l back forth eb ef =
      let g = guards v w in
      let opened = hopeful w (openings (stood_by log k h) (stairs g)) in
      let kept_ps = filter (λ p. not (hopeless w (own_of log p.own))) ps in
      let p1 : tasks_of log2 ps2 ≡ tasks_of (log ++ g ∷ []) (kept_ps ++ fresh) = λ i. tasks_of (c.log_is i) (tasks_kept i) in
      let p2 = tasks_append (log ++ g ∷ []) kept_ps fresh in
      let p3 = kept_tasks w log g ps a in
      let p4 = c.fresh_are.tasks in
      let pending : tasks_of log2 ps2 ≡ filter (λ t. not (hopeless w t.own)) (map (λ t. lay g t) (tasks_of log ps)) ++ tasks_from n opened = p1 ∙ p2 ∙ (λ i. p3 i ++ p4 i) in
      let next : n2 ≡ n + length opened = omega (arith, c.next_is, opened_length (log ++ g ∷ []) n w (openings (stood_by log k h) (stairs g)) fresh c.fresh_are) in
      let s1 : reverse ss2 ≡ (record { kind = k; change = x; pending = length ps; shelved = shelved_by log k h }) ∷ reverse ss = ap reverse c.steps_are ∙ reverse_push ss _ in
      let steps : reverse ss2 ≡ (record { kind = k; change = x; pending = length (tasks_of log ps); shelved = shelved_by log k h }) ∷ reverse ss =
      s1 ∙ ap (λ m. let z : Step = record { kind = k; change = x; pending = m; shelved = shelved_by log k h } in z ∷ reverse ss) (sym (length_of log ps)) in
      let number : length log + 1 ≡ length (reverse ss) + 1 = omega (arith, l, length-reverse ss) in
      let ended : es2 ≡ es ++ hopeless_endings w (length (reverse ss) + 1) (tasks_of log ps) = c.ended_are ∙ ap (λ m. es ++ hopeless_endings w m (tasks_of log ps)) number in
      record {
        same = λ i. let s : State = record {
          opened = o;
          design = c.design_is i;
          view = w;
          listed = ls2;
          pending = pending i;
          next = next i;
          back = eb i;
          forth = ef i;
          steps = steps i;
          endings = ended i;
        } in s;
        order = c.listed_is;
      }
