-- Where the tasks that are pending after a change come from.
use Rattle.std.proofs.Common.{Bool, List, None, Option, Some, [], ap, false, inl, inr, map, not, subst, sym, true, ℕ, ◌++◌, ◌+◌, ◌∙◌, ◌∷◌, ◌≡◌, ◌⊎◌}
use Rattle.std.proofs.lemmas.Bool.{not-true}
use Rattle.std.specs.List.{filter}
use Rattle.poly_design.specs.declared.change.Change.{Change}
use Rattle.poly_tiling.specs.Puzzle.{View}
use Rattle.poly_tiling.proofs.Lists.{In, filter_in, in_append_cases, in_append_right, in_map, map_in}
use Rattle.poly_atom.specs.declared.atom.Atom.{Atom}
use Rattle.poly_atom.specs.Guards.{guards}
use Rattle.poly_atom.specs.Stairs.{stairs}
use Rattle.poly_atom.specs.Hopeless.{hopeless}
use Rattle.poly_atom.proofs.Stays.{stair_was_hopeless}
use Rattle.poly_book.specs.declared.step.Kind.{Kind}
use Rattle.poly_tasks.specs.Tasks.{Task, hopeful, lay, tasks_from}
use Rattle.poly_book.specs.States.{State}
use Rattle.poly_tasks.specs.Stored.{Stored, Way}
use Rattle.poly_tasks.specs.Shelves.{openings}
use Rattle.poly_book.specs.Events.{moved}
use Rattle.poly_book.specs.Quiet.{owns}
use Rattle.poly_book.proofs.QuietShelves.{crossed_in}

pub tasks_in : (n : ℕ) (As : List (List Atom)) (u : Task) → In u (tasks_from n As) → In u.own As
tasks_in n [] u i = absurd i
tasks_in n (A ∷ As) u (inl e) = inl (ap (λ t. t.own) e)
tasks_in n (A ∷ As) u (inr i) = inr (tasks_in (n + 1) As u i)

-- if a task is pending after a change, either its own atoms aren't hopeless after the change and were those of a task pending
-- before it, or the change opens them
pub came : (s : State) (kd : Kind) (xc : Change) (w : View) (h : Option Stored) (x : Bool) (us rs : List Way) (A : List Atom) → In A (owns (moved s kd xc w h x us rs).pending) →
    (In A (owns s.pending) × (hopeless w A ≡ false)) ⊎ In A (openings h (stairs (guards s.view w)))
came s kd xc w h x us rs A i =
    let g = guards s.view w in
    let old = filter (λ t. not (hopeless w t.own)) (map (λ t. lay g t) s.pending) in
    let opened = hopeful w (openings h (stairs g)) in
    let u = map_in (λ t. t.own) (old ++ tasks_from s.next opened) A i in
    elim (in_append_cases u.0 old (tasks_from s.next opened) u.1) [
      | inl j ↦
          let f = filter_in (λ t. not (hopeless w t.own)) (map (λ t. lay g t) s.pending) u.0 j in
          let t = map_in (λ t. lay g t) s.pending u.0 f.0 in
          let e : t.0.own ≡ A = ap (λ t. t.own) t.2 ∙ u.2 in
          inl (subst (λ B. In B (owns s.pending)) e (in_map (λ t. t.own) s.pending t.0 t.1), not-true _ (ap (λ B. not (hopeless w B)) (sym u.2) ∙ f.1))
      | inr j ↦ inr (subst (λ B. In B (openings h (stairs g))) u.2 (filter_in (λ A. not (hopeless w A)) (openings h (stairs g)) u.0.own (tasks_in s.next opened u.0 j)).0)
    ]

-- the lists that a change opens were hopeless before it
opened_was_hopeless : (v w : View) (h : Option Stored) (A : List Atom) → In A (openings h (stairs (guards v w))) → hopeless v A ≡ true
opened_was_hopeless v w None A i = stair_was_hopeless v w A A i (λ a j. j)
opened_was_hopeless v w (Some h) A i =
    let r = crossed_in h.frozen (stairs (guards v w)) A i in
    subst (λ B. hopeless v B ≡ true) r.2.2 (stair_was_hopeless v w r.2.0 (r.0 ++ r.2.0) r.2.1 (λ a j. in_append_right a r.0 r.2.0 j))

pub came_from : (s : State) (kd : Kind) (xc : Change) (w : View) (h : Option Stored) (x : Bool) (us rs : List Way) (A : List Atom) → In A (owns (moved s kd xc w h x us rs).pending) → In A (owns s.pending) ⊎ (hopeless s.view A ≡ true)
came_from s kd xc w h x us rs A i = elim (came s kd xc w h x us rs A i) [ inl j ↦ inl j.0 | inr j ↦ inr (opened_was_hopeless s.view w h A j) ]
