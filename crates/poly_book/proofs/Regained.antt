-- Undoing a change that found nothing pending leaves nothing pending, and so does redoing a change whose undo found nothing
-- pending, if each undo and redo since had a kept shelf.
use Rattle.std.proofs.Common.{Bool, List, [], ap, arith, eqb, inl, inr, not, refl, subst, sym, true, ℕ, ◌&&◌, ◌∙◌, ◌∷◌, ◌≡◌}
use Rattle.std.proofs.lemmas.Bool.{and_parts, both_ways, eq-eqb, not-true, or_cases, or_left}
use Rattle.poly_design.specs.Changes.{inverse_of}
use Rattle.poly_design.specs.declared.change.Change.{Change}
use Rattle.poly_tiling.specs.Lists.{tally}
use Rattle.poly_tiling.specs.Puzzle.{View}
use Rattle.poly_tiling.specs.Names.{Grown}
use Rattle.poly_tiling.proofs.Lists.{In, in_map}
use Rattle.poly_atom.specs.Atoms.{meets_all}
use Rattle.poly_atom.specs.Guards.{guards}
use Rattle.poly_atom.specs.Stairs.{stairs}
use Rattle.poly_atom.specs.Hopeless.{hopeless}
use Rattle.poly_atom.proofs.Stays.{hopeless_more}
use Rattle.poly_book.specs.declared.step.Kind.{Kind}
use Rattle.poly_book.specs.declared.step.Kind.TheVariants as kind
use Rattle.poly_tasks.specs.Tasks.{atoms_of}
use Rattle.poly_book.specs.States.{State}
use Rattle.poly_tasks.specs.Stored.{Way}
use Rattle.poly_book.specs.Ways.{newest, way_back}
use Rattle.poly_tasks.specs.Shelves.{is_kept}
use Rattle.poly_book.specs.Events.{Goes, LeadsBy, Redo, Undo, moved, redone, step, undone}
use Rattle.poly_book.specs.Partition.{Complete, Partition}
use Rattle.poly_book.specs.Trails.{Earlier, Follows, Led, Consistent, Trail, Ways}
use Rattle.poly_book.specs.Quiet.{HopelessAlong, StaysQuiet, hopeless_along, owns, quiet_since, stands}
use Rattle.poly_book.proofs.Moves.{step_consistent, way_grown}
use Rattle.poly_book.proofs.QuietShelves.{quiet_opens}
use Rattle.poly_book.proofs.Coming.{came}

no_member : {X : Type 0} (xs : List X) → ((x : X) → In x xs → ⊥) → xs ≡ []
no_member [] h = refl
no_member (x ∷ xs) h = absurd (h x (inl refl))

-- if the own atoms of all tasks are hopeless in the view of the top way, and the shelf of that way is kept and has frozen
-- nothing, then taking the way leaves nothing pending
nothing_left : (s : State) (kd : Kind) (xc : Change) (w : View) (b : Led) (ways : List Led) (x : Bool) (us rs : List Way) → Grown b.to w → HopelessAlong b.made (b ∷ ways) (owns s.pending) → (moved s kd xc w b.shelf x us rs).pending ≡ []
nothing_left s kd xc w b ways x us rs g d = no_member _ (λ u i. elim (came s kd xc w b.shelf x us rs u.own (in_map (λ t. t.own) (moved s kd xc w b.shelf x us rs).pending u i)) [
  | inl j ↦ elim (or_cases (hopeless b.to u.own) (not (eqb b.made b.made) && hopeless_along b.made ways u.own) (d.0 u.own j.0)) [
    | inl k ↦ both_ways (hopeless w u.own) j.1 (hopeless_more b.to w u.own u.own g (λ a y. y) k)
    | inr k ↦ both_ways (eqb b.made b.made) (not-true _ (and_parts (not (eqb b.made b.made)) (hopeless_along b.made ways u.own) k).0) (eq-eqb b.made b.made refl)
  ]
  | inr j ↦ quiet_opens b.shelf (stairs (guards s.view w)) u.own (d.1 refl) j
])

pub complete : (s : State) → Partition s → s.pending ≡ [] → Complete s
complete s p e = record { none = e; once = λ T t. omega (arith, p.shared T t, ap (λ ts. tally (λ t. meets_all s.view T (atoms_of t)) ts) e); only = p.only }

on_top : (b : Led) (ways : List Led) → stands b.made (b ∷ ways) ≡ true
on_top b ways = or_left _ _ (eq-eqb b.made b.made refl)

-- if step m found nothing pending, each undo and redo since had a kept shelf, and the first undo way is that of step m, then
-- the undo leaves nothing pending
undo_leaves : (s : State) (t : Trail) (w : View) (ws : List Way) (us : List Led) (m : ℕ) (b : Way) (bs : List Way) → ws ≡ b ∷ bs → b.made ≡ m → Follows inverse_of s.design us ws → Ways s.view us → Earlier s.view us → LeadsBy s inverse_of ws w →
    ((m : ℕ) → quiet_since m s.steps ≡ true → stands m us ≡ true → HopelessAlong m us (owns s.pending)) → quiet_since m s.steps ≡ true → (undone s w ws).pending ≡ []
undo_leaves s t w [] us m b bs is made l v e g ih q = cc
undo_leaves s t w (c ∷ cs) [] m b bs is made l v e g ih q = absurd l
undo_leaves s t w (c ∷ cs) (u ∷ us) m b bs is made l v e g ih q =
    let first : c ≡ b = cc in
    let number : u.made ≡ m = l.0.made ∙ ap (λ y. y.made) first ∙ made in
    let d : HopelessAlong u.made (u ∷ us) (owns s.pending) = ih u.made (subst (λ n. quiet_since n s.steps ≡ true) (sym number) q) (on_top u us) in
    let x = inverse_of c.change in
    let rs = way_back s c.change w ∷ s.forth in
    subst (λ h. (moved s kind.Undo x w h (is_kept h) cs rs).pending ≡ []) l.0.shelf
    (nothing_left s kind.Undo x w u us (is_kept u.shelf) cs rs (way_grown s inverse_of w u us c cs e v l g) d)

redo_leaves : (s : State) (t : Trail) (w : View) (ws : List Way) (us : List Led) (m : ℕ) (b : Way) (bs : List Way) → ws ≡ b ∷ bs → b.made ≡ m → Follows (λ x. x) s.design us ws → Ways s.view us → Earlier s.view us → LeadsBy s (λ x. x) ws w →
    ((m : ℕ) → quiet_since m s.steps ≡ true → stands m us ≡ true → HopelessAlong m us (owns s.pending)) → quiet_since m s.steps ≡ true → (redone s w ws).pending ≡ []
redo_leaves s t w [] us m b bs is made l v e g ih q = cc
redo_leaves s t w (c ∷ cs) [] m b bs is made l v e g ih q = absurd l
redo_leaves s t w (c ∷ cs) (u ∷ us) m b bs is made l v e g ih q =
    let first : c ≡ b = cc in
    let number : u.made ≡ m = l.0.made ∙ ap (λ y. y.made) first ∙ made in
    let d : HopelessAlong u.made (u ∷ us) (owns s.pending) = ih u.made (subst (λ n. quiet_since n s.steps ≡ true) (sym number) q) (on_top u us) in
    let x = c.change in
    let rs = newest 256 (way_back s x w ∷ s.back) in
    subst (λ h. (moved s kind.Redo x w h (is_kept h) rs cs).pending ≡ []) l.0.shelf
    (nothing_left s kind.Redo x w u us (is_kept u.shelf) rs cs (way_grown s (λ x. x) w u us c cs e v l g) d)

pub quiet_undo : (s : State) (t : Trail) (w : View) (b : Way) (bs : List Way) → Consistent s t → StaysQuiet s t → Goes s (Undo w) → s.back ≡ b ∷ bs → quiet_since b.made s.steps ≡ true → Complete (step s (Undo w))
quiet_undo s t w b bs p k g is q =
    complete (step s (Undo w)) (step_consistent s (Undo w) t g p).partition
    (undo_leaves s t w s.back t.back b.made b bs is refl p.back_follows p.served p.back_named g k.back_hopeless q)

pub quiet_redo : (s : State) (t : Trail) (w : View) (b : Way) (bs : List Way) → Consistent s t → StaysQuiet s t → Goes s (Redo w) → s.forth ≡ b ∷ bs → quiet_since b.made s.steps ≡ true → Complete (step s (Redo w))
quiet_redo s t w b bs p k g is q =
    complete (step s (Redo w)) (step_consistent s (Redo w) t g p).partition
    (redo_leaves s t w s.forth t.forth b.made b bs is refl p.forth_follows p.led p.forth_named g k.forth_hopeless q)
