-- The shelf of a change that finds nothing pending is kept and has frozen nothing. Suppose that the way of step m is among
-- some ways, and that `HopelessAlong` holds of these ways and the own atoms of the pending tasks. Then it also holds of these
-- ways and the lists that the shelf of a change freezes.
use Rattle.std.proofs.Common.{List, None, Option, Some, [], ap, arith, eqb, inl, inr, length, map, refl, subst, sym, true, ℕ, ◌*◌, ◌++◌, ◌∙◌, ◌∷◌, ◌≡◌}
use Rattle.std.proofs.lemmas.Bool.{both_ways, cond_both, eqb-true, le-leb, true≢false}
use Rattle.std.specs.Prelude.{nat_le}
use Rattle.poly_tiling.specs.Puzzle.{View}
use Rattle.poly_tiling.proofs.Lists.{In, in_append_cases, in_append_left, in_map, map_in}
use Rattle.poly_atom.specs.declared.atom.Atom.{Atom}
use Rattle.poly_atom.specs.Guards.{guards}
use Rattle.poly_tasks.specs.Tasks.{Task, atoms_of}
use Rattle.poly_book.specs.States.{State}
use Rattle.poly_tasks.specs.Stored.{Stored}
use Rattle.poly_book.specs.Ways.{shelf_of}
use Rattle.poly_tasks.specs.Shelves.{crossed, is_kept, openings}
use Rattle.poly_book.specs.Trails.{Led}
use Rattle.poly_book.specs.Quiet.{HopelessAlong, IsQuiet, hopeless_along, frozen_in, owns, stands}
use Rattle.poly_book.proofs.Along.{along_at, along_for, along_more}

pub no_tasks : (ts : List Task) → eqb (length ts) 0 ≡ true → ts ≡ []
no_tasks [] h = refl
no_tasks (t ∷ ts) h = absurd (omega (arith, eqb-true (length (t ∷ ts)) 0 h))

pub quiet_shelf : (s : State) (w : View) → s.pending ≡ [] → IsQuiet (shelf_of s w)
quiet_shelf s w e = cond_both (nat_le (length s.pending * length (guards w s.view)) 4096) _ None IsQuiet
    (λ h. ap (λ ts. map (λ t. atoms_of t) ts) e)
    (λ h. absurd (both_ways _ h (le-leb _ _ (let z : length s.pending * length (guards w s.view) ≡ 0 = ap (λ ts. length ts * length (guards w s.view)) e ∙ omega arith in omega arith))))

pub frozen_hopeless : (m : ℕ) (s : State) (w : View) (ways : List Led) → stands m ways ≡ true → HopelessAlong m ways (owns s.pending) → HopelessAlong m ways (frozen_in (shelf_of s w))
frozen_hopeless m s w ways h d = along_for m ways (owns s.pending) _ d
    (cond_both (nat_le (length s.pending * length (guards w s.view)) 4096) _ None (λ x. (A : List Atom) → In A (frozen_in x) → hopeless_along m ways A ≡ true)
    (λ e A i. let r = map_in (λ t. atoms_of t) s.pending A i in
    subst (λ B. hopeless_along m ways B ≡ true) r.2 (along_more m ways r.0.own (atoms_of r.0) (λ a j. in_append_left a r.0.own r.0.laid j)
    (along_at m ways (owns s.pending) d h r.0.own (in_map (λ t. t.own) s.pending r.0 r.1))))
    (λ e A i. absurd i))

quiet_kept : (h : Option Stored) → IsQuiet h → is_kept h ≡ true
quiet_kept None q = absurd q
quiet_kept (Some h) q = refl

pub quiet_shelves_are_kept : (s : State) (w : View) → s.pending ≡ [] → is_kept (shelf_of s w) ≡ true
quiet_shelves_are_kept s w e = quiet_kept (shelf_of s w) (quiet_shelf s w e)

pub crossed_in : (F S : List (List Atom)) (A : List Atom) → In A (crossed F S) → (B : List Atom) × In B F × ((C : List Atom) × In C S × (B ++ C ≡ A))
crossed_in [] S A i = absurd i
crossed_in (B ∷ F) S A i = elim (in_append_cases A (map (λ C. B ++ C) S) (crossed F S) i) [
  | inl j ↦ (B, inl refl, map_in (λ C. B ++ C) S A j)
  | inr j ↦ let r = crossed_in F S A j in (r.0, inr r.1, r.2)
]

pub quiet_opens : (h : Option Stored) (S : List (List Atom)) (A : List Atom) → IsQuiet h → In A (openings h S) → ⊥
quiet_opens None S A q i = q
quiet_opens (Some h) S A q i = let r = crossed_in h.frozen S A i in subst (λ F. In r.0 F) q r.1

-- if each list that a kept shelf has frozen is hopeless along the ways, so is each of the shelf's `openings`
pub shelf_hopeless : (m : ℕ) (ways : List Led) (h : Option Stored) (S : List (List Atom)) → is_kept h ≡ true → stands m ways ≡ true → HopelessAlong m ways (frozen_in h) → (A : List Atom) → In A (openings h S) → hopeless_along m ways A ≡ true
shelf_hopeless m ways None S k y d A i = absurd (true≢false (sym k))
shelf_hopeless m ways (Some h) S k y d A i =
    let r = crossed_in h.frozen S A i in
    subst (λ B. hopeless_along m ways B ≡ true) r.2.2 (along_more m ways r.0 (r.0 ++ r.2.0) (λ a j. in_append_left a r.0 r.2.0 j) (along_at m ways h.frozen d y r.0 r.1))
