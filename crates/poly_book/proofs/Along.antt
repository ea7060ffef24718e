-- If a list of atoms is hopeless along the ways of a trail down to that of step m, so is each list that has all of its atoms.
-- The list is also hopeless along the newest ways alone if the way of step m is among these. If the step numbers of the ways
-- fall, so do those of the newest ways.
use Rattle.std.proofs.Common.{List, [], arith, eqb, inl, inr, not, suc, sym, true, zero, ℕ, ◌&&◌, ◌<◌, ◌∷◌, ◌≡◌, ◌≤◌}
use Rattle.std.proofs.lemmas.Bool.{and_from, and_parts, both_ways, eqb-true, not-true, or_cases, or_left, or_right, true≢false}
use Rattle.poly_tiling.proofs.Lists.{In}
use Rattle.poly_tiling.proofs.Grown.{grown_self}
use Rattle.poly_atom.specs.declared.atom.Atom.{Atom}
use Rattle.poly_atom.specs.Hopeless.{hopeless}
use Rattle.poly_atom.proofs.Stays.{hopeless_more}
use Rattle.poly_book.specs.Ways.{newest}
use Rattle.poly_book.specs.Trails.{Led}
use Rattle.poly_book.specs.Quiet.{HopelessAlong, Falling, hopeless_along, frozen_in, stands}

pub along_at : (m : ℕ) (ways : List Led) (As : List (List Atom)) → HopelessAlong m ways As → stands m ways ≡ true → (A : List Atom) → In A As → hopeless_along m ways A ≡ true
along_at m [] As d h A i = absurd (true≢false (sym h))
along_at m (b ∷ ways) As d h A i = d.0 A i

pub along_for : (m : ℕ) (ways : List Led) (As Bs : List (List Atom)) → HopelessAlong m ways As → ((A : List Atom) → In A Bs → hopeless_along m ways A ≡ true) → HopelessAlong m ways Bs
along_for m [] As Bs d h = tt
along_for m (b ∷ ways) As Bs d h = (h, d.1, d.2)

-- if a list is hopeless along the ways, so is each list that has all of its atoms
pub along_more : (m : ℕ) (ways : List Led) (A B : List Atom) → ((a : Atom) → In a A → In a B) → hopeless_along m ways A ≡ true → hopeless_along m ways B ≡ true
along_more m [] A B h d = d
along_more m (b ∷ ways) A B h d = elim (or_cases (hopeless b.to A) (not (eqb b.made m) && hopeless_along m ways A) d) [
  | inl e ↦ or_left (hopeless b.to B) (not (eqb b.made m) && hopeless_along m ways B) (hopeless_more b.to b.to A B (grown_self b.to) h e)
  | inr e ↦ let es = and_parts (not (eqb b.made m)) (hopeless_along m ways A) e in or_right (hopeless b.to B) (not (eqb b.made m) && hopeless_along m ways B) (and_from _ _ es.0 (along_more m ways A B h es.1))
]

pub falling_below : (n m : ℕ) (ways : List Led) → Falling n ways → stands m ways ≡ true → m < n
falling_below n m [] f h = absurd (true≢false (sym h))
falling_below n m (b ∷ ways) f h = elim (or_cases (eqb b.made m) (stands m ways) h) [
  | inl e ↦ omega (arith, f.0, eqb-true b.made m e)
  | inr e ↦ omega (arith, f.0, falling_below b.made m ways f.1 e)
]

pub falling_up : (n k : ℕ) (ways : List Led) → n ≤ k → Falling n ways → Falling k ways
falling_up n k [] h f = tt
falling_up n k (b ∷ ways) h f = (omega (arith, f.0), f.1)

pub falling_newest : (k n : ℕ) (ways : List Led) → Falling n ways → Falling n (newest k ways)
falling_newest zero n ways f = tt
falling_newest (suc k) n [] f = tt
falling_newest (suc k) n (b ∷ ways) f = (f.0, falling_newest k b.made ways f.1)

pub newest_stands : (k m : ℕ) (ways : List Led) → stands m (newest k ways) ≡ true → stands m ways ≡ true
newest_stands zero m ways h = absurd (true≢false (sym h))
newest_stands (suc k) m [] h = h
newest_stands (suc k) m (b ∷ ways) h = elim (or_cases (eqb b.made m) (stands m (newest k ways)) h) [ inl e ↦ or_left _ _ e | inr e ↦ or_right (eqb b.made m) (stands m ways) (newest_stands k m ways e) ]

newest_hopeless_one : (k m : ℕ) (ways : List Led) (A : List Atom) → stands m (newest k ways) ≡ true → hopeless_along m ways A ≡ true → hopeless_along m (newest k ways) A ≡ true
newest_hopeless_one zero m ways A h d = absurd (true≢false (sym h))
newest_hopeless_one (suc k) m [] A h d = d
newest_hopeless_one (suc k) m (b ∷ ways) A h d = elim (or_cases (hopeless b.to A) (not (eqb b.made m) && hopeless_along m ways A) d) [
  | inl e ↦ or_left (hopeless b.to A) (not (eqb b.made m) && hopeless_along m (newest k ways) A) e
  | inr e ↦
      let es = and_parts (not (eqb b.made m)) (hopeless_along m ways A) e in
      elim (or_cases (eqb b.made m) (stands m (newest k ways)) h) [
        | inl y ↦ absurd (both_ways (eqb b.made m) (not-true _ es.0) y)
        | inr y ↦ or_right (hopeless b.to A) (not (eqb b.made m) && hopeless_along m (newest k ways) A) (and_from _ _ es.0 (newest_hopeless_one k m ways A y es.1))
      ]
]

pub newest_hopeless : (k m : ℕ) (ways : List Led) (As : List (List Atom)) → stands m (newest k ways) ≡ true → HopelessAlong m ways As → HopelessAlong m (newest k ways) As
newest_hopeless zero m ways As h d = tt
newest_hopeless (suc k) m [] As h d = tt
newest_hopeless (suc k) m (b ∷ ways) As h d = (
  λ A i. newest_hopeless_one (suc k) m (b ∷ ways) A h (d.0 A i),
  d.1,
  λ y. newest_hopeless k m ways (frozen_in b.shelf) y (d.2 (newest_stands k m ways y)),
)
