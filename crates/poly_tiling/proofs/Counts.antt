-- Counts over lists without repeats.
use Rattle.std.proofs.Common.{Bool, List, [], ap, arith, cond, eqb, false, inl, inr, not, refl, subst, sym, true, ℕ, ◌&&◌, ◌+◌, ◌<◌, ◌∙◌, ◌∷◌, ◌≡◌, ◌≤◌}
use Rattle.std.proofs.lemmas.Bool.{and_from, cases_Bool, eq-eqb, eqb-false, eqb-true, ne_eqb, true≢false}
use Rattle.poly_tiling.specs.Lists.{ascending, distinct, one, tally}
use Rattle.poly_tiling.proofs.Lists.{In, all_from}
use Rattle.poly_tiling.proofs.Ascending.{ascending_rest, below_all, distinct_rest, not_head}

-- the list without its first x
abbrev take_out : ℕ → List ℕ → List ℕ
take_out x [] = []
take_out x (y ∷ ys) = cond (eqb y x) ys (y ∷ take_out x ys)

tally_out_at : (g : ℕ → Bool) (x y : ℕ) (ys : List ℕ) → (In x ys → tally g ys ≡ one (g x) + tally g (take_out x ys)) → (b : Bool) → eqb y x ≡ b → In x (y ∷ ys) →
    one (g y) + tally g ys ≡ one (g x) + tally g (cond b ys (y ∷ take_out x ys))
tally_out_at g x y ys ih true e i = ap (λ z. one (g z) + tally g ys) (eqb-true y x e)
tally_out_at g x y ys ih false e (inl k) = absurd (eqb-false y x e k)
tally_out_at g x y ys ih false e (inr i) = omega (arith, ih i)

tally_out : (g : ℕ → Bool) (x : ℕ) (ys : List ℕ) → In x ys → tally g ys ≡ one (g x) + tally g (take_out x ys)
tally_out g x [] i = absurd i
tally_out g x (y ∷ ys) i = tally_out_at g x y ys (tally_out g x ys) (eqb y x) refl i

stays_at : (x z y : ℕ) (ys : List ℕ) → (In z ys → In z (take_out x ys)) → (z ≡ x → ⊥) → (b : Bool) → eqb y x ≡ b → In z (y ∷ ys) → In z (cond b ys (y ∷ take_out x ys))
stays_at x z y ys ih n true e (inl k) = absurd (n (sym k ∙ eqb-true y x e))
stays_at x z y ys ih n true e (inr i) = i
stays_at x z y ys ih n false e (inl k) = inl k
stays_at x z y ys ih n false e (inr i) = inr (ih i)

stays : (x z : ℕ) (ys : List ℕ) → (z ≡ x → ⊥) → In z ys → In z (take_out x ys)
stays x z [] n i = i
stays x z (y ∷ ys) n i = stays_at x z y ys (stays x z ys n) n (eqb y x) refl i

-- at least as many numbers of ys pass g as numbers of xs pass f, if xs has no repeats and each number of xs that passes f is
-- in ys and passes g
pub tally_within : (f g : ℕ → Bool) (xs ys : List ℕ) → distinct xs ≡ true → ((x : ℕ) → In x xs → f x ≡ true → In x ys × (g x ≡ true)) → tally f xs ≤ tally g ys
tally_within f g [] ys d h = omega arith
tally_within f g (x ∷ xs) ys d h = elim (cases_Bool (f x)) [
  | inl y ↦
      let here = h x (inl refl) y in
      let rest = tally_within f g xs (take_out x ys) (distinct_rest x xs d)
      (λ z i t. let w = h z (inr i) t in (stays x z ys (λ e. not_head x xs d (subst (λ u. In u xs) e i)) w.0, w.1)) in
      omega (arith, ap one y, ap one here.1, tally_out g x ys here.0, rest)
  | inr n ↦ omega (arith, ap one n, tally_within f g xs ys (distinct_rest x xs d) (λ z i t. h z (inr i) t))
]

pub ascending_distinct : (xs : List ℕ) → ascending xs ≡ true → distinct xs ≡ true
ascending_distinct [] h = refl
ascending_distinct (x ∷ xs) h = and_from _ _
    (all_from (λ y. cond (eqb x y) false true) xs (λ y i. let l = below_all x xs h y i in ap (λ b. cond b false true) (ne_eqb x y (λ e. absurd (omega arith)))))
    (ascending_distinct xs (ascending_rest x xs h))

one_less : (a b : Bool) → one (a && b) ≤ one a
one_less true true = omega arith
one_less true false = omega arith
one_less false b = omega arith

and_no : (a b : Bool) → b ≡ true → (a && not b) ≡ false
and_no true true h = refl
and_no false b h = refl
and_no true false h = absurd (true≢false (sym h))

tally_less : (f : ℕ → Bool) (xs : List ℕ) (p : ℕ) → tally (λ q. f q && not (eqb q p)) xs ≤ tally f xs
tally_less f [] p = omega arith
tally_less f (x ∷ xs) p = omega (arith, one_less (f x) (not (eqb x p)), tally_less f xs p)

-- if a number that passes is left out, fewer pass
pub tally_fewer : (f : ℕ → Bool) (xs : List ℕ) (p : ℕ) → In p xs → f p ≡ true → tally (λ q. f q && not (eqb q p)) xs < tally f xs
tally_fewer f [] p i h = absurd i
tally_fewer f (x ∷ xs) p (inl e) h = omega (arith, ap one (ap f e ∙ h), ap one (and_no (f x) (eqb x p) (eq-eqb x p e)), tally_less f xs p)
tally_fewer f (x ∷ xs) p (inr i) h = omega (arith, one_less (f x) (not (eqb x p)), tally_fewer f xs p i h)
