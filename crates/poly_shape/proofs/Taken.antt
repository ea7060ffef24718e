-- A set that has taken the first elements of a list, none of which occurs twice.
use Rattle.std.proofs.Common.{◌≡◌, ◌≢◌, ℕ, ◌+◌, ◌<◌, List, length, get_or, refl, ap, sym, subst, inl, inr, ◌∙◌, arith}
use Rattle.std.proofs.lemmas.Bool.{cases_eq}
use Rattle.std.specs.List.{Contains}
use Rattle.poly_shape.specs.Order.{Adds, AreFewDistinct, HasSame}

-- the set has taken the first n elements of xs, which are different
pub record IsTaken {X : Type 0} (xs : List X) (n : ℕ) (set : List X) : Type 0 where
  pub len : length set ≡ n
  pub only : (x : X) → Contains set x → Contains xs x
  pub all : (k : ℕ) (d : X) → k < n → Contains set (get_or xs k d)
  pub below : (x : X) → Contains set x → (k : ℕ) × (k < n) × (get_or xs k x ≡ x)
  pub distinct : (j k : ℕ) (d : X) → j < k → k < n → get_or xs j d ≢ get_or xs k d

pub taken_more : {X : Type 0} (xs : List X) (n : ℕ) (set set' : List X) (a : X) → IsTaken xs n set → n < length xs → ((d : X) → get_or xs n d ≡ a)
    → (Contains set a → ⊥) → Adds set a set' → length set' ≡ length set + 1 → IsTaken xs (n + 1) set'
taken_more xs n set set' a taken lt at fresh adds len = record {
  len = omega (arith, taken.len);
  only = λ x here. elim ((adds x).0 here) [ inl old ↦ taken.only x old | inr is ↦ (n, lt, at x ∙ is) ];
  all = λ k d less. elim (cases_eq k n) [
    | inl is ↦ rw (is, at d) ((adds a).1 (inr refl))
    | inr other ↦ (adds _).1 (inl (taken.all k d (omega arith)))
  ];
  below = λ x here. elim ((adds x).0 here) [ inl old ↦ let b = taken.below x old in (b.0, omega (arith, b.1), b.2) | inr is ↦ (n, omega arith, at x ∙ is) ];
  distinct = λ j k d less le. elim (cases_eq k n) [
    | inl is ↦ λ same. fresh (subst (Contains set) (same ∙ ap (λ i. get_or xs i d) is ∙ at d) (taken.all j d (omega arith)))
    | inr other ↦ taken.distinct j k d less (omega arith)
  ];
}

pub taken_all : {X : Type 0} (xs : List X) (set : List X) → IsTaken xs (length xs) set → HasSame set xs
taken_all xs set taken x = (taken.only x, λ h. subst (Contains set) h.2 (taken.all h.0 x h.1))

-- if the set already has the next element of xs, the elements of xs are not distinct
pub repeated : {X : Type 0} (xs : List X) (n : ℕ) (set : List X) (a : X) → IsTaken xs n set → n < length xs → ((d : X) → get_or xs n d ≡ a) → Contains set a → AreFewDistinct xs → ⊥
repeated xs n set a taken lt at here ok = let b = taken.below a here in ok.distinct b.0 n a b.1 lt (b.2 ∙ sym (at a))
