-- Two forms of list membership, by indices and by recursion; and facts about pairs of elements.
use Rattle.std.proofs.Common.{List, Some, [], ap, arith, get_or, inl, inr, length, refl, slice_get, subst, suc, zero, ℕ, ◌<◌, ◌∷◌, ◌≡◌, ◌≢◌}
use Rattle.std.specs.List.{AllPairs, Contains}
use Rattle.poly_tiling.proofs.Lists.{In}

contains_in_at : {X : Type 0} (xs : List X) (x : X) (k : ℕ) → k < length xs → get_or xs k x ≡ x → In x xs
contains_in_at [] x k l e = absurd (omega arith)
contains_in_at (y ∷ ys) x zero l e = inl e
contains_in_at (y ∷ ys) x (suc k) l e = inr (contains_in_at ys x k (omega arith) e)

pub contains_in : {X : Type 0} (xs : List X) (x : X) → Contains xs x → In x xs
contains_in xs x c = contains_in_at xs x c.0 c.1 c.2

pub in_contains : {X : Type 0} (xs : List X) (x : X) → In x xs → Contains xs x
in_contains [] x i = absurd i
in_contains (y ∷ ys) x (inl e) = (zero, omega arith, e)
in_contains (y ∷ ys) x (inr i) = let r = in_contains ys x i in (suc r.0, omega (arith, r.1), r.2)

pub at_in : {X : Type 0} (xs : List X) (k : ℕ) (d : X) → k < length xs → In (get_or xs k d) xs
at_in [] k d l = absurd (omega arith)
at_in (y ∷ ys) zero d l = inl refl
at_in (y ∷ ys) (suc k) d l = inr (at_in ys k d (omega arith))

pub pairs_cons : {X : Type 0} (R : X → X → Type 0) (x : X) (xs : List X) → ((y : X) → In y xs → R x y) → AllPairs R xs → AllPairs R (x ∷ xs)
pairs_cons R x xs h t zero zero d l m = absurd (omega arith)
pairs_cons R x xs h t zero (suc j) d l m = h (get_or xs j d) (at_in xs j d (omega arith))
pairs_cons R x xs h t (suc i) zero d l m = absurd (omega arith)
pairs_cons R x xs h t (suc i) (suc j) d l m = t i j d (omega arith) (omega arith)

pub pairs_none : {X : Type 0} (R : X → X → Type 0) → AllPairs R []
pairs_none R i j d l m = absurd (omega arith)

pub pairs_head : {X : Type 0} (R : X → X → Type 0) (x : X) (xs : List X) → AllPairs R (x ∷ xs) → (y : X) → In y xs → R x y
pairs_head R x xs h y i = let c = in_contains xs y i in subst (λ z. R x z) c.2 (h zero (suc c.0) y (omega arith) (omega (arith, c.1)))

pub pairs_rest : {X : Type 0} (R : X → X → Type 0) (x : X) (xs : List X) → AllPairs R (x ∷ xs) → AllPairs R xs
pairs_rest R x xs h i j d l m = h (suc i) (suc j) d (omega arith) (omega arith)

pub get_in : {X : Type 0} (xs : List X) (n : ℕ) (x : X) → slice_get xs n ≡ Some x → In x xs
get_in [] n x e = cc
get_in (y ∷ ys) zero x e = inl cc
get_in (y ∷ ys) (suc n) x e = inr (get_in ys n x e)

pub in_get : {X : Type 0} (xs : List X) (x : X) → In x xs → (n : ℕ) × (slice_get xs n ≡ Some x)
in_get [] x i = absurd i
in_get (y ∷ ys) x (inl e) = (zero, ap Some e)
in_get (y ∷ ys) x (inr i) = let r = in_get ys x i in (suc r.0, r.1)

pub get_low : {X : Type 0} (xs : List X) (n : ℕ) (x : X) → slice_get xs n ≡ Some x → n < length xs
get_low [] n x e = cc
get_low (y ∷ ys) zero x e = omega arith
get_low (y ∷ ys) (suc n) x e = omega (arith, get_low ys n x e)

pub low_get : {X : Type 0} (xs : List X) (n : ℕ) → n < length xs → (x : X) × (slice_get xs n ≡ Some x)
low_get [] n l = absurd (omega arith)
low_get (x ∷ xs) zero l = (x, refl)
low_get (x ∷ xs) (suc n) l = low_get xs n (omega arith)

-- if no two elements are the same, each has only one index
pub one_place : {X : Type 0} (xs : List X) → AllPairs (λ x y. x ≢ y) xs → (m n : ℕ) (x : X) → slice_get xs m ≡ Some x → slice_get xs n ≡ Some x → m ≡ n
one_place [] h m n x a b = cc
one_place (y ∷ ys) h zero zero x a b = refl
one_place (y ∷ ys) h zero (suc n) x a b = let e : y ≡ x = cc in absurd (pairs_head (λ x y. x ≢ y) y ys h x (get_in ys n x b) e)
one_place (y ∷ ys) h (suc m) zero x a b = let e : y ≡ x = cc in absurd (pairs_head (λ x y. x ≢ y) y ys h x (get_in ys m x a) e)
one_place (y ∷ ys) h (suc m) (suc n) x a b = ap suc (one_place ys (pairs_rest (λ x y. x ≢ y) y ys h) m n x a b)
