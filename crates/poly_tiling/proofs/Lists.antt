-- Membership, tests over lists, counts, and the element at an index.
use Rattle.std.proofs.Common.{Bool, List, None, Option, [], ap, arith, cond, eqb, false, inl, inr, length, map, refl, slice_get, subst, suc, sym, true, zero, ℕ, ◌&&◌, ◌++◌, ◌+◌, ◌<◌, ◌||◌, ◌∙◌, ◌∷◌, ◌≡◌, ◌⊎◌}
use Rattle.std.proofs.lemmas.Bool.{and_from, and_parts, both_ways, cases_lt, eq-eqb, eqb-true, false_from_ne_true, or_cases, or_left, or_right, true≢false}
use Rattle.std.proofs.lemmas.Option.{slice_get_past}
use Rattle.std.specs.List.{filter, list_all, list_any}
use Rattle.poly_tiling.specs.Lists.{mem, one, tally}

-- x is an element
abbrev pub In : {X : Type 0} → X → List X → Type 0
In x [] = ⊥
In x (y ∷ ys) = (y ≡ x) ⊎ In x ys

pub all_in : {X : Type 0} (f : X → Bool) (xs : List X) → list_all f xs ≡ true → (x : X) → In x xs → f x ≡ true
all_in f [] h x i = absurd i
all_in f (y ∷ ys) h x (inl e) = let p = and_parts (f y) (list_all f ys) h in ap f (sym e) ∙ p.0
all_in f (y ∷ ys) h x (inr i) = let p = and_parts (f y) (list_all f ys) h in all_in f ys p.1 x i

pub all_from : {X : Type 0} (f : X → Bool) (xs : List X) → ((x : X) → In x xs → f x ≡ true) → list_all f xs ≡ true
all_from f [] h = refl
all_from f (y ∷ ys) h = and_from (f y) (list_all f ys) (h y (inl refl)) (all_from f ys (λ x i. h x (inr i)))

pub any_from : {X : Type 0} (f : X → Bool) (xs : List X) (x : X) → In x xs → f x ≡ true → list_any f xs ≡ true
any_from f [] x i h = absurd i
any_from f (y ∷ ys) x (inl e) h = or_left (f y) (list_any f ys) (ap f e ∙ h)
any_from f (y ∷ ys) x (inr i) h = or_right (f y) (list_any f ys) (any_from f ys x i h)

pub any_in : {X : Type 0} (f : X → Bool) (xs : List X) → list_any f xs ≡ true → (x : X) × In x xs × (f x ≡ true)
any_in f [] h = absurd (true≢false (sym h))
any_in f (y ∷ ys) h = elim (or_cases (f y) (list_any f ys) h) [ inl e ↦ (y, inl refl, e) | inr e ↦ let r = any_in f ys e in (r.0, inr r.1, r.2) ]

pub any_none : {X : Type 0} (f : X → Bool) (xs : List X) → ((x : X) → In x xs → f x ≡ true → ⊥) → list_any f xs ≡ false
any_none f xs h = false_from_ne_true (list_any f xs) (λ e. let r = any_in f xs e in h r.0 r.1 r.2)

pub mem_in : (xs : List ℕ) (x : ℕ) → mem xs x ≡ true → In x xs
mem_in xs x h = let r = any_in (λ y. eqb y x) xs h in subst (λ z. In z xs) (eqb-true r.0 x r.2) r.1

pub in_mem : (xs : List ℕ) (x : ℕ) → In x xs → mem xs x ≡ true
in_mem xs x i = any_from (λ y. eqb y x) xs x i (eq-eqb x x refl)

pub all_append : {X : Type 0} (f : X → Bool) (xs ys : List X) → list_all f (xs ++ ys) ≡ (list_all f xs && list_all f ys)
all_append f [] ys = refl
all_append f (x ∷ xs) ys = grind (arith, all_append f xs ys)

pub any_append : {X : Type 0} (f : X → Bool) (xs ys : List X) → list_any f (xs ++ ys) ≡ (list_any f xs || list_any f ys)
any_append f [] ys = refl
any_append f (x ∷ xs) ys = grind (arith, any_append f xs ys)

pub tally_append : {X : Type 0} (f : X → Bool) (xs ys : List X) → tally f (xs ++ ys) ≡ tally f xs + tally f ys
tally_append f [] ys = omega arith
tally_append f (x ∷ xs) ys = omega (arith, tally_append f xs ys)

pub tally_none : {X : Type 0} (f : X → Bool) (xs : List X) → ((x : X) → In x xs → f x ≡ false) → tally f xs ≡ 0
tally_none f [] h = refl
tally_none f (x ∷ xs) h = omega (arith, ap one (h x (inl refl)), tally_none f xs (λ y i. h y (inr i)))

pub in_append_left : {X : Type 0} (x : X) (xs ys : List X) → In x xs → In x (xs ++ ys)
in_append_left x [] ys i = absurd i
in_append_left x (y ∷ xs) ys (inl e) = inl e
in_append_left x (y ∷ xs) ys (inr i) = inr (in_append_left x xs ys i)

pub in_append_right : {X : Type 0} (x : X) (xs ys : List X) → In x ys → In x (xs ++ ys)
in_append_right x [] ys i = i
in_append_right x (y ∷ xs) ys i = inr (in_append_right x xs ys i)

pub in_append_cases : {X : Type 0} (x : X) (xs ys : List X) → In x (xs ++ ys) → In x xs ⊎ In x ys
in_append_cases x [] ys i = inr i
in_append_cases x (y ∷ xs) ys (inl e) = inl (inl e)
in_append_cases x (y ∷ xs) ys (inr i) = elim (in_append_cases x xs ys i) [ inl j ↦ inl (inr j) | inr j ↦ inr j ]

pub in_map : {X Y : Type 0} (f : X → Y) (xs : List X) (x : X) → In x xs → In (f x) (map f xs)
in_map f [] x i = absurd i
in_map f (y ∷ xs) x (inl e) = inl (ap f e)
in_map f (y ∷ xs) x (inr i) = inr (in_map f xs x i)

pub in_filter : {X : Type 0} (f : X → Bool) (xs : List X) (x : X) → In x xs → f x ≡ true → In x (filter f xs)
in_filter f [] x i h = absurd i
in_filter f (y ∷ xs) x (inl e) h = rw (ap f e ∙ h) (inl e)
in_filter f (y ∷ xs) x (inr i) h = let j = in_filter f xs x i h in elim (f y) as (λ b. In x (cond b (y ∷ filter f xs) (filter f xs))) [ true ↦ inr j | false ↦ j ]

pub all_map : {X Y : Type 0} (g : Y → Bool) (f : X → Y) (xs : List X) → list_all g (map f xs) ≡ list_all (λ x. g (f x)) xs
all_map g f [] = refl
all_map g f (x ∷ xs) = ap (λ b. g (f x) && b) (all_map g f xs)

filter_in_at : {X : Type 0} (f : X → Bool) (y : X) (xs : List X) (x : X) → (In x (filter f xs) → In x xs × (f x ≡ true)) →
    (b : Bool) → f y ≡ b → In x (cond b (y ∷ filter f xs) (filter f xs)) → In x (y ∷ xs) × (f x ≡ true)
filter_in_at f y xs x ih true e (inl k) = (inl k, ap f (sym k) ∙ e)
filter_in_at f y xs x ih true e (inr j) = (inr (ih j).0, (ih j).1)
filter_in_at f y xs x ih false e j = (inr (ih j).0, (ih j).1)

pub filter_in : {X : Type 0} (f : X → Bool) (xs : List X) (x : X) → In x (filter f xs) → In x xs × (f x ≡ true)
filter_in f [] x i = absurd i
filter_in f (y ∷ xs) x i = filter_in_at f y xs x (filter_in f xs x) (f y) refl i

pub map_in : {X Y : Type 0} (f : X → Y) (xs : List X) (y : Y) → In y (map f xs) → (x : X) × In x xs × (f x ≡ y)
map_in f [] y i = absurd i
map_in f (x ∷ xs) y (inl e) = (x, inl refl, e)
map_in f (x ∷ xs) y (inr i) = let r = map_in f xs y i in (r.0, inr r.1, r.2)

pub same_truth : (a b : Bool) → (a ≡ true → b ≡ true) → (b ≡ true → a ≡ true) → a ≡ b
same_truth true b to from = sym (to refl)
same_truth false true to from = from refl
same_truth false false to from = refl

-- an element keeps its index in a longer list
pub slice_get_front : {X : Type 0} (xs ys : List X) (n : ℕ) → n < length xs → slice_get (xs ++ ys) n ≡ slice_get xs n
slice_get_front [] ys n h = absurd (omega arith)
slice_get_front (x ∷ xs) ys zero h = refl
slice_get_front (x ∷ xs) ys (suc n) h = slice_get_front xs ys n (omega arith)

-- a fact about an element of a list holds in a longer list too
pub slice_get_more : {X : Type 0} (P : Option X → Bool) (xs ys : List X) (n : ℕ) → P None ≡ false → P (slice_get xs n) ≡ true → P (slice_get (xs ++ ys) n) ≡ true
slice_get_more P xs ys n none h = elim (cases_lt n (length xs)) [
  | inl l ↦ ap P (slice_get_front xs ys n l) ∙ h
  | inr g ↦ absurd (both_ways (P (slice_get xs n)) (ap P (slice_get_past xs n g) ∙ none) h)
]
