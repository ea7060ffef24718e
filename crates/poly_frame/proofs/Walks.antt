-- Lemmas on lists that are mapped or filtered, and on `&&` and `||`.
use Rattle.std.proofs.Common.{◌≡◌, ℕ, Bool, true, false, cond, ◌&&◌, ◌||◌, eqb, List, [], ◌∷◌, refl, ap, sym, subst, map}
use Rattle.std.specs.List.{list_any, list_all, filter}
use Rattle.std.proofs.lemmas.Bool.{true≢false, and_from, and_parts, ne_eqb}
use Rattle.poly_tiling.specs.Lists.{mem}
use Rattle.poly_tiling.specs.Lists.{distinct}
use Rattle.poly_tiling.proofs.Lists.{In, all_from, filter_in, in_filter, mem_in, in_mem, same_truth}
use Rattle.poly_tiling.proofs.Ascending.{distinct_rest, not_head}

pub any_map : {X Y : Type 0} (g : Y → Bool) (f : X → Y) (xs : List X) → list_any g (map f xs) ≡ list_any (λ x. g (f x)) xs
any_map g f [] = refl
any_map g f (x ∷ xs) = ap (λ b. g (f x) || b) (any_map g f xs)

pub or_no : (a b : Bool) → a ≡ false → b ≡ (a || b)
or_no true b h = absurd (true≢false h)
or_no false b h = refl

pub distinct_filter : (f : ℕ → Bool) (xs : List ℕ) → distinct xs ≡ true → distinct (filter f xs) ≡ true
distinct_filter f [] d = refl
distinct_filter f (x ∷ xs) d =
    let rest = distinct_filter f xs (distinct_rest x xs d) in
    let new = and_from _ _ (all_from (λ y. cond (eqb x y) false true) (filter f xs) (λ y i. ap (λ b. cond b false true) (ne_eqb x y (λ e. not_head x xs d (subst (λ z. In z xs) (sym e) (filter_in f xs y i).0))))) rest in
    elim (f x) as (λ b. distinct (cond b (x ∷ filter f xs) (filter f xs)) ≡ true) [ true ↦ new | false ↦ rest ]

pub mem_filter : (f : ℕ → Bool) (xs : List ℕ) (x : ℕ) → mem (filter f xs) x ≡ (mem xs x && f x)
mem_filter f xs x = same_truth _ _
    (λ h. let r = filter_in f xs x (mem_in (filter f xs) x h) in and_from _ _ (in_mem xs x r.0) r.1)
    (λ h. let r = and_parts (mem xs x) (f x) h in in_mem (filter f xs) x (in_filter f xs x (mem_in xs x r.0) r.1))

pub all_map_is : {X Y : Type 0} (g : Y → Bool) (f : X → Y) (xs : List X) → list_all g (map f xs) ≡ list_all (λ x. g (f x)) xs
all_map_is g f [] = refl
all_map_is g f (x ∷ xs) = ap (λ b. g (f x) && b) (all_map_is g f xs)

pub and_yes : (a b : Bool) → a ≡ true → b ≡ (a && b)
and_yes true b h = refl
and_yes false b h = absurd (true≢false (sym h))

pub or_false : (b : Bool) → (b || false) ≡ b
or_false true = refl
or_false false = refl

pub and_false : (b : Bool) → (b && false) ≡ false
and_false true = refl
and_false false = refl

pub and_true_right : (b : Bool) → (b && true) ≡ b
and_true_right true = refl
and_true_right false = refl

pub or_again : (a b : Bool) → (a || b) ≡ (a || (a || b))
or_again true b = refl
or_again false b = refl

pub or_turn : (a b c : Bool) → (a || (b || c)) ≡ (b || (a || c))
or_turn true true c = refl
or_turn true false c = refl
or_turn false b c = refl

pub or_four : (a b c d : Bool) → ((a || b) || (c || d)) ≡ ((a || c) || (b || d))
or_four true b c d = refl
or_four false true true d = refl
or_four false true false d = refl
or_four false false true d = refl
or_four false false false d = refl
