-- How a choice divides the tilings that are left, and when none is left.
use Rattle.std.proofs.Common.{Bool, Err, List, None, Ok, Option, Result, Some, [], ap, arith, cond, eqb, false, inl, inr, leb, length, not, refl, subst, suc, sym, take, true, zero, ℕ, ◌&&◌, ◌++◌, ◌+◌, ◌<◌, ◌||◌, ◌∙◌, ◌∷◌, ◌≡◌, ◌≢◌, ◌≤◌, ◌⊎◌}
use Rattle.std.proofs.lemmas.Bool.{and_from, and_parts, both_ways, cases_Bool, eq-eqb, eqb-true, false_from_ne_true, leb-true, ne_eqb, not-true, not_from_false, or_cases, or_left, or_right, true≢false}
use Rattle.std.specs.Option.{IfNone, IfSome}
use Rattle.std.specs.Result.{OnOk}
use Rattle.std.specs.List.{filter, find, list_all, list_any}
use Rattle.poly_tiling.specs.declared.item.Item.{Item}
use Rattle.poly_tiling.specs.Lists.{ascending, distinct, mem, one, same_list, tally}
use Rattle.poly_tiling.specs.Puzzle.{View, conflicts, count, has_item, is_piece, is_tiling, items, least, most, same_item}
use Rattle.poly_tiling.specs.Names.{WellNamed}
use Rattle.poly_tiling.specs.Lister.{AddsAtMost, AddsLeft, AreApart, fits_beside, is_left, is_option}
use Rattle.poly_tiling.proofs.Lists.{In, all_from, all_in, any_from, any_in, filter_in, in_append_cases, in_append_left, in_append_right, in_filter, in_mem, mem_in, same_truth}
use Rattle.poly_tiling.proofs.Ascending.{ascending_same, distinct_rest, not_head, same_list_is, same_list_self}
use Rattle.poly_tiling.proofs.Counts.{ascending_distinct, tally_within}
use Rattle.poly_tiling.proofs.Coded.{tally_push}
use Rattle.poly_tiling.proofs.Orders.{pins_once}
use Rattle.poly_tiling.proofs.Tilings.{parts, same_item_self}

-- a tiling that is left, in plain facts
pub record IsLeft (v : View) (chosen free T : List ℕ) : Type 0 where
  pub tiles : is_tiling v T ≡ true
  pub has : (p : ℕ) → In p chosen → In p T
  pub only : (p : ℕ) → In p T → In p chosen ⊎ In p free

pub left_parts : (v : View) (chosen free T : List ℕ) → is_left v chosen free T ≡ true → IsLeft v chosen free T
unfolding is_left
left_parts v chosen free T h =
    let h2 = and_parts (is_tiling v T && list_all (λ p. mem T p) chosen) (list_all (λ p. mem chosen p || mem free p) T) h in
    let h1 = and_parts (is_tiling v T) (list_all (λ p. mem T p) chosen) h2.0 in
    record {
      tiles = h1.0;
      has = λ p i. mem_in T p (all_in (λ p. mem T p) chosen h1.1 p i);
      only = λ p i. elim (or_cases (mem chosen p) (mem free p) (all_in (λ p. mem chosen p || mem free p) T h2.1 p i)) [
        | inl a ↦ inl (mem_in chosen p a)
        | inr b ↦ inr (mem_in free p b)
      ];
    }

pub left_whole : (v : View) (chosen free T : List ℕ) → IsLeft v chosen free T → is_left v chosen free T ≡ true
unfolding is_left
left_whole v chosen free T t = and_from _ _ (and_from _ _ t.tiles (all_from (λ p. mem T p) chosen (λ p i. in_mem T p (t.has p i))))
    (all_from (λ p. mem chosen p || mem free p) T (λ p i. elim (t.only p i) [
      | inl a ↦ or_left (mem chosen p) (mem free p) (in_mem chosen p a)
      | inr b ↦ or_right (mem chosen p) (mem free p) (in_mem free p b)
    ]))

pub left_same : (v : View) (chosen free more rest T : List ℕ) → (IsLeft v chosen free T → IsLeft v more rest T) → (IsLeft v more rest T → IsLeft v chosen free T) → is_left v chosen free T ≡ is_left v more rest T
left_same v chosen free more rest T to from = same_truth _ _
    (λ h. left_whole v more rest T (to (left_parts v chosen free T h)))
    (λ h. left_whole v chosen free T (from (left_parts v more rest T h)))

pub left_none : (v : View) (chosen free T : List ℕ) → (IsLeft v chosen free T → ⊥) → is_left v chosen free T ≡ false
left_none v chosen free T not_left = false_from_ne_true _ (λ h. not_left (left_parts v chosen free T h))

-- a list without one number
abbrev pub without : ℕ → List ℕ → List ℕ
without p xs = filter (λ q. not (eqb q p)) xs

pub without_in : (p : ℕ) (xs : List ℕ) (x : ℕ) → In x (without p xs) → In x xs × (x ≢ p)
without_in p xs x i =
    let r = filter_in (λ q. not (eqb q p)) xs x i in
    (r.0, λ e. both_ways (eqb x p) (not-true _ r.1) (eq-eqb x p e))

pub in_without : (p : ℕ) (xs : List ℕ) (x : ℕ) → In x xs → x ≢ p → In x (without p xs)
in_without p xs x i n = in_filter (λ q. not (eqb q p)) xs x i (not_from_false _ (ne_eqb x p n))

length_kept : (f : ℕ → Bool) (xs : List ℕ) → length (filter f xs) ≤ length xs
length_kept f [] = omega arith
length_kept f (x ∷ xs) = elim (f x) as (λ b. length (cond b (x ∷ filter f xs) (filter f xs)) ≤ length (x ∷ xs)) [ true ↦ omega (arith, length_kept f xs) | false ↦ omega (arith, length_kept f xs) ]

pub filter_shorter : (f : ℕ → Bool) (xs : List ℕ) → length (filter f xs) ≤ length xs
filter_shorter = length_kept

pub without_shorter : (p : ℕ) (xs : List ℕ) → In p xs → length (without p xs) < length xs
without_shorter p [] i = absurd i
without_shorter p (x ∷ xs) (inl e) =
    let drops : not (eqb x p) ≡ false = ap not (eq-eqb x p e) in
    rw drops (omega (arith, length_kept (λ q. not (eqb q p)) xs))
without_shorter p (x ∷ xs) (inr i) = elim (not (eqb x p)) as (λ b. length (cond b (x ∷ without p xs) (without p xs)) < length (x ∷ xs)) [ true ↦ omega (arith, without_shorter p xs i) | false ↦ omega (arith, without_shorter p xs i) ]

pub apart_in : (chosen free : List ℕ) → AreApart chosen free → (p : ℕ) → In p free → In p chosen → ⊥
apart_in chosen free a p i j = both_ways (mem chosen p) (not-true _ (all_in (λ p. not (mem chosen p)) free a.apart p i)) (in_mem chosen p j)

-- for a free number p, the tilings that are left are those that are left if p is chosen, and those that are left if p is no
-- longer free
pub left_split : (v : View) (chosen free : List ℕ) (p : ℕ) (T : List ℕ) → AreApart chosen free → In p free →
    one (is_left v chosen free T) ≡ one (is_left v (chosen ++ p ∷ []) (without p free) T) + one (is_left v chosen (without p free) T)
left_split v chosen free p T a i = elim (cases_Bool (mem T p)) [
  | inl y ↦
      let there = mem_in T p y in
      let same = left_same v chosen free (chosen ++ p ∷ []) (without p free) T
      (λ t. record {
        tiles = t.tiles;
        has = λ q j. elim (in_append_cases q chosen (p ∷ []) j) [ inl k ↦ t.has q k | inr k ↦ elim k [ inl e ↦ subst (λ z. In z T) e there | inr n ↦ absurd n ] ];
        only = λ q j. elim (t.only q j) [
          | inl k ↦ inl (in_append_left q chosen (p ∷ []) k)
          | inr k ↦ elim (cases_Bool (eqb q p)) [
            | inl e ↦ inl (in_append_right q chosen (p ∷ []) (inl (sym (eqb-true q p e))))
            | inr n ↦ inr (in_without p free q k (λ e. both_ways (eqb q p) n (eq-eqb q p e)))
          ]
        ];
      })
      (λ t. record {
        tiles = t.tiles;
        has = λ q j. t.has q (in_append_left q chosen (p ∷ []) j);
        only = λ q j. elim (t.only q j) [
          | inl k ↦ elim (in_append_cases q chosen (p ∷ []) k) [ inl m ↦ inl m | inr m ↦ elim m [ inl e ↦ inr (subst (λ z. In z free) e i) | inr n ↦ absurd n ] ]
          | inr k ↦ inr (without_in p free q k).0
        ];
      }) in
      let none = left_none v chosen (without p free) T (λ t. elim (t.only p there) [ inl k ↦ apart_in chosen free a p i k | inr k ↦ (without_in p free p k).1 refl ]) in
      omega (arith, ap one same, ap one none)
  | inr n ↦
      let out : In p T → ⊥ = λ j. both_ways (mem T p) n (in_mem T p j) in
      let none = left_none v (chosen ++ p ∷ []) (without p free) T (λ t. out (t.has p (in_append_right p chosen (p ∷ []) (inl refl)))) in
      let same = left_same v chosen free chosen (without p free) T
      (λ t. record {
        tiles = t.tiles;
        has = t.has;
        only = λ q j. elim (t.only q j) [ inl k ↦ inl k | inr k ↦ inr (in_without p free q k (λ e. out (subst (λ z. In z T) e j))) ];
      })
      (λ t. record {
        tiles = t.tiles;
        has = t.has;
        only = λ q j. elim (t.only q j) [ inl k ↦ inl k | inr k ↦ inr (without_in p free q k).0 ];
      }) in
      omega (arith, ap one same, ap one none)
]

-- if no number is chosen twice and a tiling has all chosen numbers, each other number of the tiling fits with the chosen ones
pub fits_members : (v : View) (chosen T : List ℕ) (q : ℕ) → distinct chosen ≡ true → is_tiling v T ≡ true → ((p : ℕ) → In p chosen → In p T) → In q T → (In q chosen → ⊥) → fits_beside v chosen q ≡ true
unfolding fits_beside
fits_members v chosen T q d tiles has i out =
    let t = parts v T tiles in
    and_from _ _
    (and_from _ _
    (not_from_false _ (false_from_ne_true (mem chosen q) (λ e. out (mem_in chosen q e))))
    (not_from_false _ (false_from_ne_true (list_any (λ p. conflicts v q p) chosen) (λ e.
    let r = any_in (λ p. conflicts v q p) chosen e in
    both_ways (conflicts v q r.0) (t.apart q r.0 i (has r.0 r.1)) r.2))))
    (not_from_false _ (false_from_ne_true (list_any (λ i. is_piece i && leb (most v i) (count v chosen i)) (items v q)) (λ e.
    let r = any_in (λ i. is_piece i && leb (most v i) (count v chosen i)) (items v q) e in
    let full = leb-true _ _ (and_parts (is_piece r.0) (leb (most v r.0) (count v chosen r.0)) r.2).1 in
    let own : has_item v q r.0 ≡ true = any_from (λ j. same_item j r.0) (items v q) r.0 r.1 (same_item_self r.0) in
    let once : distinct (q ∷ chosen) ≡ true = and_from _ _ (all_from (λ y. cond (eqb q y) false true) chosen (λ y j. ap (λ b. cond b false true) (ne_eqb q y (λ s. out (subst (λ z. In z chosen) (sym s) j))))) d in
    let more = tally_within (λ p. has_item v p r.0) (λ p. has_item v p r.0) (q ∷ chosen) T once
    (λ x j h. (elim j [ inl s ↦ subst (λ z. In z T) s i | inr k ↦ has x k ], h)) in
    absurd (omega (arith, ap one own, t.few r.0)))))

pub left_narrowed : (v : View) (chosen free T : List ℕ) → distinct chosen ≡ true → is_left v chosen free T ≡ is_left v chosen (filter (λ q. fits_beside v chosen q) free) T
left_narrowed v chosen free T d = left_same v chosen free chosen (filter (λ q. fits_beside v chosen q) free) T
    (λ t. record {
      tiles = t.tiles;
      has = t.has;
      only = λ q i. elim (cases_Bool (mem chosen q)) [
        | inl y ↦ inl (mem_in chosen q y)
        | inr n ↦
            let out : In q chosen → ⊥ = λ j. both_ways (mem chosen q) n (in_mem chosen q j) in
            elim (t.only q i) [ inl k ↦ inl k | inr k ↦ inr (in_filter (λ q. fits_beside v chosen q) free q k (fits_members v chosen T q d t.tiles t.has i out)) ]
      ];
    })
    (λ t. record {
      tiles = t.tiles;
      has = t.has;
      only = λ q i. elim (t.only q i) [ inl k ↦ inl k | inr k ↦ inr (filter_in (λ q. fits_beside v chosen q) free q k).0 ];
    })

fits_out : (v : View) (chosen : List ℕ) (q : ℕ) → fits_beside v chosen q ≡ true → not (mem chosen q) ≡ true
unfolding fits_beside
fits_out v chosen q h =
    (and_parts (not (mem chosen q)) (not (list_any (λ p. conflicts v q p) chosen)) (and_parts (not (mem chosen q) && not (list_any (λ p. conflicts v q p) chosen)) (not (list_any (λ i. is_piece i && leb (most v i) (count v chosen i)) (items v q))) h).0).0

pub narrowed_apart : (v : View) (chosen free : List ℕ) → distinct chosen ≡ true → AreApart chosen (filter (λ q. fits_beside v chosen q) free)
narrowed_apart v chosen free d = record {
  once = d;
  apart = all_from (λ p. not (mem chosen p)) (filter (λ q. fits_beside v chosen q) free) (λ p i. fits_out v chosen p (filter_in (λ q. fits_beside v chosen q) free p i).1);
}

pub without_apart : (chosen free : List ℕ) (p : ℕ) → AreApart chosen free → AreApart chosen (without p free)
without_apart chosen free p a = record {
  once = a.once;
  apart = all_from (λ p. not (mem chosen p)) (without p free) (λ q i. all_in (λ p. not (mem chosen p)) free a.apart q (without_in p free q i).0);
}

push_once : (xs : List ℕ) (p : ℕ) → distinct xs ≡ true → (In p xs → ⊥) → distinct (xs ++ p ∷ []) ≡ true
push_once [] p d out = refl
push_once (x ∷ xs) p d out = and_from _ _
    (all_from (λ y. cond (eqb x y) false true) (xs ++ p ∷ []) (λ y i. ap (λ b. cond b false true) (ne_eqb x y (λ e.
    elim (in_append_cases y xs (p ∷ []) i) [
      | inl j ↦ not_head x xs d (subst (λ z. In z xs) (sym e) j)
      | inr j ↦ elim j [ inl k ↦ out (inl (e ∙ sym k)) | inr n ↦ n ]
    ]))))
    (push_once xs p (distinct_rest x xs d) (λ i. out (inr i)))

pub chosen_once : (chosen free : List ℕ) (p : ℕ) → AreApart chosen free → In p free → distinct (chosen ++ p ∷ []) ≡ true
chosen_once chosen free p a i = push_once chosen p a.once (apart_in chosen free a p i)

-- no tiling is left if an item still needs an option and no free number has the item
pub left_unmet : (v : View) (chosen free T : List ℕ) (i : Item) → count v chosen i < least v i → list_any (λ p. has_item v p i) free ≡ false → is_left v chosen free T ≡ false
left_unmet v chosen free T i low none = left_none v chosen free T (λ t.
    let k = parts v T t.tiles in
    let within = tally_within (λ p. has_item v p i) (λ p. has_item v p i) T chosen (ascending_distinct T k.up)
    (λ x j h. (elim (t.only x j) [ inl m ↦ m | inr m ↦ absurd (both_ways _ none (any_from (λ p. has_item v p i) free x m h)) ], h)) in
    absurd (omega (arith, k.enough i)))

any_true : (xs : List ℕ) → list_any (λ p. true) xs ≡ false → xs ≡ []
any_true [] h = refl
any_true (x ∷ xs) h = absurd (true≢false h)

pub no_number : (v : View) (free : List ℕ) → list_any (λ p. is_option v None p) free ≡ false → free ≡ []
no_number v free h = any_true free h

-- if no number is free, the only tiling that may be left is S, the ascending list of the chosen numbers
pub left_leaf : (v : View) (chosen S T : List ℕ) → ascending S ≡ true → ((n : ℕ) → mem S n ≡ mem chosen n) → is_left v chosen [] T ≡ (is_tiling v S && same_list T S)
left_leaf v chosen S T up same = same_truth _ _
    (λ h.
    let t = left_parts v chosen [] T h in
    let k = parts v T t.tiles in
    let is : T ≡ S = ascending_same T S k.up up
    (λ z i. mem_in S z (same z ∙ in_mem chosen z (elim (t.only z i) [ inl j ↦ j | inr n ↦ absurd n ])))
    (λ z i. t.has z (mem_in chosen z (sym (same z) ∙ in_mem S z i))) in
    and_from _ _ (subst (λ l. is_tiling v l ≡ true) is t.tiles) (subst (λ l. same_list T l ≡ true) is (same_list_self T)))
    (λ h.
    let hs = and_parts (is_tiling v S) (same_list T S) h in
    let is = same_list_is T S hs.1 in
    left_whole v chosen [] T (record {
      tiles = subst (λ l. is_tiling v l ≡ true) (sym is) hs.0;
      has = λ p i. subst (λ l. In p l) (sym is) (mem_in S p (same p ∙ in_mem chosen p i));
      only = λ p i. inl (mem_in chosen p (sym (same p) ∙ in_mem S p (subst (λ l. In p l) is i)));
    }))

-- if the pins are chosen and the live numbers are free, all tilings are left
pub left_first : (v : View) (T : List ℕ) → is_left v v.pins v.live T ≡ is_tiling v T
left_first v T = same_truth _ _
    (λ h. (left_parts v v.pins v.live T h).tiles)
    (λ h. let t = parts v T h in left_whole v v.pins v.live T (record { tiles = h; has = t.pinned; only = λ p i. inr (t.placed p i) }))

-- a number that is found is in the list; if none is found, no number passes the test
pub find_in : (f : ℕ → Bool) (xs : List ℕ) (p : ℕ) → find f xs ≡ Some p → In p xs
find_in f [] p e = cc
find_in f (x ∷ xs) p e = find_in_at f x xs p (λ k. find_in f xs p k) (f x) e
  where
    find_in_at : (f : ℕ → Bool) (x : ℕ) (xs : List ℕ) (p : ℕ) → (find f xs ≡ Some p → In p xs) → (b : Bool) → cond b (Some x) (find f xs) ≡ Some p → In p (x ∷ xs)
    find_in_at f x xs p ih true e = inl cc
    find_in_at f x xs p ih false e = inr (ih e)

pub find_none : (f : ℕ → Bool) (xs : List ℕ) → find f xs ≡ None → list_any f xs ≡ false
find_none f [] e = refl
find_none f (x ∷ xs) e = find_none_at f x xs (λ k. find_none f xs k) (f x) e
  where
    find_none_at : (f : ℕ → Bool) (x : ℕ) (xs : List ℕ) → (find f xs ≡ None → list_any f xs ≡ false) → (b : Bool) → cond b (Some x) (find f xs) ≡ None → (b || list_any f xs) ≡ false
    find_none_at f x xs ih true e = cc
    find_none_at f x xs ih false e = ih e

pub add_none : (v : View) (chosen S T : List ℕ) → ascending S ≡ true → ((n : ℕ) → mem S n ≡ mem chosen n) → is_tiling v S ≡ false → one (is_left v chosen [] T) ≡ 0
add_none v chosen S T up same none = ap one (left_leaf v chosen S T up same) ∙ ap (λ b. one (b && same_list T S)) none

pub add_one : (v : View) (chosen S T : List ℕ) (old : List (List ℕ)) → ascending S ≡ true → ((n : ℕ) → mem S n ≡ mem chosen n) → is_tiling v S ≡ true →
    tally (same_list T) (old ++ S ∷ []) ≡ tally (same_list T) old + one (is_left v chosen [] T)
add_one v chosen S T old up same tiles = omega (arith, tally_push (same_list T) old S, ap one (left_leaf v chosen S T up same), ap (λ b. one (b && same_list T S)) tiles)

pub tally_front : {X : Type 0} (f : X → Bool) (k : ℕ) (xs : List X) → tally f (take k xs) ≤ tally f xs
tally_front f k [] = elim k as (λ n. tally f (take n []) ≤ 0) [ zero ↦ omega arith | suc m ↦ omega arith ]
tally_front f zero (x ∷ xs) = omega arith
tally_front f (suc k) (x ∷ xs) = omega (arith, tally_front f k xs)

-- once no free number is an option, the last step adds what is still left
pub last_adds : (v : View) (chosen rest : List ℕ) (item : Option Item) (now new : List (List ℕ)) → find (λ p. is_option v item p) rest ≡ None →
    IfSome item (λ i. count v chosen i < least v i) → IfSome item (λ _. new ≡ now) → IfNone item (AddsLeft v chosen [] now new) → AddsLeft v chosen rest now new
last_adds v chosen rest None now new gone unmet same adds = λ T. adds T ∙ ap (λ l. tally (same_list T) now + one (is_left v chosen l T)) (sym (no_number v rest (find_none (λ p. is_option v None p) rest gone)))
last_adds v chosen rest (Some i) now new gone unmet same adds = λ T.
    omega (arith, ap (tally (same_list T)) same, ap one (left_unmet v chosen rest T i unmet (find_none (λ p. has_item v p i) rest gone)))

pub last_at_most : (v : View) (chosen rest : List ℕ) (item : Option Item) (now new : List (List ℕ)) → find (λ p. is_option v item p) rest ≡ None →
    IfSome item (λ i. count v chosen i < least v i) → IfSome item (λ _. new ≡ now) → IfNone item (AddsAtMost v chosen [] now new) → AddsAtMost v chosen rest now new
last_at_most v chosen rest None now new gone unmet same adds = λ T.
    omega (arith, adds T, ap (λ l. one (is_left v chosen l T)) (no_number v rest (find_none (λ p. is_option v None p) rest gone)))
last_at_most v chosen rest (Some i) now new gone unmet same adds = λ T. omega (arith, ap (tally (same_list T)) same)

ok_none : {E : Type 0} (r : Result (Unit {0}) E) (item : Option Item) (P : Type 0) → IfNone item (OnOk r P) → OnOk r (IfNone item P)
ok_none (Ok u) None P h = h
ok_none (Ok u) (Some i) P h = h
ok_none (Err e) item P h = tt

-- the tilings found so far and those still left are, together, the tilings found at first and those left at first
pub record Sums (v : View) (chosen free rest : List ℕ) (old now : List (List ℕ)) : Type 0 where
  pub sums : (T : List ℕ) → tally (same_list T) now + one (is_left v chosen rest T) ≡ tally (same_list T) old + one (is_left v chosen free T)

pub all_adds : {E : Type 0} (r : Result (Unit {0}) E) (v : View) (chosen free rest : List ℕ) (item : Option Item) (old now new : List (List ℕ)) → Sums v chosen free rest old now →
    find (λ p. is_option v item p) rest ≡ None → IfSome item (λ i. count v chosen i < least v i) → IfSome item (λ _. new ≡ now) → IfNone item (OnOk r (AddsLeft v chosen [] now new)) → OnOk r (AddsLeft v chosen free old new)
all_adds {E} (Ok u) v chosen free rest item old now new s gone unmet same adds = λ T. omega (arith, s.sums T, last_adds v chosen rest item now new gone unmet same (ok_none {E = E} (Ok u) item (AddsLeft v chosen [] now new) adds) T)
all_adds (Err e) v chosen free rest item old now new s gone unmet same adds = tt

pub all_at_most : (v : View) (chosen free rest : List ℕ) (item : Option Item) (old now new : List (List ℕ)) → Sums v chosen free rest old now →
    find (λ p. is_option v item p) rest ≡ None → IfSome item (λ i. count v chosen i < least v i) → IfSome item (λ _. new ≡ now) → IfNone item (AddsAtMost v chosen [] now new) → AddsAtMost v chosen free old new
all_at_most v chosen free rest item old now new s gone unmet same adds = λ T. omega (arith, s.sums T, last_at_most v chosen rest item now new gone unmet same adds T)

-- the sums still hold after one more option is tried
pub sums_more : (v : View) (chosen free rest : List ℕ) (p : ℕ) (old now new : List (List ℕ)) → AreApart chosen rest → In p rest → Sums v chosen free rest old now →
    AddsLeft v (chosen ++ p ∷ []) (without p rest) now new → Sums v chosen free (without p rest) old new
sums_more v chosen free rest p old now new a i s adds = record { sums = λ T. omega (arith, s.sums T, adds T, left_split v chosen rest p T a i) }

pub most_more : (v : View) (chosen free rest : List ℕ) (p : ℕ) (old now new : List (List ℕ)) → AreApart chosen rest → In p rest → Sums v chosen free rest old now →
    AddsAtMost v (chosen ++ p ∷ []) (without p rest) now new → AddsAtMost v chosen free old new
most_more v chosen free rest p old now new a i s adds = λ T. omega (arith, s.sums T, adds T, left_split v chosen rest p T a i)

pub adds_as : (v : View) (c d f g : List ℕ) (old new : List (List ℕ)) → c ≡ d → f ≡ g → AddsLeft v c f old new → AddsLeft v d g old new
adds_as v c d f g old new e k h = λ T. omega (arith, h T, ap (λ l. one (is_left v l f T)) e, ap (λ l. one (is_left v d l T)) k)

pub most_as : (v : View) (c d f g : List ℕ) (old new : List (List ℕ)) → c ≡ d → f ≡ g → AddsAtMost v c f old new → AddsAtMost v d g old new
most_as v c d f g old new e k h = λ T. omega (arith, h T, ap (λ l. one (is_left v l f T)) e, ap (λ l. one (is_left v d l T)) k)

pub adds_wide : (v : View) (c free : List ℕ) (old new : List (List ℕ)) → distinct c ≡ true → AddsLeft v c (filter (λ q. fits_beside v c q) free) old new → AddsLeft v c free old new
adds_wide v c free old new d h = λ T. omega (arith, h T, ap one (left_narrowed v c free T d))

pub most_wide : (v : View) (c free : List ℕ) (old new : List (List ℕ)) → distinct c ≡ true → AddsAtMost v c (filter (λ q. fits_beside v c q) free) old new → AddsAtMost v c free old new
most_wide v c free old new d h = λ T. omega (arith, h T, ap one (left_narrowed v c free T d))

-- at the beginning of the search, all tilings are left
pub first_left : (v : View) (chosen free T : List ℕ) → WellNamed v → chosen ≡ v.pins → free ≡ filter (λ q. fits_beside v chosen q) v.live → is_left v chosen free T ≡ is_tiling v T
first_left v chosen free T wn pins is =
    ap (λ l. is_left v chosen l T) is
    ∙ sym (left_narrowed v chosen v.live T (ap (λ l. distinct l) pins ∙ pins_once v wn))
    ∙ ap (λ l. is_left v l v.live T) pins
    ∙ left_first v T
