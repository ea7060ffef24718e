-- The words of a query, number by number.
use Rattle.std.proofs.Common.{Bool, Fits, List, None, Option, Some, [], ap, arith, cond, eqb, false, get_or, inl, inr, length, min, not, refl, slice_get, subst, suc, sym, take, true, w32, ℕ, ◌&&◌, ◌++◌, ◌+◌, ◌<◌, ◌^◌, ◌||◌, ◌↔◌, ◌∙◌, ◌∷◌, ◌≡◌, ◌≢◌, ◌≤◌}
use Rattle.std.proofs.lemmas.Bool.{and_from, and_parts, both_ways, cases_eq, cases_lt, eq-eqb, eqb-true, false_from_ne_true, ne_eqb, or_cases, or_from, or_left, or_parts, or_right, true≢false}
use Rattle.std.proofs.lemmas.List.{take_more}
use Rattle.std.proofs.lemmas.List.Elements.{Contains-append_left, Contains-push, Contains-push_cases}
use Rattle.std.proofs.lemmas.List.Quantifiers.{all_pairs_push}
use Rattle.std.proofs.lemmas.Option.{slice_get_past}
use Rattle.std.specs.List.{AllPairs, Contains, cons_option, list_all, list_any}
use Rattle.poly_design.specs.declared.placement.Placement.{Placement}
use Rattle.poly_design.proofs.Same.{placement_same}
use Rattle.poly_tiling.specs.Lists.{distinct, mem}
use Rattle.poly_tiling.specs.Names.{WellNamed}
use Rattle.poly_tiling.specs.Puzzle.{View, has_item, items_of, same_item}
use Rattle.poly_tiling.specs.Shows.{names}
use Rattle.poly_tiling.specs.declared.item.Item.{Item}
use Rattle.poly_tiling.proofs.Contained.{at_in, contains_in, in_contains, pairs_none}
use Rattle.poly_tiling.proofs.Lists.{In, all_append, all_from, all_in, any_append, any_from, any_in, in_mem, mem_in, same_truth}
use Rattle.poly_tiling.proofs.Shown.{same_number}
use Rattle.poly_tiling.proofs.Tilings.{same_item_is, same_item_self}
use Rattle.poly_browse.proofs.Rows.{or_false, or_true}
use Rattle.poly_browse.specs.Browsing.{is_in, same_placement}
use Rattle.poly_browse.specs.Gathering.{AreSmall, names_it}
use Rattle.poly_browse.specs.Lines.{AreDifferent}

-- numbers that fit in 32 bits are small
pub small_from : (T : List ℕ) → ((k : ℕ) → Fits w32 (get_or T k 0)) → AreSmall T
small_from [] h = tt
small_from (n ∷ T) h = (let f = h 0 in omega (arith, f), small_from T (λ k. h (suc k)))

-- below `at`, the flag of each number says whether `f` holds for it; the other flags are down
pub record AreFlags (f : ℕ → Bool) (at : ℕ) (flags : List Bool) : Type 0 where
  pub below : (k : ℕ) → k < at → get_or flags k false ≡ f k
  pub above : (k : ℕ) → at ≤ k → get_or flags k false ≡ false

pub no_flags : (f : ℕ → Bool) (flags : List Bool) → flags ≡ [] → AreFlags f 0 flags
no_flags f flags is = record { below = λ k l. absurd (omega (arith, l)); above = λ k l. rw is refl }

pub flag_up : (f : ℕ → Bool) (at : ℕ) (old new : List Bool) → f at ≡ true → ((k : ℕ) → get_or new k false ≡ (get_or old k false || eqb at k)) → AreFlags f at old → AreFlags f (at + 1) new
flag_up f at old new is raised so = record {
  below = λ k l. elim (cases_eq k at) [
    | inl e ↦ raised k ∙ ap (λ b. get_or old k false || b) (eq-eqb at k (sym e)) ∙ or_true (get_or old k false) ∙ sym (ap f e ∙ is)
    | inr n ↦ raised k ∙ ap (λ b. get_or old k false || b) (ne_eqb at k (λ e. n (sym e))) ∙ or_false (get_or old k false) ∙ so.below k (omega arith)
  ];
  above = λ k l. raised k ∙ ap (λ b. get_or old k false || b) (ne_eqb at k (λ e. omega arith)) ∙ or_false (get_or old k false) ∙ so.above k (omega arith);
}

pub flag_down : (f : ℕ → Bool) (at : ℕ) (old : List Bool) → f at ≡ false → AreFlags f at old → AreFlags f (at + 1) old
flag_down f at old is so = record {
  below = λ k l. elim (cases_eq k at) [
    | inl e ↦ so.above k (omega arith) ∙ sym (ap f e ∙ is)
    | inr n ↦ so.below k (omega arith)
  ];
  above = λ k l. so.above k (omega arith);
}

-- if `f` holds for no number from `count` on, and the numbers of 32 bits below `count` are done, then the flag of each number
-- of 32 bits says whether `f` holds for it
pub all_flags : (f : ℕ → Bool) (at count : ℕ) (flags : List Bool) → min count (2 ^ 32) ≤ at → ((k : ℕ) → count ≤ k → f k ≡ false) → AreFlags f at flags → (k : ℕ) → k < 2 ^ 32 → get_or flags k false ≡ f k
all_flags f at count flags over none so k l = elim (cases_lt k at) [
  | inl low ↦ so.below k low
  | inr high ↦ so.above k (omega arith) ∙ sym (none k (omega arith))
]

-- a number past the view's placements names nothing and covers nothing
pub none_named : (v : View) (p : Placement) (k : ℕ) → length v.placements ≤ k → is_in (names v (k ∷ [])) p ≡ false
none_named v p k l = ap (λ o. list_any (λ q. same_placement q p) (cons_option o [])) (slice_get_past v.placements k l)

pub none_covered : (v : View) (i : Item) (k : ℕ) → length v.placements ≤ k → has_item v k i ≡ false
none_covered v i k l = ap (λ o. list_any (λ j. same_item j i) (items_of o)) (slice_get_past v.placements k l)

pub any_small : (f g : ℕ → Bool) (T : List ℕ) → AreSmall T → ((n : ℕ) → n < 2 ^ 32 → f n ≡ g n) → list_any f T ≡ list_any g T
any_small f g [] small same = refl
any_small f g (n ∷ T) small same = ap (λ b. b || list_any f T) (same n small.0) ∙ ap (λ b. g n || b) (any_small f g T small.1 same)

-- ---- tests over the numbers of a tiling

pub any_same : (f g : ℕ → Bool) (T : List ℕ) → ((n : ℕ) → f n ≡ g n) → list_any f T ≡ list_any g T
any_same f g [] same = refl
any_same f g (n ∷ T) same = ap (λ b. b || list_any f T) (same n) ∙ ap (λ b. g n || b) (any_same f g T same)

pub none_small : (f : ℕ → Bool) (T : List ℕ) → AreSmall T → ((n : ℕ) → n < 2 ^ 32 → f n ≡ false) → list_any f T ≡ false
none_small f [] small none = refl
none_small f (n ∷ T) small none = or_from (f n) (list_any f T) (none n small.0) (none_small f T small.1 none)

pub no_flags_raised : (flags : List Bool) (T : List ℕ) → flags ≡ [] → list_any (λ n. get_or flags n false) T ≡ false
no_flags_raised flags [] is = refl
no_flags_raised flags (n ∷ T) is = or_from (get_or flags n false) (list_any (λ n. get_or flags n false) T) (ap (λ l. get_or l n false) is) (no_flags_raised flags T is)

or_swap : (a b c d : Bool) → ((a || b) || (c || d)) ≡ ((a || c) || (b || d))
or_swap true b c d = refl
or_swap false true true d = refl
or_swap false true false d = refl
or_swap false false true d = refl
or_swap false false false d = refl

pub any_either : (f g h : ℕ → Bool) (T : List ℕ) → ((n : ℕ) → f n ≡ (g n || h n)) → list_any f T ≡ (list_any g T || list_any h T)
any_either f g h [] same = refl
any_either f g h (n ∷ T) same = ap (λ b. b || list_any f T) (same n) ∙ ap (λ b. (g n || h n) || b) (any_either f g h T same) ∙ or_swap (g n) (h n) (list_any g T) (list_any h T)

pub none_is : {X : Type 0} (f : X → Bool) (xs : List X) → not (list_any f xs) ≡ list_all (λ x. not (f x)) xs
none_is f [] = refl
none_is f (x ∷ xs) = at (f x) (none_is f xs)
  where
    at : (b : Bool) → not (list_any f xs) ≡ list_all (λ x. not (f x)) xs → not (b || list_any f xs) ≡ (not b && list_all (λ x. not (f x)) xs)
    at true e = refl
    at false e = e

pub and_true : (b : Bool) → b ≡ (b && true)
and_true true = refl
and_true false = refl

-- ---- one more word

pub all_more : {X : Type 0} (f : X → Bool) (xs : List X) (i : ℕ) (x : X) → i < length xs → x ≡ get_or xs i x → list_all f (take (i + 1) xs) ≡ (list_all f (take i xs) && f x)
all_more f xs i x low is = ap (list_all f) (take_more xs i x low ∙ ap (λ z. take i xs ++ z ∷ []) (sym is)) ∙ all_append f (take i xs) (x ∷ []) ∙ ap (λ b. list_all f (take i xs) && b) (sym (and_true (f x)))

pub any_more : {X : Type 0} (f : X → Bool) (xs : List X) (i : ℕ) (x : X) → i < length xs → x ≡ get_or xs i x → list_any f (take (i + 1) xs) ≡ (list_any f (take i xs) || f x)
any_more f xs i x low is = ap (list_any f) (take_more xs i x low ∙ ap (λ z. take i xs ++ z ∷ []) (sym is)) ∙ any_append f (take i xs) (x ∷ []) ∙ ap (λ b. list_any f (take i xs) || b) (or_false (f x))

-- if one element fails the test, not all of them pass it
pub all_not : {X : Type 0} (f : X → Bool) (xs : List X) (i : ℕ) (x : X) → i < length xs → x ≡ get_or xs i x → f x ≡ false → list_all f xs ≡ false
all_not f xs i x low is fails = false_from_ne_true (list_all f xs) (λ h. both_ways (f x) fails (all_in f xs h x (subst (λ z. In z xs) (sym is) (at_in xs i x low))))

-- ---- the one number of a placement

named_is : (v : View) (n : ℕ) (p : Placement) → is_in (names v (n ∷ [])) p ≡ true → slice_get v.placements n ≡ Some p
named_is v n p h = at (slice_get v.placements n) h
  where
    at : (o : Option Placement) → list_any (λ q. same_placement q p) (cons_option o []) ≡ true → o ≡ Some p
    at None h = absurd (true≢false (sym h))
    at (Some x) h = ap (λ (z : Placement). Some z) (placement_same x p (sym (or_false (same_placement x p)) ∙ h))

pub one_name : (v : View) (p : Placement) (k n : ℕ) → WellNamed v → is_in (names v (k ∷ [])) p ≡ true → is_in (names v (n ∷ [])) p ≡ eqb n k
one_name v p k n wn here = same_truth (is_in (names v (n ∷ [])) p) (eqb n k)
    (λ e. eq-eqb n k (same_number v wn n k p (named_is v n p e) (named_is v k p here)))
    (λ e. ap (λ m. is_in (names v (m ∷ [])) p) (eqb-true n k e) ∙ here)

eqb_swap : (a b : ℕ) → eqb a b ≡ eqb b a
eqb_swap a b = same_truth (eqb a b) (eqb b a) (λ e. eq-eqb b a (sym (eqb-true a b e))) (λ e. eq-eqb a b (sym (eqb-true b a e)))

-- after the flag of a placement's number is raised, a tiling has a flagged number exactly if it had one before or has the
-- placement
pub flag_named : (v : View) (p : Placement) (k : ℕ) (old new : List Bool) (T : List ℕ) (before : Bool) → ((n : ℕ) → is_in (names v (n ∷ [])) p ≡ eqb n k) → ((n : ℕ) → get_or new n false ≡ (get_or old n false || eqb k n)) →
    list_any (λ n. get_or old n false) T ≡ before → list_any (λ n. get_or new n false) T ≡ (before || names_it v T p)
flag_named v p k old new T before only raised so =
    any_either (λ n. get_or new n false) (λ n. get_or old n false) (λ n. eqb k n) T raised
    ∙ ap (λ b. b || list_any (λ n. eqb k n) T) so
    ∙ ap (λ b. before || b) (any_same (λ n. eqb k n) (λ n. is_in (names v (n ∷ [])) p) T (λ n. eqb_swap k n ∙ sym (only n)))

-- ---- a list of different numbers

-- all numbers pass a test after one is added exactly if the old ones and the added one pass it
pub all_added : (f : ℕ → Bool) (old new : List ℕ) (x : ℕ) → ((k : ℕ) → mem new k ≡ (mem old k || eqb x k)) → list_all f new ≡ (list_all f old && f x)
all_added f old new x is = same_truth (list_all f new) (list_all f old && f x)
    (λ h. and_from _ _
    (all_from f old (λ k i. all_in f new h k (mem_in new k (is k ∙ or_left (mem old k) (eqb x k) (in_mem old k i)))))
    (all_in f new h x (mem_in new x (is x ∙ or_right (mem old x) (eqb x x) (eq-eqb x x refl)))))
    (λ h.
    let p = and_parts (list_all f old) (f x) h in
    all_from f new (λ k i. elim (or_cases (mem old k) (eqb x k) (sym (is k) ∙ in_mem new k i)) [
      | inl e ↦ all_in f old p.0 k (mem_in old k e)
      | inr e ↦ sym (ap f (eqb-true x k e)) ∙ p.1
    ]))

-- adding a number that the list has already changes no membership
pub mem_again : (xs : List ℕ) (x : ℕ) → mem xs x ≡ true → (k : ℕ) → mem xs k ≡ (mem xs k || eqb x k)
mem_again xs x here k = same_truth (mem xs k) (mem xs k || eqb x k) (λ h. or_left (mem xs k) (eqb x k) h)
    (λ h. elim (or_cases (mem xs k) (eqb x k) h) [ inl e ↦ e | inr e ↦ ap (mem xs) (sym (eqb-true x k e)) ∙ here ])

pub mem_push : (xs : List ℕ) (x k : ℕ) → mem (xs ++ x ∷ []) k ≡ (mem xs k || eqb x k)
mem_push xs x k = any_append (λ y. eqb y k) xs (x ∷ []) ∙ ap (λ b. mem xs k || b) (or_false (eqb x k))

pub distinct_push : (xs : List ℕ) (n : ℕ) → distinct xs ≡ true → mem xs n ≡ false → distinct (xs ++ n ∷ []) ≡ true
distinct_push [] n once lacks = refl
distinct_push (x ∷ xs) n once lacks =
    let p = and_parts (list_all (λ y. cond (eqb x y) false true) xs) (distinct xs) once in
    let q = or_parts (eqb x n) (mem xs n) lacks in
    and_from _ _
    (all_append (λ y. cond (eqb x y) false true) xs (n ∷ []) ∙ and_from _ _ p.0 (and_from _ _ (ap (λ b. cond b false true) q.0) refl))
    (distinct_push xs n p.1 q.1)

-- ---- items without repeats

pub different_none : (list : List Item) → list ≡ [] → AreDifferent [] list
different_none list is = record { same = λ i. subst (λ (z : List Item). Contains z i ↔ Contains [] i) (sym is) (λ c. c, λ c. c); apart = subst (AllPairs (λ (i j : Item). i ≢ j)) (sym is) (pairs_none (λ (i j : Item). i ≢ j)) }

-- an item that the list has already is skipped
pub different_skip : (items list : List Item) (i : ℕ) (x : Item) → i < length items → x ≡ get_or items i x → list_any (λ j. same_item j x) list ≡ true → AreDifferent (take i items) list → AreDifferent (take (i + 1) items) list
different_skip items list i x low is here so =
    let t = take_more items i x low ∙ ap (λ z. take i items ++ z ∷ []) (sym is) in
    let r = any_in (λ j. same_item j x) list here in
    let found : Contains list x = in_contains list x (subst (λ z. In z list) (same_item_is r.0 x r.2) r.1) in
    subst (λ (z : List Item). AreDifferent z list) (sym t) (record {
      same = λ y. (
        λ c. Contains-append_left (take i items) (x ∷ []) y ((so.same y).0 c),
        λ c. elim (Contains-push_cases (take i items) x y c) [ inl h ↦ (so.same y).1 h | inr e ↦ subst (Contains list) e found ],
      );
      apart = so.apart;
    })

-- an item that the list doesn't have yet is added to it
pub different_push : (items list new : List Item) (i : ℕ) (x : Item) → i < length items → x ≡ get_or items i x → list_any (λ j. same_item j x) list ≡ false → new ≡ list ++ x ∷ [] → AreDifferent (take i items) list → AreDifferent (take (i + 1) items) new
different_push items list new i x low is none pushed so =
    let t = take_more items i x low ∙ ap (λ z. take i items ++ z ∷ []) (sym is) in
    subst (λ (z : List Item). AreDifferent z new) (sym t) (subst (λ (z : List Item). AreDifferent (take i items ++ x ∷ []) z) (sym pushed) (record {
      same = λ y. (
        λ c. elim (Contains-push_cases list x y c) [ inl h ↦ Contains-append_left (take i items) (x ∷ []) y ((so.same y).0 h) | inr e ↦ subst (Contains (take i items ++ x ∷ [])) e (Contains-push (take i items) x) ],
        λ c. elim (Contains-push_cases (take i items) x y c) [ inl h ↦ Contains-append_left list (x ∷ []) y ((so.same y).1 h) | inr e ↦ subst (Contains (list ++ x ∷ [])) e (Contains-push list x) ],
      );
      apart = all_pairs_push (λ (a b : Item). a ≢ b) list x so.apart (λ k d l e. both_ways (list_any (λ j. same_item j x) list) none
          (any_from (λ j. same_item j x) list (get_or list k d) (at_in list k d l) (ap (λ z. same_item z x) e ∙ same_item_self x)));
    }))

pub all_different : (f : Item → Bool) (items list : List Item) → AreDifferent items list → list_all f list ≡ list_all f items
all_different f items list d = same_truth (list_all f list) (list_all f items)
    (λ h. all_from f items (λ x i. all_in f list h x (contains_in list x ((d.same x).1 (in_contains items x i)))))
    (λ h. all_from f list (λ x i. all_in f items h x (contains_in items x ((d.same x).0 (in_contains list x i)))))
