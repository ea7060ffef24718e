-- Lists as loops go through them, and tests over the placements that numbers name.
use Rattle.std.proofs.Common.{Bool, IfNone, IfSome, List, None, Option, Some, SomeIff, [], ap, arith, cond, eqb, false, get_or, inl, inr, length, not, refl, set, slice_get, subst, suc, sym, take, true, zero, ℕ, ◌&&◌, ◌++◌, ◌+◌, ◌<◌, ◌≤◌, ◌||◌, ◌∙◌, ◌∷◌, ◌≡◌}
use Rattle.std.proofs.lemmas.Bool.{and_from, and_parts, cases_eq, cases_lt, eq-eqb, ne_eqb, true≢false}
use Rattle.std.proofs.lemmas.Grind.{get_or-set_at}
use Rattle.std.proofs.lemmas.List.{get_or-set_other, get_or-take, get_or_past, get_or_read, take_more}
use Rattle.std.proofs.lemmas.List.Elements.{filter_map-append}
use Rattle.std.specs.Cmp.{IsEquivalence, tied_itself}
use Rattle.std.specs.List.{AllWithin, Contains, cons_option, filter, list_all, list_any}
use Rattle.std.specs.List.Retain.{DiffersFromLast, IsFiltered}
use Rattle.std.specs.List.Sorted.{IsPermutation, IsSorted}
use Rattle.std.specs.Ordering.{eq_by_cmp, is_eq, nat_cmp}
use Rattle.std.specs.declared.cmp.Ordering.{Ordering}
use Rattle.std.specs.declared.cmp.Ordering.TheVariants.{Equal, Greater, Less}
use Rattle.poly_design.specs.Listed.{IsListOf}
use Rattle.poly_design.specs.PlacementOrder.{placement_cmp, placement_total}
use Rattle.poly_design.specs.declared.placement.Placement.{Placement}
use Rattle.poly_design.proofs.Outside.{same_placement as same_ordered}
use Rattle.poly_design.proofs.Same.{placement_itself, placement_same}
use Rattle.poly_design.proofs.Sets.{lacks_nil, listed_from}
use Rattle.poly_tiling.specs.Lists.{ascending, mem, put_all}
use Rattle.poly_tiling.specs.Puzzle.{View, has_item, items_of, same_item}
use Rattle.poly_tiling.specs.Shows.{names}
use Rattle.poly_tiling.specs.Tilings.{carries}
use Rattle.poly_tiling.specs.declared.item.Item.{Item}
use Rattle.poly_tiling.proofs.Ascending.{ascending_from, ascending_rest, ascending_same, below_all, in_put_all_left, put_all_in, put_all_up}
use Rattle.poly_tiling.proofs.Contained.{low_get}
use Rattle.poly_tiling.proofs.Lists.{In, any_append, filter_in, in_append_cases, in_filter, in_mem, mem_in, same_truth}
use Rattle.poly_tiling.proofs.Sorting.{sorted_ascend, sorted_same}
use Rattle.poly_browse.specs.Browsing.{Asked, is_covered, is_in, matches, same_placement}
use Rattle.poly_browse.specs.Gathering.{has_it, names_it}

pub if_some : {T : Type 0} (P : Type 0) (v : T) (Q : T → Type 0) (o : Option T) → SomeIff o P v → (P → Q v) → IfSome o Q
if_some P v Q None h q = tt
if_some P v Q (Some x) h q = subst Q (sym h.1) (q h.0)

pub if_none : {T : Type 0} (P : Type 0) (v : T) (Q : Type 0) (o : Option T) → SomeIff o P v → ((P → ⊥) → Q) → IfNone o Q
if_none P v Q None h q = q h
if_none P v Q (Some x) h q = tt

-- one of the named placements passes a test exactly if some number names one that does
pub any_named : (v : View) (f : Placement → Bool) (T : List ℕ) → list_any (λ n. list_any f (names v (n ∷ []))) T ≡ list_any f (names v T)
any_named v f [] = refl
any_named v f (n ∷ T) = at (slice_get v.placements n) (any_named v f T)
  where
    at : (o : Option Placement) → list_any (λ n. list_any f (names v (n ∷ []))) T ≡ list_any f (names v T) →
        (list_any f (cons_option o []) || list_any (λ n. list_any f (names v (n ∷ []))) T) ≡ list_any f (cons_option o (names v T))
    at None e = e
    at (Some x) e = tail (f x) e
      where
        tail : {a b : Bool} (c : Bool) → a ≡ b → ((c || false) || a) ≡ (c || b)
        tail true e = refl
        tail false e = e

pub any_has_item : (v : View) (i : Item) (T : List ℕ) → list_any (λ n. has_item v n i) T ≡ is_covered (names v T) i
any_has_item v i [] = refl
any_has_item v i (n ∷ T) = at (slice_get v.placements n) (any_has_item v i T)
  where
    at : (o : Option Placement) → list_any (λ n. has_item v n i) T ≡ is_covered (names v T) i →
        (list_any (λ j. same_item j i) (items_of o) || list_any (λ n. has_item v n i) T) ≡ list_any (λ p. carries p i) (cons_option o (names v T))
    at None e = e
    at (Some x) e = ap (λ b. carries x i || b) e

-- what the first k + 1 numbers name is what the first k name, and then what the next one names
pub named_more : (v : View) (T : List ℕ) (k d : ℕ) → k < length T → names v (take (k + 1) T) ≡ names v (take k T) ++ names v (get_or T k d ∷ [])
named_more v T k d l = ap (λ l. names v l) (take_more T k d l) ∙ filter_map-append (λ n. slice_get v.placements n) (take k T) (get_or T k d ∷ [])

-- ---- one step further

pub within_more : {X : Type 0} (P : X → Type 0) (xs : List X) (i : ℕ) (x : X) → i < length xs → x ≡ get_or xs i x → AllWithin P xs 0 i → P x → AllWithin P xs 0 (i + 1)
within_more P xs i x lt is so here k d low l = elim (cases_eq k i) [
  | inl e ↦ subst P (get_or_read xs i x lt is d ∙ ap (λ n. get_or xs n d) (sym e)) here
  | inr n ↦ so k d low (omega arith)
]

pub if_none_any : {T : Type 0} (o : Option T) (P : Type 0) → P → IfNone o P
if_none_any None P p = p
if_none_any (Some x) P p = tt

pub names_length : (v : View) (T : List ℕ) → ((n : ℕ) → In n T → n < length v.placements) → length (names v T) ≡ length T
names_length v [] h = refl
names_length v (n ∷ T) h =
    let x = low_get v.placements n (h n (inl refl)) in
    ap (λ o. length (cons_option o (names v T))) x.1 ∙ ap suc (names_length v T (λ k i. h k (inr i)))

pub kept_short : {X : Type 0} (f : X → Bool) (xs : List X) → length (filter f xs) ≤ length xs
kept_short f [] = omega arith
kept_short f (x ∷ xs) = at (f x) (kept_short f xs)
  where
    at : (b : Bool) → length (filter f xs) ≤ length xs → length (cond b (x ∷ filter f xs) (filter f xs)) ≤ suc (length xs)
    at true l = omega arith
    at false l = omega arith

pub taken_short : {X : Type 0} (n : ℕ) (xs : List X) → length (take n xs) ≤ n
taken_short zero xs = omega arith
taken_short (suc n) [] = omega arith
taken_short (suc n) (x ∷ xs) = let l = taken_short n xs in omega arith

pub ascending_push : (xs : List ℕ) (n : ℕ) → ascending xs ≡ true → ((y : ℕ) → In y xs → y < n) → ascending (xs ++ n ∷ []) ≡ true
ascending_push [] n up low = refl
ascending_push (x ∷ xs) n up low = ascending_from x (xs ++ n ∷ [])
    (λ y i. elim (in_append_cases y xs (n ∷ []) i) [
      | inl j ↦ below_all x xs up y j
      | inr j ↦ elim j [ inl e ↦ subst (λ z. x < z) e (low x (inl refl)) | inr k ↦ absurd k ]
    ])
    (ascending_push xs n (ascending_rest x xs up) (λ y i. low y (inr i)))

-- a raised flag among the first `i` has an index below `i`
pub raised_low : (i : ℕ) (flags : List Bool) (k : ℕ) → get_or (take i flags) k false ≡ true → k < i
raised_low zero flags k h = absurd (true≢false (sym h))
raised_low (suc i) [] k h = absurd (true≢false (sym h))
raised_low (suc i) (f ∷ flags) zero h = omega arith
raised_low (suc i) (f ∷ flags) (suc k) h = let l = raised_low i flags k h in omega arith

-- the raised flags among the first i + 1 are those among the first i, and flag i if it is raised
pub flag_more : (i : ℕ) (flags : List Bool) (b : Bool) → i < length flags → get_or flags i false ≡ b → (k : ℕ) → get_or (take (i + 1) flags) k false ≡ (get_or (take i flags) k false || (b && eqb i k))
flag_more i flags b l e k = elim (cases_eq k i) [
  | inl same ↦
      let short = taken_short i flags in
      get_or-take (i + 1) flags k false (omega arith) ∙ ap (λ n. get_or flags n false) same ∙ e
      ∙ sym (ap (λ x. x || (b && eqb i k)) (get_or_past (take i flags) k false (omega arith)) ∙ ap (λ t. b && t) (eq-eqb i k (sym same)) ∙ and_yes b)
  | inr differ ↦
      sym (ap (λ t. get_or (take i flags) k false || (b && t)) (ne_eqb i k (λ h. differ (sym h))) ∙ or_no (get_or (take i flags) k false) b
      ∙ elim (cases_lt k i) [
        | inl low ↦ get_or-take i flags k false low ∙ sym (get_or-take (i + 1) flags k false (omega arith))
        | inr high ↦
            let short = taken_short i flags in
            let long = taken_short (i + 1) flags in
            get_or_past (take i flags) k false (omega arith) ∙ sym (get_or_past (take (i + 1) flags) k false (omega arith))
      ])
]
  where
    and_yes : (b : Bool) → (b && true) ≡ b
    and_yes true = refl
    and_yes false = refl

    or_no : (a b : Bool) → (a || (b && false)) ≡ a
    or_no true b = refl
    or_no false true = refl
    or_no false false = refl

pub or_false : (b : Bool) → (b || false) ≡ b
or_false true = refl
or_false false = refl

pub or_true : (b : Bool) → (b || true) ≡ true
or_true true = refl
or_true false = refl

or_group : (a b c : Bool) → ((a || b) || c) ≡ (a || (b || (c || false)))
or_group true b c = refl
or_group false true c = refl
or_group false false true = refl
or_group false false false = refl

-- the members of the first i + 1 numbers are those of the first i, and the number at index i
pub mem_more : (old : Bool) (xs : List ℕ) (i k : ℕ) → i < length xs → ((old || mem (take i xs) k) || eqb (get_or xs i 0) k) ≡ (old || mem (take (i + 1) xs) k)
mem_more old xs i k low = or_group old (mem (take i xs) k) (eqb (get_or xs i 0) k)
    ∙ ap (λ b. old || b) (sym (ap (λ z. mem z k) (take_more xs i 0 low) ∙ any_append (λ y. eqb y k) (take i xs) (get_or xs i 0 ∷ [])))

-- setting a flag raises that flag and no other; a number past the flags raises none
pub set_up : (flags : List Bool) (at k : ℕ) → at < length flags → get_or (set flags at true) k false ≡ (get_or flags k false || eqb at k)
set_up flags at k low = elim (cases_eq k at) [
  | inl e ↦ get_or-set_at flags at k true false e low ∙ sym (ap (λ b. get_or flags k false || b) (eq-eqb at k (sym e)) ∙ or_true (get_or flags k false))
  | inr n ↦ get_or-set_other flags at k true false n ∙ sym (ap (λ b. get_or flags k false || b) (ne_eqb at k (λ e. n (sym e))) ∙ or_false (get_or flags k false))
]

pub past_up : (flags : List Bool) (at k : ℕ) → length flags ≤ at → k < length flags → get_or flags k false ≡ (get_or flags k false || eqb at k)
past_up flags at k high low = sym (ap (λ b. get_or flags k false || b) (ne_eqb at k (λ e. omega (arith, e, high, low))) ∙ or_false (get_or flags k false))

-- ---- placements in order

placement_eq : IsEquivalence same_placement
placement_eq = record {
  refl = λ x. placement_itself x x refl;
  symm = λ x y. same_truth (same_placement x y) (same_placement y x) (λ h. placement_itself y x (sym (placement_same x y h))) (λ h. placement_itself x y (sym (placement_same y x h)));
  congr = λ x y z h. ap (λ w. same_placement w z) (placement_same x y h);
}

placement_ties : (x y : Placement) → same_placement x y ≡ eq_by_cmp placement_cmp x y
placement_ties x y = same_truth (same_placement x y) (eq_by_cmp placement_cmp x y)
    (λ h. subst (λ z. eq_by_cmp placement_cmp x z ≡ true) (placement_same x y h) (ap is_eq (tied_itself placement_total x)))
    (λ h. placement_itself x y (same_ordered x y (equal_from (placement_cmp x y) h)))
  where
    equal_from : (o : Ordering) → is_eq o ≡ true → o ≡ Equal
    equal_from Equal h = refl
    equal_from Less h = absurd (true≢false (sym h))
    equal_from Greater h = absurd (true≢false (sym h))

-- sorting placements and dropping repeats lists each of them once, in placement order
pub listed_sorted : (xs ys zs : List Placement) → IsPermutation xs ys → IsSorted placement_cmp ys → IsFiltered (DiffersFromLast same_placement) [] ys zs → IsListOf placement_cmp (Contains xs) zs
listed_sorted xs ys zs moved sorted kept = listed_from placement_total placement_eq placement_ties placement_same (Contains xs) xs ys zs
    (λ x. (λ c. inr c, λ c. elim c [ inl none ↦ absurd (lacks_nil x none) | inr h ↦ h ])) moved sorted kept

-- sorting numbers and dropping repeats gives the same list as putting each into its place
pub image_sorted : (xs sorted out : List ℕ) → IsPermutation xs sorted → IsSorted nat_cmp sorted → IsFiltered (DiffersFromLast eqb) [] sorted out → out ≡ put_all xs []
image_sorted xs sorted out moved up kept = ascending_same out (put_all xs []) (sorted_ascend sorted out up kept) (put_all_up xs [] refl)
    (λ z i. in_put_all_left xs [] z (mem_in xs z (sym (sorted_same xs sorted out moved kept z) ∙ in_mem out z i)))
    (λ z i. mem_in out z (sorted_same xs sorted out moved kept z ∙ in_mem xs z (elim (put_all_in xs [] z i) [ inl j ↦ j | inr j ↦ absurd j ])))

pub mem_filter : (f : ℕ → Bool) (xs : List ℕ) (n : ℕ) → mem (filter f xs) n ≡ (mem xs n && f n)
mem_filter f xs n = same_truth _ _
    (λ h. let r = filter_in f xs n (mem_in (filter f xs) n h) in and_from _ _ (in_mem xs n r.0) r.1)
    (λ h. let r = and_parts (mem xs n) (f n) h in in_mem (filter f xs) n (in_filter f xs n (mem_in xs n r.0) r.1))

pub all_as : {X : Type 0} (f g : X → Bool) (xs : List X) → ((x : X) → f x ≡ g x) → list_all f xs ≡ list_all g xs
all_as f g [] same = refl
all_as f g (x ∷ xs) same = ap (λ b. b && list_all f xs) (same x) ∙ ap (λ b. g x && b) (all_as f g xs same)

-- if each number of a list names a placement, the number at an index names the one at the same index of the named placements
pub named_at : (v : View) (T : List ℕ) → ((n : ℕ) → In n T → n < length v.placements) → (k e : ℕ) (d : Placement) → k < length T → slice_get v.placements (get_or T k e) ≡ Some (get_or (names v T) k d)
named_at v [] h k e d l = absurd (omega arith)
named_at v (n ∷ T) h k e d l =
    let x = low_get v.placements n (h n (inl refl)) in
    let is : names v (n ∷ T) ≡ x.0 ∷ names v T = ap (λ o. cons_option o (names v T)) x.1 in
    at k x.0 x.1 (named_at v T (λ m i. h m (inr i))) l ∙ ap (λ (l : List Placement). Some (get_or l k d)) (sym is)
  where
    at : (k : ℕ) (x : Placement) → slice_get v.placements n ≡ Some x → ((k e : ℕ) (d : Placement) → k < length T → slice_get v.placements (get_or T k e) ≡ Some (get_or (names v T) k d)) → k < length (n ∷ T) →
        slice_get v.placements (get_or (n ∷ T) k e) ≡ Some (get_or (x ∷ names v T) k d)
    at zero x is ih l = is
    at (suc k) x is ih l = ih k e d (omega arith)

-- whether a tiling meets what is asked, by its numbers
pub meets_is : (v : View) (q : Asked) (T : List ℕ) → matches q (names v T) ≡ (list_all (λ p. names_it v T p) q.has && list_all (λ p. not (names_it v T p)) q.lacks && list_all (λ i. has_it v T i) q.covers)
meets_is v q T =
    ap (λ b. b && list_all (λ p. not (is_in (names v T) p)) q.lacks && list_all (λ i. is_covered (names v T) i) q.covers)
    (all_as (λ p. is_in (names v T) p) (λ p. names_it v T p) q.has (λ p. sym (any_named v (λ r. same_placement r p) T)))
    ∙ ap (λ b. list_all (λ p. names_it v T p) q.has && b && list_all (λ i. is_covered (names v T) i) q.covers)
    (all_as (λ p. not (is_in (names v T) p)) (λ p. not (names_it v T p)) q.lacks (λ p. ap not (sym (any_named v (λ r. same_placement r p) T))))
    ∙ ap (λ b. list_all (λ p. names_it v T p) q.has && list_all (λ p. not (names_it v T p)) q.lacks && b)
    (all_as (λ i. is_covered (names v T) i) (λ i. has_it v T i) q.covers (λ i. sym (any_has_item v i T)))
