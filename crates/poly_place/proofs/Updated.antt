-- The numbers after a change of one cell or one piece: those that the change leaves alone, and those of the placements that
-- are listed again.
use Rattle.std.proofs.Common.{Bool, Less, List, None, Option, Some, [], ap, arith, eqb, false, get_or, inl, inr, length, map, not, refl, slice_get, subst, suc, sym, true, zero, ℕ, ◌++◌, ◌+◌, ◌<◌, ◌∙◌, ◌∷◌, ◌≡◌, ◌≢◌, ◌⊎◌}
use Rattle.std.specs.Prelude.{filter, slice_index_or}
use Rattle.std.specs.List.{AllPairs, Contains, cons_option, filter_map, list_all}
use Rattle.std.specs.List.Sorted.{IsPermutation}
use Rattle.std.specs.Option.{option_cmp}
use Rattle.std.specs.Ordering.{is_lt}
use Rattle.std.proofs.lemmas.Bool.{and_parts, both_ways, cases_Bool, eq-eqb, eqb-true, not-true, not_from_false}
use Rattle.std.proofs.lemmas.List.Kept.{AllPairs-filter}
use Rattle.std.proofs.lemmas.List.MinMax.{ranks_by}
use Rattle.std.proofs.lemmas.List.Sorted.{Contains-permutation, IsPermutation-sym}
use Rattle.std.proofs.lemmas.Bool.Decides.{Decides-eqb}
use Rattle.std.proofs.lemmas.Map.Keys.{IsDistinct-IsPermutation}
use Rattle.std.proofs.lemmas.Map.Made.{AllPairs-from_IsDistinct, IsDistinct-from_AllPairs}
use Rattle.poly_shape.specs.Order.{IsAscending}
use Rattle.poly_design.specs.Changes.{changed}
use Rattle.poly_design.specs.Layout.{Layout}
use Rattle.poly_design.specs.Listed.{IsListOf}
use Rattle.poly_design.specs.PlacementOrder.{placement_cmp, placement_total}
use Rattle.poly_design.specs.Placements.{IsPlacement}
use Rattle.poly_design.specs.declared.change.Change.{Change}
use Rattle.poly_design.specs.declared.placement.Placement.{Placement}
use Rattle.poly_tiling.specs.Lists.{distinct}
use Rattle.poly_tiling.specs.Names.{WellNamed, below, in_order, placed_below}
use Rattle.poly_tiling.specs.Puzzle.{View}
use Rattle.poly_tiling.specs.Shows.{Shows}
use Rattle.poly_tiling.proofs.Ascending.{distinct_rest, not_head}
use Rattle.poly_tiling.proofs.Contained.{contains_in, get_low, in_contains, one_place, pairs_cons, pairs_head, pairs_none, pairs_rest}
use Rattle.poly_tiling.proofs.Listings.{apart_from, below_by, distinct_filter, same_placement, steps_ascend}
use Rattle.poly_tiling.proofs.Lists.{In, all_in, filter_in, in_append_cases, in_append_left, in_append_right, in_filter, in_mem, same_truth, slice_get_front}
use Rattle.poly_tiling.proofs.Orders.{live_once}
use Rattle.poly_tiling.proofs.Reached.{not_both}
use Rattle.poly_tiling.proofs.Shown.{live_given, some_same}
use Rattle.poly_place.specs.Interned.{AreNumbersOf, GoesOnWith}
use Rattle.poly_place.specs.Touched.{AreInOrder, AreMarked, comes_before, touches, touches_named}
use Rattle.poly_place.proofs.Merging.{pairs_append}
use Rattle.poly_place.proofs.Numbers.{first_named, rest_named}
use Rattle.poly_place.proofs.Righted.{in_number, number_in}
use Rattle.poly_place.proofs.Untouched.{untouched_stays, untouched_was}

-- ---- numbers that occur once

pub apart_list : (xs : List ℕ) → distinct xs ≡ true → AllPairs (λ x y. x ≢ y) xs
apart_list [] h = pairs_none (λ x y. x ≢ y)
apart_list (x ∷ xs) h = pairs_cons (λ x y. x ≢ y) x xs (λ y i e. not_head x xs h (subst (λ z. In z xs) (sym e) i)) (apart_list xs (distinct_rest x xs h))

pub apart_both : (xs ys : List ℕ) → AllPairs (λ x y. x ≢ y) xs → AllPairs (λ x y. x ≢ y) ys → ((n : ℕ) → In n xs → In n ys → ⊥) → AllPairs (λ x y. x ≢ y) (xs ++ ys)
apart_both xs ys a b far = pairs_append (λ x y. x ≢ y) xs ys a b (λ x y i j e. far x i (subst (λ z. In z ys) (sym e) j))

flips : (x y : ℕ) → eqb x y ≡ eqb y x
flips x y = same_truth (eqb x y) (eqb y x) (λ h. eq-eqb y x (sym (eqb-true x y h))) (λ h. eq-eqb x y (sym (eqb-true y x h)))

-- ---- what numbers name

abbrev names_of : List Placement → List ℕ → List Placement
names_of all ns = filter_map (λ n. slice_get all n) ns

all_named : (all : List Placement) (ns : List ℕ) → ((n : ℕ) → In n ns → (p : Placement) × (slice_get all n ≡ Some p)) → AreNumbersOf all ns (names_of all ns)
all_named all [] h = refl
all_named all (n ∷ ns) h =
    let p = h n (inl refl) in
    ap (λ o. o ∷ map (λ n. slice_get all n) ns) p.1
    ∙ ap (λ os. Some p.0 ∷ os) (all_named all ns (λ m i. h m (inr i)))
    ∙ sym (ap (λ o. map Some (cons_option o (names_of all ns))) p.1)

named_at : (all : List Placement) (ns : List ℕ) (ps : List Placement) → AreNumbersOf all ns ps → (k : ℕ) (d : Placement) → k < length ps → slice_get all (get_or ns k 0) ≡ Some (get_or ps k d)
named_at all ns [] e k d l = absurd (omega arith)
named_at all [] (p ∷ ps) e k d l = cc
named_at all (n ∷ ns) (p ∷ ps) e zero d l = first_named all ps n ns p e
named_at all (n ∷ ns) (p ∷ ps) e (suc k) d l = named_at all ns ps (rest_named all ps n ns p e) k d (omega arith)

as_many : (all : List Placement) (ns : List ℕ) (ps : List Placement) → AreNumbersOf all ns ps → length ns ≡ length ps
as_many all [] [] e = refl
as_many all [] (p ∷ ps) e = cc
as_many all (n ∷ ns) [] e = cc
as_many all (n ∷ ns) (p ∷ ps) e = let r = as_many all ns ps (rest_named all ps n ns p e) in omega arith

-- if numbers are in order, each once, then the placements that they name are in ascending order
names_up : (all : List Placement) (ns : List ℕ) (ps : List Placement) → AllPairs (λ x y. x ≢ y) all → AreNumbersOf all ns ps → AllPairs (λ x y. x ≢ y) ns → AreInOrder all ns → IsAscending placement_cmp ps
names_up all ns ps apart e once up = steps_ascend placement_total ps (λ k d l.
    let n = as_many all ns ps e in
    let a = named_at all ns ps e k d (omega arith) in
    let b = named_at all ns ps e (k + 1) d l in
    below_by placement_total same_placement (get_or ps k d) (get_or ps (k + 1) d)
    (sym (λ i. is_lt (option_cmp placement_cmp (b i) (a i))) ∙ up k (k + 1) 0 (omega arith) (omega arith))
    (λ same. once k (k + 1) 0 (omega arith) (omega arith) (one_place all apart (get_or ns k 0) (get_or ns (k + 1) 0) (get_or ps (k + 1) d) (a ∙ ap Some same) b)))

-- ---- what stays

pub record IsKept (v : View) (x : Change) (n : ℕ) : Type 0 where
  pub place : Placement
  pub live : In n v.live
  pub named : slice_get v.placements n ≡ Some place
  pub alone : touches x place ≡ false

-- the live numbers without a mark
abbrev pub unmarked_in : View → List Bool → List ℕ
unmarked_in v marks = filter (λ n. not (slice_index_or marks n false)) v.live

pub kept_is : (v : View) (x : Change) (marks : List Bool) → WellNamed v → AreMarked v x marks → (n : ℕ) → In n (unmarked_in v marks) → IsKept v x n
kept_is v x marks w m n i =
    let r = filter_in (λ n. not (slice_index_or marks n false)) v.live n i in
    let p = live_given v w n r.0 in
    record { place = p.0; live = r.0; named = p.1; alone = sym (ap (λ o. touches_named x o) p.1) ∙ sym (m n (in_mem v.live n r.0)) ∙ not-true (slice_index_or marks n false) r.1 }

pub stays_named : (old new found : List Placement) → GoesOnWith old found new → (n : ℕ) (p : Placement) → slice_get old n ≡ Some p → slice_get new n ≡ Some p
stays_named old new found g n p e = ap (λ l. slice_get l n) g.appended ∙ slice_get_front old g.more n (get_low old n p e) ∙ e

-- ---- both lists are in order

names_before : (all : List Placement) (m n : ℕ) (x y : Placement) → slice_get all m ≡ Some x → slice_get all n ≡ Some y → is_lt (placement_cmp x y) ≡ true → comes_before all n m ≡ false
names_before all m n x y a b h =
    ap (λ o. is_lt (option_cmp placement_cmp o (slice_get all m))) b
    ∙ ap (λ o. is_lt (option_cmp placement_cmp (Some y) o)) a
    ∙ (ranks_by placement_total (λ (p : Placement). p)).one_way x y h

placed : (o q : Option Placement) → placed_below o q ≡ true → (x : Placement) × (y : Placement) × (o ≡ Some x) × (q ≡ Some y) × (is_lt (placement_cmp x y) ≡ true)
placed None q h = cc
placed (Some x) None h = cc
placed (Some x) (Some y) h = (x, y, refl, refl, h)

order_pairs : (v : View) (ns : List ℕ) → in_order v ns ≡ true → AllPairs (λ m n. below v m n ≡ true) ns
order_pairs v [] h = pairs_none (λ m n. below v m n ≡ true)
order_pairs v (n ∷ ns) h =
    let p = and_parts (list_all (λ q. below v n q) ns) (in_order v ns) h in
    pairs_cons (λ m n. below v m n ≡ true) n ns (λ m i. all_in (λ q. below v n q) ns p.0 m i) (order_pairs v ns p.1)

-- the live numbers without a mark are in order
pub kept_up : (v : View) (new found : List Placement) (marks : List Bool) → WellNamed v → GoesOnWith v.placements found new → AreInOrder new (unmarked_in v marks)
kept_up v new found marks w g = AllPairs-filter (λ m n. comes_before new n m ≡ false) (λ n. not (slice_index_or marks n false)) v.live (λ i j d l low.
    let r = placed (slice_get v.placements (get_or v.live i d)) (slice_get v.placements (get_or v.live j d)) (order_pairs v v.live w.live_up i j d l low) in
    names_before new (get_or v.live i d) (get_or v.live j d) r.0 r.1 (stays_named v.placements new found g (get_or v.live i d) r.0 r.2) (stays_named v.placements new found g (get_or v.live j d) r.1 r.3) r.4)

-- the numbers of ascending placements are in order
pub numbers_up : (all : List Placement) (ns : List ℕ) (ps : List Placement) → AreNumbersOf all ns ps → IsAscending placement_cmp ps → AreInOrder all ns
numbers_up all [] ps e up = pairs_none (λ m n. comes_before all n m ≡ false)
numbers_up all (n ∷ ns) [] e up = cc
numbers_up all (n ∷ ns) (p ∷ ps) e up =
    let rest = rest_named all ps n ns p e in
    pairs_cons (λ m n. comes_before all n m ≡ false) n ns
    (λ m i.
    let q = number_in all ns ps rest m i in
    names_before all n m p q.0 (first_named all ps n ns p e) q.2 (ap is_lt (pairs_head (λ a b. placement_cmp a b ≡ Less) p ps up q.0 q.1)))
    (numbers_up all ns ps rest (pairs_rest (λ a b. placement_cmp a b ≡ Less) p ps up))

-- ---- the placements after the change

pub updated_places : (v : View) (d after : Layout) (x : Change) (marks : List Bool) (new : List Placement) (kept fresh both : List ℕ) (found : List Placement) → WellNamed v → Shows v d → AreMarked v x marks →
    after ≡ changed d x → kept ≡ unmarked_in v marks → GoesOnWith v.placements found new → AreNumbersOf new fresh found →
    IsListOf placement_cmp (λ p. IsPlacement after p × (touches x p ≡ true)) found → AllPairs (λ x y. x ≢ y) new → IsPermutation (kept ++ fresh) both → AreInOrder new both →
    (places : List Placement) × AreNumbersOf new both places × IsListOf placement_cmp (IsPlacement after) places
updated_places v d after x marks new kept fresh both found w s m is k g f l apart moved up =
    let test : ℕ → Bool = λ n. not (slice_index_or marks n false) in
    let of_kept : (n : ℕ) → In n kept → IsKept v x n = λ n i. kept_is v x marks w m n (subst (λ ns. In n ns) k i) in
    let from_both : (n : ℕ) → In n both → In n kept ⊎ In n fresh =
    λ n i. in_append_cases n kept fresh (contains_in (kept ++ fresh) n (Contains-permutation both (kept ++ fresh) n (IsPermutation-sym (kept ++ fresh) both moved) (in_contains both n i))) in
    let to_both : (n : ℕ) → In n (kept ++ fresh) → In n both = λ n i. contains_in both n (Contains-permutation (kept ++ fresh) both n moved (in_contains (kept ++ fresh) n i)) in
    let has_name : (n : ℕ) → In n both → (p : Placement) × (slice_get new n ≡ Some p) = λ n i. elim (from_both n i) [
      | inl j ↦ let r = of_kept n j in (r.place, stays_named v.placements new found g n r.place r.named)
      | inr j ↦ let r = number_in new fresh found f n j in (r.0, r.2)
    ] in
    let places : List Placement = names_of new both in
    let e : AreNumbersOf new both places = all_named new both has_name in
    let into : (n : ℕ) (p : Placement) → In n both → slice_get new n ≡ Some p → Contains places p = λ n p i at.
    let q = number_in new both places e n i in subst (λ z. Contains places z) (some_same q.0 p (sym q.2 ∙ at)) (in_contains places q.0 q.1) in
    let once : AllPairs (λ x y. x ≢ y) both = AllPairs-from_IsDistinct Decides-eqb both (IsDistinct-IsPermutation eqb flips (kept ++ fresh) both moved (IsDistinct-from_AllPairs Decides-eqb (kept ++ fresh)
    (apart_both kept fresh
    (apart_list kept (ap distinct k ∙ distinct_filter test v.live (live_once v w)))
    (apart_list fresh (not_both (record { placements = new; live = []; bounds = []; pins = [] }) fresh found f (apart_from found l.ascending)))
    (λ n i j.
    let a = of_kept n i in
    let b = number_in new fresh found f n j in
    let same : a.place ≡ b.0 = some_same a.place b.0 (sym (stays_named v.placements new found g n a.place a.named) ∙ b.2) in
    both_ways (touches x a.place) a.alone (subst (λ z. touches x z ≡ true) (sym same) ((l.exact b.0).0 (in_contains found b.0 b.1)).1))))) in (
      places,
      e,
      record {
        ascending = names_up new both places apart e once up;
        exact = λ p. (
          λ h.
              let r = in_number new both places e p (contains_in places p h) in
              elim (from_both r.0 r.1) [
                | inl j ↦
                    let a = of_kept r.0 j in
                    let same : a.place ≡ p = some_same a.place p (sym (stays_named v.placements new found g r.0 a.place a.named) ∙ r.2) in
                    let was = (s.places a.place).0 (record { number = r.0; stands = in_contains v.live r.0 a.live; names = a.named }) in
                    subst (λ z. IsPlacement after z) same (subst (λ y. IsPlacement y a.place) (sym is) (untouched_stays d x a.place a.alone was))
                | inr j ↦
                    let b = number_in new fresh found f r.0 j in
                    let same : b.0 ≡ p = some_same b.0 p (sym b.2 ∙ r.2) in
                    subst (λ z. IsPlacement after z) same ((l.exact b.0).0 (in_contains found b.0 b.1)).0
              ],
          λ h. elim (cases_Bool (touches x p)) [
            | inl t ↦
                let r = in_number new fresh found f p (contains_in found p ((l.exact p).1 (h, t))) in
                into r.0 p (to_both r.0 (in_append_right r.0 kept fresh r.1)) r.2
            | inr t ↦
                let o = (s.places p).1 (untouched_was d x p t (subst (λ y. IsPlacement y p) is h)) in
                let here : In o.number v.live = contains_in v.live o.number o.stands in
                let i : In o.number kept = subst (λ ns. In o.number ns) (sym k)
                (in_filter test v.live o.number here (not_from_false (slice_index_or marks o.number false) (m o.number (in_mem v.live o.number here) ∙ ap (λ z. touches_named x z) o.names ∙ t))) in
                into o.number p (to_both o.number (in_append_left o.number kept fresh i)) (stays_named v.placements new found g o.number p o.names)
          ],
        );
      },
    )
