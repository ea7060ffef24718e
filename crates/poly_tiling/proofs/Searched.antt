-- A binary search over items that ascend finds an item's bound.
use Rattle.std.proofs.Common.{Bool, List, Ordering, [], add-one, ap, arith, cond, false, get_or, inl, inr, length, refl, subst, suc, sym, true, zero, ℕ, ◌+◌, ◌<◌, ◌∙◌, ◌∷◌, ◌≡◌, ◌||◌}
use Rattle.std.proofs.lemmas.Bool.{and_parts, cases_lt, cond-false}
use Rattle.std.proofs.lemmas.List.Sorted.{searchable_from_sorted}
use Rattle.std.specs.List.{HoldsAt, list_all, list_any}
use Rattle.std.specs.List.Sorted.{IsNonDecreasingBy, IsPartitionPoint}
use Rattle.std.specs.Ordering.{is_eq, is_lt, ordering_index, ordering_reverse}
use Rattle.std.specs.declared.cmp.Ordering.TheVariants.{Equal, Greater, Less}
use Rattle.std.specs.Cmp.{IsTotalOrder}
use Rattle.std.specs.Cmp.Lexicographic.{nat_list_cmp_total, texts_ties}
use Rattle.poly_shape.specs.Order.{spot_ties, spot_total}
use Rattle.poly_tiling.specs.Lists.{one}
use Rattle.poly_tiling.specs.declared.item.Item.{Item}
use Rattle.poly_tiling.specs.declared.item.Item.TheVariants.{Cell, Piece}
use Rattle.poly_tiling.specs.declared.bound.Bound.{Bound}
use Rattle.poly_tiling.specs.Puzzle.{bound_in, same_item}
use Rattle.poly_tiling.specs.Names.{item_cmp, items_ascend}
use Rattle.poly_tiling.proofs.Lists.{In, all_in, any_none}
use Rattle.poly_tiling.proofs.Contained.{at_in, in_contains}
use Rattle.poly_tiling.proofs.Tilings.{bound_none, same_item_is}

pub same_item_ties : (i j : Item) → same_item i j ≡ is_eq (item_cmp i j)
same_item_ties (Cell c) (Cell d) = spot_ties c d
same_item_ties (Cell c) (Piece n) = refl
same_item_ties (Piece m) (Cell d) = refl
same_item_ties (Piece m) (Piece n) = texts_ties m n

antisymm : (i j : Item) → item_cmp i j ≡ ordering_reverse (item_cmp j i)
antisymm (Cell c) (Cell d) = spot_total.antisymm c d
antisymm (Cell c) (Piece n) = refl
antisymm (Piece m) (Cell d) = refl
antisymm (Piece m) (Piece n) = nat_list_cmp_total.antisymm m n

trans : (i j k : Item) → item_cmp i j ≡ Less → item_cmp j k ≡ Less → item_cmp i k ≡ Less
trans (Cell c) (Cell d) (Cell e) a b = spot_total.trans c d e a b
trans (Cell c) (Cell d) (Piece n) a b = refl
trans (Cell c) (Piece m) (Cell e) a b = cc
trans (Cell c) (Piece m) (Piece n) a b = refl
trans (Piece m) (Cell d) (Cell e) a b = cc
trans (Piece m) (Cell d) (Piece n) a b = cc
trans (Piece m) (Piece n) (Cell e) a b = cc
trans (Piece m) (Piece n) (Piece k) a b = nat_list_cmp_total.trans m n k a b

eq_from : (o : Ordering) → o ≡ Equal → is_eq o ≡ true
eq_from o e = ap is_eq e

pub equal_is : (i j : Item) → item_cmp i j ≡ Equal → i ≡ j
equal_is i j e = same_item_is i j (same_item_ties i j ∙ eq_from (item_cmp i j) e)

congr : (i j k : Item) → item_cmp i j ≡ Equal → item_cmp i k ≡ item_cmp j k
congr i j k e = ap (λ z. item_cmp z k) (equal_is i j e)

pub item_total : IsTotalOrder item_cmp
item_total = record { antisymm = antisymm; trans = trans; congr = congr }

pub less_differs : (i j : Item) → is_lt (item_cmp i j) ≡ true → same_item i j ≡ false
less_differs i j l = same_item_ties i j ∙ at (item_cmp i j) l
  where
    at : (o : Ordering) → is_lt o ≡ true → is_eq o ≡ false
    at Less l = refl
    at Equal l = cc
    at Greater l = cc

first_less : (b : Bound) (bs : List Bound) → items_ascend (b ∷ bs) ≡ true → (k : ℕ) (d : Bound) → k < length bs → is_lt (item_cmp b.item (get_or bs k d).item) ≡ true
first_less b bs up k d l = all_in (λ c. is_lt (item_cmp b.item c.item)) bs (and_parts (list_all (λ c. is_lt (item_cmp b.item c.item)) bs) (items_ascend bs) up).0 (get_or bs k d) (at_in bs k d l)

rest_up : (b : Bound) (bs : List Bound) → items_ascend (b ∷ bs) ≡ true → items_ascend bs ≡ true
rest_up b bs up = (and_parts (list_all (λ c. is_lt (item_cmp b.item c.item)) bs) (items_ascend bs) up).1

-- the bound of an item is the one at the index at which the list has the item
pub bound_at : (bs : List Bound) (i : Item) (f : Bound → ℕ) (k : ℕ) (d : Bound) → items_ascend bs ≡ true → k < length bs → item_cmp (get_or bs k d).item i ≡ Equal → bound_in bs i f ≡ f (get_or bs k d)
bound_at [] i f k d up l e = absurd (omega arith)
bound_at (b ∷ bs) i f zero d up l e = ap (λ t. cond t (f b) (bound_in bs i f)) (same_item_ties b.item i ∙ eq_from (item_cmp b.item i) e)
bound_at (b ∷ bs) i f (suc k) d up l e =
    let low : k < length bs = omega arith in
    let less : is_lt (item_cmp b.item i) ≡ true = subst (λ j. is_lt (item_cmp b.item j) ≡ true) (equal_is (get_or bs k d).item i e) (first_less b bs up k d low) in
    cond-false (same_item b.item i) (f b) (bound_in bs i f) (less_differs b.item i less) ∙ bound_at bs i f k d (rest_up b bs up) low e

lt_is_less : (o : Ordering) → is_lt o ≡ true → is_lt (ordering_reverse o) ≡ false
lt_is_less Less l = refl
lt_is_less Equal l = cc
lt_is_less Greater l = cc

sorted_at : (bs : List Bound) → items_ascend bs ≡ true → (k : ℕ) (d : Bound) → k + 1 < length bs → is_lt (item_cmp (get_or bs (suc k) d).item (get_or bs k d).item) ≡ false
sorted_at [] up k d l = absurd (omega arith)
sorted_at (b ∷ bs) up zero d l = ap is_lt (antisymm (get_or bs zero d).item b.item) ∙ lt_is_less (item_cmp b.item (get_or bs zero d).item) (first_less b bs up zero d (omega arith))
sorted_at (b ∷ bs) up (suc k) d l = sorted_at bs (rest_up b bs up) k d (omega arith)

pub searchable : (bs : List Bound) (i : Item) → items_ascend bs ≡ true → IsNonDecreasingBy (λ b. ordering_index (item_cmp b.item i)) bs
searchable bs i up = searchable_from_sorted item_total (λ b. b.item) bs i (λ k d l h. rw (add-one) (sorted_at bs up k d h))

none_at : (bs : List Bound) (i : Item) (f : Bound → ℕ) → ((b : Bound) → In b bs → item_cmp b.item i ≡ Equal → ⊥) → bound_in bs i f ≡ 0
none_at bs i f none = bound_none bs i f (any_none (λ b. same_item b.item i) bs (λ b j h. none b j (is_equal (item_cmp b.item i) (sym (same_item_ties b.item i) ∙ h))))
  where
    is_equal : (o : Ordering) → is_eq o ≡ true → o ≡ Equal
    is_equal Less e = cc
    is_equal Equal e = refl
    is_equal Greater e = cc

-- the bound at the index that a search for an item finds is the bound of the item, if the search compares in item order
pub bound_found : (bs : List Bound) (i : Item) (ord : Bound → Ordering) → ((b : Bound) → ord b ≡ item_cmp b.item i) → items_ascend bs ≡ true → (at : ℕ) → at < length bs → HoldsAt (λ b. ord b ≡ Equal) bs at →
    (b : Bound) → b ≡ get_or bs at b → (f : Bound → ℕ) → bound_in bs i f ≡ f b
bound_found bs i ord is up at low here b same f = bound_at bs i f at b up low (sym (is (get_or bs at b)) ∙ here b) ∙ ap f (sym same)

pub bound_missing : (bs : List Bound) (i : Item) (ord : Bound → Ordering) → ((b : Bound) → ord b ≡ item_cmp b.item i) → items_ascend bs ≡ true → (at : ℕ) →
    (IsNonDecreasingBy (λ b. ordering_index (ord b)) bs → IsPartitionPoint (λ b. ord b ≡ Less) (λ b. ord b ≡ Greater) bs at) →
    (f : Bound → ℕ) → bound_in bs i f ≡ 0
bound_missing bs i ord is up at point f =
    let rises : IsNonDecreasingBy (λ b. ordering_index (ord b)) bs = λ m n d l h. omega (arith, searchable bs i up m n d l h, ap ordering_index (is (get_or bs m d)), ap ordering_index (is (get_or bs n d))) in
    let sides = point rises in
    none_at bs i f (λ b j e.
    let k = in_contains bs b j in
    let same : ord (get_or bs k.0 b) ≡ Equal = is (get_or bs k.0 b) ∙ ap (λ z. item_cmp z.item i) k.2 ∙ e in
    elim (cases_lt k.0 at) [ inl l ↦ let o = sides.0 k.0 b (omega arith) l in cc | inr g ↦ let o = sides.1 k.0 b g k.1 in cc ])

-- whether a search finds an item tells whether the list has the item
found_or_not : (a b : Bool) (n : ℕ) → n ≡ one b → cond a 1 n ≡ one (a || b)
found_or_not true b n e = refl
found_or_not false b n e = e

counted : (bs : List Bound) (i : Item) → bound_in bs i (λ b. 1) ≡ one (list_any (λ b. same_item b.item i) bs)
counted [] i = refl
counted (b ∷ bs) i = found_or_not (same_item b.item i) (list_any (λ b. same_item b.item i) bs) (bound_in bs i (λ b. 1)) (counted bs i)

yes_from : (b : Bool) → 1 ≡ one b → b ≡ true
yes_from true e = refl
yes_from false e = absurd (omega (arith, e))

no_from : (b : Bool) → 0 ≡ one b → b ≡ false
no_from true e = absurd (omega (arith, e))
no_from false e = refl

pub is_there : (bs : List Bound) (i : Item) → bound_in bs i (λ b. 1) ≡ 1 → list_any (λ b. same_item b.item i) bs ≡ true
is_there bs i e = yes_from _ (sym e ∙ counted bs i)

pub is_nowhere : (bs : List Bound) (i : Item) → bound_in bs i (λ b. 1) ≡ 0 → list_any (λ b. same_item b.item i) bs ≡ false
is_nowhere bs i e = no_from _ (sym e ∙ counted bs i)
