-- A table that gets more numbers shows the same design.
use Rattle.std.proofs.Common.{Bool, List, [], ap, arith, inl, inr, length, refl, slice_get, subst, suc, sym, take, true, zero, ℕ, ◌&&◌, ◌++◌, ◌∙◌, ◌∷◌, ◌≡◌, ◌↔◌}
use Rattle.std.specs.Prelude.{nat_lt}
use Rattle.std.specs.List.{Contains, list_all, list_any}
use Rattle.std.proofs.lemmas.Bool.{lt-ltb, ltb-true}
use Rattle.std.proofs.lemmas.List.{length-append}
use Rattle.poly_design.specs.Layout.{Layout}
use Rattle.poly_design.specs.declared.change.Change.{Change}
use Rattle.poly_design.specs.declared.placement.Placement.{Placement}
use Rattle.poly_tiling.specs.Names.{Grown, WellNamed, below, in_order, placed_below}
use Rattle.poly_tiling.specs.Puzzle.{View, has_item, items, items_of, same_item}
use Rattle.poly_tiling.specs.Shows.{IsNamed, Shows}
use Rattle.poly_tiling.proofs.Contained.{contains_in}
use Rattle.poly_tiling.proofs.Lists.{In, all_from, all_in, mem_in, slice_get_front}
use Rattle.poly_tiling.specs.declared.item.Item.{Item}
use Rattle.poly_place.specs.Index.{IsIndex, Row, row_in}
use Rattle.poly_place.specs.Interned.{GoesOn}
use Rattle.poly_place.specs.Touched.{AreMarked, touches_named}
use Rattle.poly_place.proofs.Rows.{live_with, with_from, with_live}

abbrev pub grown : View → List Placement → View
grown t all = record { placements = all; live = t.live; bounds = t.bounds; pins = t.pins }

-- a number that was given out keeps its placement
stays : (old all : List Placement) → GoesOn old all → (n : ℕ) → nat_lt n (length old) ≡ true → slice_get all n ≡ slice_get old n
stays old all g n low = ap (λ l. slice_get l n) g.appended ∙ slice_get_front old g.more n (ltb-true n (length old) low)

low_still : (old all : List Placement) → GoesOn old all → (ns : List ℕ) → list_all (λ n. nat_lt n (length old)) ns ≡ true → list_all (λ n. nat_lt n (length all)) ns ≡ true
low_still old all g ns low = all_from (λ n. nat_lt n (length all)) ns (λ n i.
    let l = ltb-true n (length old) (all_in (λ n. nat_lt n (length old)) ns low n i) in
    lt-ltb n (length all) (omega (arith, l, ap length g.appended, length-append old g.more)))

all_same_in : {X : Type 0} (f h : X → Bool) (xs : List X) → ((x : X) → In x xs → f x ≡ h x) → list_all f xs ≡ list_all h xs
all_same_in f h [] e = refl
all_same_in f h (x ∷ xs) e = ap (λ b. b && list_all f xs) (e x (inl refl)) ∙ ap (λ b. h x && b) (all_same_in f h xs (λ y i. e y (inr i)))

pub order_same : (v w : View) (ns : List ℕ) → ((n : ℕ) → In n ns → slice_get w.placements n ≡ slice_get v.placements n) → in_order w ns ≡ in_order v ns
order_same v w [] e = refl
order_same v w (n ∷ ns) e =
    ap (λ b. b && in_order w ns) (all_same_in (λ m. below w n m) (λ m. below v n m) ns
    (λ m i. ap (λ o. placed_below o (slice_get w.placements m)) (e n (inl refl)) ∙ ap (λ o. placed_below (slice_get v.placements n) o) (e m (inr i))))
    ∙ ap (λ b. list_all (λ m. below v n m) ns && b) (order_same v w ns (λ m i. e m (inr i)))

pub grown_well : (t : View) (all : List Placement) → WellNamed t → GoesOn t.placements all → WellNamed (grown t all)
grown_well t all w g =
    let same : (ns : List ℕ) → list_all (λ n. nat_lt n (length t.placements)) ns ≡ true → (n : ℕ) → In n ns → slice_get all n ≡ slice_get t.placements n =
    λ ns low n i. stays t.placements all g n (all_in (λ n. nat_lt n (length t.placements)) ns low n i) in
    record {
      apart = g.apart w.apart;
      named = low_still t.placements all g t.live w.named;
      pins_named = low_still t.placements all g t.pins w.pins_named;
      live_up = order_same t (grown t all) t.live (same t.live w.named) ∙ w.live_up;
      pins_up = order_same t (grown t all) t.pins (same t.pins w.pins_named) ∙ w.pins_up;
      items_up = w.items_up;
      listed = all_same_in (λ n. list_all (λ i. list_any (λ b. same_item b.item i) t.bounds) (items (grown t all) n)) (λ n. list_all (λ i. list_any (λ b. same_item b.item i) t.bounds) (items t n)) t.live
          (λ n i. ap (λ o. list_all (λ j. list_any (λ b. same_item b.item j) t.bounds) (items_of o)) (same t.live w.named n i))
          ∙ w.listed;
      small = w.small;
    }

named_still : (t : View) (all : List Placement) → GoesOn t.placements all → (ns : List ℕ) → list_all (λ n. nat_lt n (length t.placements)) ns ≡ true → (p : Placement) → IsNamed (grown t all) ns p ↔ IsNamed t ns p
named_still t all g ns low p =
    let same : (n : ℕ) → Contains ns n → slice_get all n ≡ slice_get t.placements n =
    λ n h. stays t.placements all g n (all_in (λ n. nat_lt n (length t.placements)) ns low n (contains_in ns n h)) in (
      λ h. record { number = h.number; stands = h.stands; names = sym (same h.number h.stands) ∙ h.names },
      λ h. record { number = h.number; stands = h.stands; names = same h.number h.stands ∙ h.names },
    )

pub grown_shows : (t : View) (all : List Placement) (d : Layout) → WellNamed t → GoesOn t.placements all → Shows t d → Shows (grown t all) d
grown_shows t all d w g s = record {
  places = λ p. let a = named_still t all g t.live w.named p in let b = s.places p in (λ h. b.0 (a.0 h), λ h. a.1 (b.1 h));
  pins = λ p. let a = named_still t all g t.pins w.pins_named p in let b = s.pins p in (λ h. b.0 (a.0 h), λ h. a.1 (b.1 h));
  bounds = s.bounds;
}

-- the index stays right
pub grown_index : (t : View) (all : List Placement) (rows : List Row) → WellNamed t → GoesOn t.placements all → IsIndex t rows → IsIndex (grown t all) rows
grown_index t all rows w g x =
    let same : (n : ℕ) → In n t.live → (i : Item) → has_item (grown t all) n i ≡ has_item t n i =
    λ n j i. ap (λ o. list_any (λ j. same_item j i) (items_of o)) (stays t.placements all g n (all_in (λ n. nat_lt n (length t.placements)) t.live w.named n j)) in
    record {
      items = x.items;
      numbers = λ i. with_from (grown t all) i (row_in rows i)
          (λ n j. let r = with_live t i (row_in rows i) (x.numbers i) n j in (r.0, same n r.0 i ∙ r.1))
          (λ n j h. live_with t i (row_in rows i) (x.numbers i) n j (sym (same n j i) ∙ h))
          (x.numbers i).apart;
    }

-- the marks stay right
pub grown_marked : (t : View) (all : List Placement) (x : Change) (marks : List Bool) → WellNamed t → GoesOn t.placements all → AreMarked t x marks → AreMarked (grown t all) x marks
grown_marked t all x marks w g m n live = m n live ∙ sym (ap (λ o. touches_named x o) (stays t.placements all g n (all_in (λ n. nat_lt n (length t.placements)) t.live w.named n (mem_in t.live n live))))

pub grows_on : (t : View) (all : List Placement) → GoesOn t.placements all → Grown t (grown t all)
grows_on t all g = ((g.more, g.appended), refl, refl, refl)

first_part : {X : Type 0} (n : ℕ) (xs ys : List X) → length xs ≡ n → take n (xs ++ ys) ≡ xs
first_part zero [] ys h = refl
first_part zero (x ∷ xs) ys h = absurd (omega (arith, h))
first_part (suc n) [] ys h = absurd (omega (arith, h))
first_part (suc n) (x ∷ xs) ys h = ap (λ zs. x ∷ zs) (first_part n xs ys (omega (arith, h)))

-- without the numbers that the earlier view lacks, the later one is the earlier one
pub back_view : (v w : View) → Grown v w → grown w (take (length v.placements) w.placements) ≡ v
back_view v w g =
    let first : take (length v.placements) w.placements ≡ v.placements = ap (λ l. take (length v.placements) l) g.0.1 ∙ first_part (length v.placements) v.placements g.0.0 refl in
    λ i. let z : View = record { placements = first i; live = g.1 i; bounds = g.2 i; pins = g.3 i } in z

-- the index of the later view is that of the earlier one
pub back_index : (v w : View) (rows : List Row) → WellNamed v → WellNamed w → Grown v w → IsIndex w rows → IsIndex v rows
back_index v w rows a b g x =
    let goes : GoesOn v.placements w.placements = record { more = g.0.0; appended = g.0.1; apart = λ k. b.apart } in
    let is : w ≡ grown v w.placements = λ i. let z : View = record { placements = w.placements; live = g.1 i; bounds = g.2 i; pins = g.3 i } in z in
    let y : IsIndex (grown v w.placements) rows = subst (λ z. IsIndex z rows) is x in
    let same : (n : ℕ) → In n v.live → (i : Item) → has_item (grown v w.placements) n i ≡ has_item v n i =
    λ n j i. ap (λ o. list_any (λ j. same_item j i) (items_of o)) (stays v.placements w.placements goes n (all_in (λ n. nat_lt n (length v.placements)) v.live a.named n j)) in
    record {
      items = y.items;
      numbers = λ i. with_from v i (row_in rows i)
          (λ n j. let r = with_live (grown v w.placements) i (row_in rows i) (y.numbers i) n j in (r.0, sym (same n r.0 i) ∙ r.1))
          (λ n j h. live_with (grown v w.placements) i (row_in rows i) (y.numbers i) n j (same n j i ∙ h))
          (y.numbers i).apart;
    }
