-- A list by numbers that has each tiling once is as long as the design's list of tilings. The design has a list of tilings,
-- since any list can be put in order.
use Rattle.std.proofs.Common.{Bool, List, [], ap, arith, cond, false, get_or, length, map, refl, subst, sym, suc, true, true≢false, zero, ℕ, ◌+◌, ◌<◌, ◌∙◌, ◌∷◌, ◌≡◌}
use Rattle.std.proofs.lemmas.Cmp.{lists_total}
use Rattle.std.proofs.lemmas.List.{length-map}
use Rattle.std.specs.List.Sorted.{IsSorted}
use Rattle.std.specs.Ordering.{is_lt, ordering_reverse}
use Rattle.std.specs.declared.cmp.Ordering.{Ordering}
use Rattle.std.specs.declared.cmp.Ordering.TheVariants.{Equal, Greater, Less}
use Rattle.poly_design.specs.Layout.{Layout}
use Rattle.poly_design.specs.PlacementOrder.{placement_total}
use Rattle.poly_design.specs.declared.placement.Placement.{Placement}
use Rattle.poly_tiling.specs.Lister.{HasEachOnce}
use Rattle.poly_tiling.specs.Listings.{IsListOfTilings, ListingsShow}
use Rattle.poly_tiling.specs.Lists.{one, same_list, tally}
use Rattle.poly_tiling.specs.Names.{WellNamed}
use Rattle.poly_tiling.specs.Puzzle.{View}
use Rattle.poly_tiling.specs.Shows.{Shows}
use Rattle.poly_tiling.specs.TilingOrder.{placed, tiling_cmp}
use Rattle.poly_book.specs.States.{State as Book}
use Rattle.poly_book.specs.Whole.{Whole}
use Rattle.poly_book.proofs.Nexting.{partition_each}

module _ {X : Type 0} (lt : X → X → Bool) where
  abbrev put_in : X → List X → List X
  put_in x [] = x ∷ []
  put_in x (y ∷ ys) = cond (lt y x) (y ∷ put_in x ys) (x ∷ y ∷ ys)

  abbrev ordered : List X → List X
  ordered [] = []
  ordered (x ∷ xs) = put_in x (ordered xs)

  abbrev IsFirst : X → List X → Type 0
  IsFirst x [] = Unit {0}
  IsFirst x (y ∷ ys) = lt y x ≡ false

  abbrev Ascends : List X → Type 0
  Ascends [] = Unit {0}
  Ascends (x ∷ xs) = IsFirst x xs × Ascends xs

  -- one step of `tally_put`: x goes behind y or in front of it
  tally_at : (f : X → Bool) (x y : X) (ys : List X) → tally f (put_in x ys) ≡ one (f x) + tally f ys → (b : Bool) → tally f (cond b (y ∷ put_in x ys) (x ∷ y ∷ ys)) ≡ one (f x) + (one (f y) + tally f ys)
  tally_at f x y ys more true = omega (arith, more)
  tally_at f x y ys more false = omega arith

  tally_put : (f : X → Bool) (x : X) (ys : List X) → tally f (put_in x ys) ≡ one (f x) + tally f ys
  tally_put f x [] = refl
  tally_put f x (y ∷ ys) = tally_at f x y ys (tally_put f x ys) (lt y x)

  tally_ordered : (f : X → Bool) (xs : List X) → tally f (ordered xs) ≡ tally f xs
  tally_ordered f [] = refl
  tally_ordered f (x ∷ xs) = tally_put f x (ordered xs) ∙ ap (λ n. one (f x) + n) (tally_ordered f xs)

  length_at : (x y : X) (ys : List X) → length (put_in x ys) ≡ suc (length ys) → (b : Bool) → length (cond b (y ∷ put_in x ys) (x ∷ y ∷ ys)) ≡ suc (suc (length ys))
  length_at x y ys more true = ap suc more
  length_at x y ys more false = refl

  length_put : (x : X) (ys : List X) → length (put_in x ys) ≡ suc (length ys)
  length_put x [] = refl
  length_put x (y ∷ ys) = length_at x y ys (length_put x ys) (lt y x)

  length_ordered : (xs : List X) → length (ordered xs) ≡ length xs
  length_ordered [] = refl
  length_ordered (x ∷ xs) = length_put x (ordered xs) ∙ ap suc (length_ordered xs)

  module _ (either : (x y : X) → lt x y ≡ true → lt y x ≡ false) where
    first_at : (z x y : X) (ys : List X) → lt x z ≡ false → lt y z ≡ false → (b : Bool) → IsFirst z (cond b (y ∷ put_in x ys) (x ∷ y ∷ ys))
    first_at z x y ys e h true = h
    first_at z x y ys e h false = e

    first_put : (z x : X) (ys : List X) → lt x z ≡ false → IsFirst z ys → IsFirst z (put_in x ys)
    first_put z x [] e h = e
    first_put z x (y ∷ ys) e h = first_at z x y ys e h (lt y x)

    ascends_at : (x y : X) (ys : List X) → Ascends (y ∷ ys) → Ascends (put_in x ys) → (b : Bool) → lt y x ≡ b → Ascends (cond b (y ∷ put_in x ys) (x ∷ y ∷ ys))
    ascends_at x y ys h more true e = (first_put y x ys (either y x e) h.0, more)
    ascends_at x y ys h more false e = (e, h)

    ascends_put : (x : X) (ys : List X) → Ascends ys → Ascends (put_in x ys)
    ascends_put x [] h = (tt, tt)
    ascends_put x (y ∷ ys) h = ascends_at x y ys h (ascends_put x ys h.1) (lt y x) refl

    ascends_ordered : (xs : List X) → Ascends (ordered xs)
    ascends_ordered [] = tt
    ascends_ordered (x ∷ xs) = ascends_put x (ordered xs) (ascends_ordered xs)

  steps_up : (xs : List X) → Ascends xs → (k : ℕ) (d : X) → suc k < length xs → lt (get_or xs (suc k) d) (get_or xs k d) ≡ false
  steps_up [] h k d l = absurd (omega (arith, l))
  steps_up (x ∷ []) h k d l = absurd (omega (arith, l))
  steps_up (x ∷ y ∷ ys) h zero d l = h.0
  steps_up (x ∷ y ∷ ys) h (suc k) d l = steps_up (y ∷ ys) h.1 k d (omega (arith, l))

below_either : (v : View) (S T : List ℕ) → is_lt (tiling_cmp v S T) ≡ true → is_lt (tiling_cmp v T S) ≡ false
below_either v S T h = go (tiling_cmp v S T) ((lists_total placement_total).antisymm (placed v T) (placed v S)) h
  where
    go : (o : Ordering) → tiling_cmp v T S ≡ ordering_reverse o → is_lt o ≡ true → is_lt (tiling_cmp v T S) ≡ false
    go Less e h = ap is_lt e
    go Equal e h = ap is_lt e
    go Greater e h = absurd (true≢false (sym h))

-- the design has a list of its tilings, as long as the list by numbers
counted : (d : Layout) (v : View) (lists : List (List ℕ)) → ListingsShow → WellNamed v → Shows v d → HasEachOnce v lists → (all : List (List Placement)) × IsListOfTilings d all × (length lists ≡ length all)
counted d v lists law well shows each =
    let lt : List ℕ → List ℕ → Bool = λ S T. is_lt (tiling_cmp v S T) in
    let up = ordered lt lists in
    let sorted : IsSorted (tiling_cmp v) up = λ k z low l.
    let next : suc k ≡ k + 1 = omega arith in
    subst (λ m. lt (get_or up m z) (get_or up k z) ≡ false) next (steps_up lt up (ascends_ordered lt (below_either v) lists) k z (omega (arith, l))) in
    (map (placed v) up, law v d up well shows (λ T. tally_ordered lt (same_list T) lists ∙ each T) sorted, sym (length_ordered lt lists) ∙ sym (length-map up (placed v)))

-- if nothing is pending, a book has listed as many tilings as the design has
pub book_counted : (s : Book) → Whole s → ListingsShow → s.pending ≡ [] → (n : ℕ) → n ≡ length s.listed → (all : List (List Placement)) × IsListOfTilings s.design all × (n ≡ length all)
book_counted s whole law none n is =
    let c = counted s.design s.view s.listed law whole.consistent.well whole.consistent.shows (partition_each s whole.consistent.partition none) in
    (c.0, c.1, is ∙ c.2)
