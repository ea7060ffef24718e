-- A later view says the same about the numbers of an earlier one.
use Rattle.std.proofs.Common.{Bool, List, None, Option, Some, [], ap, arith, eqb, false, inl, inr, length, ltb, not, refl, slice_get, subst, true, ℕ, ◌&&◌, ◌++◌, ◌∙◌, ◌∷◌, ◌≡◌}
use Rattle.std.proofs.lemmas.Bool.{and_from, and_parts, ltb-true}
use Rattle.std.specs.List.{list_all, list_any}
use Rattle.poly_tiling.specs.Lists.{one, tally}
use Rattle.poly_tiling.specs.declared.item.Item.{Item}
use Rattle.poly_tiling.specs.Puzzle.{View, conflicts, count, has_item, items, items_of, same_item, share_cell}
use Rattle.poly_tiling.specs.Names.{Names, WellNamed}
use Rattle.poly_design.specs.declared.placement.Placement.{Placement}
use Rattle.poly_tiling.proofs.Lists.{In, all_in, any_in, slice_get_front, slice_get_more}
use Rattle.poly_tiling.proofs.Tilings.{same_item_is}

-- a number of the old design names the same placement in both views
pub named : (old new : View) → WellNamed old → Names old new → (p : ℕ) → In p old.live → slice_get new.placements p ≡ slice_get old.placements p
named old new wn names p i =
    let low = ltb-true p (length old.placements) (all_in (λ q. ltb q (length old.placements)) old.live wn.named p i) in
    ap (λ xs. slice_get xs p) names.1 ∙ slice_get_front old.placements names.0 p low

pub items_same : (old new : View) → WellNamed old → Names old new → (p : ℕ) → In p old.live → items new p ≡ items old p
items_same old new wn names p k = ap (λ o. items_of o) (named old new wn names p k)

pub has_same : (old new : View) → WellNamed old → Names old new → (p : ℕ) → In p old.live → (i : Item) → has_item new p i ≡ has_item old p i
has_same old new wn names p k i = ap (λ js. list_any (λ j. same_item j i) js) (items_same old new wn names p k)

pub tally_same_in : {X : Type 0} (f g : X → Bool) (xs : List X) → ((x : X) → In x xs → f x ≡ g x) → tally f xs ≡ tally g xs
tally_same_in f g [] h = refl
tally_same_in f g (x ∷ xs) h = omega (arith, ap one (h x (inl refl)), tally_same_in f g xs (λ y i. h y (inr i)))

pub old_count : (old new : View) (T : List ℕ) → WellNamed old → Names old new → ((p : ℕ) → In p T → In p old.live) → (i : Item) → count new T i ≡ count old T i
old_count old new T wn names placed i = tally_same_in (λ p. has_item new p i) (λ p. has_item old p i) T (λ p k. has_same old new wn names p (placed p k) i)

-- the items of the design's placements are items of the design
pub listed_item : (v : View) → WellNamed v → (p : ℕ) → In p v.live → (i : Item) → has_item v p i ≡ true → list_any (λ b. same_item b.item i) v.bounds ≡ true
listed_item v wn p k i h =
    let x = any_in (λ j. same_item j i) (items v p) h in
    subst (λ j. list_any (λ b. same_item b.item j) v.bounds ≡ true) (same_item_is x.0 i x.2)
    (all_in (λ i. list_any (λ b. same_item b.item i) v.bounds) (items v p) (all_in (λ p. list_all (λ i. list_any (λ b. same_item b.item i) v.bounds) (items v p)) v.live wn.listed p k) x.0 x.1)

share_none : (o : Option Placement) → share_cell o None ≡ false
share_none None = refl
share_none (Some x) = refl

pub named_conflict : (old new : View) → Names old new → (p q : ℕ) → conflicts old p q ≡ true → conflicts new p q ≡ true
named_conflict old new names p q h =
    let hs = and_parts (not (eqb p q)) (share_cell (slice_get old.placements p) (slice_get old.placements q)) h in
    let a = slice_get_more (λ o. share_cell o (slice_get old.placements q)) old.placements names.0 p refl hs.1 in
    let b = slice_get_more (λ o. share_cell (slice_get (old.placements ++ names.0) p) o) old.placements names.0 q (share_none _) a in
    and_from _ _ hs.0 (ap (λ xs. share_cell (slice_get xs p) (slice_get xs q)) names.1 ∙ b)

pub all_same : {X : Type 0} (f g : X → Bool) (xs : List X) → ((x : X) → f x ≡ g x) → list_all f xs ≡ list_all g xs
all_same f g [] h = refl
all_same f g (x ∷ xs) h = ap (λ b. b && list_all f xs) (h x) ∙ ap (λ b. g x && b) (all_same f g xs h)

-- if one of a number's items passes a test in the earlier view, one of them passes in the later view too
pub any_items : (v w : View) → Names v w → (Q : Item → Bool) (p : ℕ) → list_any Q (items v p) ≡ true → list_any Q (items w p) ≡ true
any_items v w names Q p h = ap (λ xs. list_any Q (items_of (slice_get xs p))) names.1 ∙ slice_get_more (λ o. list_any Q (items_of o)) v.placements names.0 p refl h
