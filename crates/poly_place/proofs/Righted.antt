-- Numbers given to the parts of a design make a table that is right for it.
use Rattle.std.proofs.Common.{List, Some, [], ap, inl, inr, length, map, refl, slice_get, subst, sym, true, ℕ, ◌++◌, ◌∙◌, ◌∷◌, ◌≡◌, ◌↔◌}
use Rattle.std.specs.Prelude.{nat_lt}
use Rattle.std.specs.List.{Contains, list_all, list_any}
use Rattle.std.specs.Map.{keys_of}
use Rattle.std.specs.Ordering.{is_lt}
use Rattle.std.specs.declared.cmp.Ordering.TheVariants.{Less}
use Rattle.std.proofs.lemmas.Bool.{and_from, lt-ltb}
use Rattle.poly_grid.specs.Spot.{Spot}
use Rattle.poly_shape.specs.Order.{IsAscending, spot_cmp}
use Rattle.poly_design.specs.Layout.{Layout}
use Rattle.poly_design.specs.Limits.{IsDesign}
use Rattle.poly_design.specs.Name.{name_cmp}
use Rattle.poly_design.specs.PlacementOrder.{placement_cmp}
use Rattle.poly_design.specs.Placements.{IsPlacement}
use Rattle.poly_design.specs.declared.mode.Mode.{Mode}
use Rattle.poly_design.specs.declared.placement.Placement.{Placement}
use Rattle.poly_design.specs.declared.spec.Spec.{Spec}
use Rattle.poly_design.proofs.Rows.{unblocked_exactly}
use Rattle.poly_tiling.specs.declared.bound.Bound.{Bound}
use Rattle.poly_tiling.specs.declared.item.Item.TheVariants.{Cell, Piece}
use Rattle.poly_tiling.specs.Names.{below, in_order, item_cmp, items_ascend, placed_below}
use Rattle.poly_tiling.specs.Puzzle.{View, items, items_of, same_item}
use Rattle.poly_tiling.specs.Shows.{IsNamed, cell_bound, item_bounds, piece_bound}
use Rattle.poly_tiling.proofs.Contained.{contains_in, in_contains, pairs_head, pairs_rest}
use Rattle.poly_tiling.proofs.Lists.{In, all_append, all_from, all_map, any_from, in_append_left, in_append_right, in_map}
use Rattle.poly_tiling.proofs.Shown.{some_same}
use Rattle.poly_tiling.proofs.Tilings.{same_item_self}
use Rattle.poly_place.specs.Interned.{AreNumbered, AreNumbersOf}
use Rattle.poly_place.specs.Parts.{ArePartsOf}
use Rattle.poly_place.specs.Right.{IsRight}
use Rattle.poly_place.proofs.Numbers.{first_named, low_named, named_on, rest_named}

-- ---- numbers and the placements that they name

all_low : (all : List Placement) (ns : List ℕ) (ps : List Placement) → AreNumbersOf all ns ps → list_all (λ n. nat_lt n (length all)) ns ≡ true
all_low all [] ps e = refl
all_low all (n ∷ ns) [] e = cc
all_low all (n ∷ ns) (p ∷ ps) e = and_from _ _ (lt-ltb n (length all) (low_named all n p (first_named all ps n ns p e))) (all_low all ns ps (rest_named all ps n ns p e))

pub number_in : (all : List Placement) (ns : List ℕ) (ps : List Placement) → AreNumbersOf all ns ps → (n : ℕ) → In n ns → (p : Placement) × In p ps × (slice_get all n ≡ Some p)
number_in all [] ps e n i = absurd i
number_in all (m ∷ ns) [] e n i = cc
number_in all (m ∷ ns) (p ∷ ps) e n (inl same) = (p, inl refl, ap (λ k. slice_get all k) (sym same) ∙ first_named all ps m ns p e)
number_in all (m ∷ ns) (p ∷ ps) e n (inr i) = let r = number_in all ns ps (rest_named all ps m ns p e) n i in (r.0, inr r.1, r.2)

pub in_number : (all : List Placement) (ns : List ℕ) (ps : List Placement) → AreNumbersOf all ns ps → (p : Placement) → In p ps → (n : ℕ) × In n ns × (slice_get all n ≡ Some p)
in_number all ns [] e p i = absurd i
in_number all [] (q ∷ ps) e p i = cc
in_number all (m ∷ ns) (q ∷ ps) e p (inl same) = (m, inl refl, first_named all ps m ns q e ∙ ap Some same)
in_number all (m ∷ ns) (q ∷ ps) e p (inr i) = let r = in_number all ns ps (rest_named all ps m ns q e) p i in (r.0, inr r.1, r.2)

pub named_exactly : (v : View) (ns : List ℕ) (ps : List Placement) → AreNumbersOf v.placements ns ps → (p : Placement) → IsNamed v ns p ↔ Contains ps p
named_exactly v ns ps e p = (
  λ h. let r = number_in v.placements ns ps e h.number (contains_in ns h.number h.stands) in
      let same : r.0 ≡ p = some_same r.0 p (sym r.2 ∙ h.names) in
      subst (λ q. Contains ps q) same (in_contains ps r.0 r.1),
  λ h. let r = in_number v.placements ns ps e p (contains_in ps p h) in record { number = r.0; stands = in_contains ns r.0 r.1; names = r.2 },
)

all_below : (v : View) (n : ℕ) (p : Placement) → slice_get v.placements n ≡ Some p → (ns : List ℕ) (ps : List Placement) → AreNumbersOf v.placements ns ps → ((q : Placement) → In q ps → placement_cmp p q ≡ Less) → list_all (λ m. below v n m) ns ≡ true
all_below v n p at [] ps e less = refl
all_below v n p at (m ∷ ms) [] e less = cc
all_below v n p at (m ∷ ms) (q ∷ qs) e less = and_from _ _
    (ap (λ o. placed_below o (slice_get v.placements m)) at ∙ ap (λ o. placed_below (Some p) o) (first_named v.placements qs m ms q e) ∙ ap is_lt (less q (inl refl)))
    (all_below v n p at ms qs (rest_named v.placements qs m ms q e) (λ r i. less r (inr i)))

pub ordered : (v : View) (ns : List ℕ) (ps : List Placement) → AreNumbersOf v.placements ns ps → IsAscending placement_cmp ps → in_order v ns ≡ true
ordered v [] ps e up = refl
ordered v (n ∷ ns) [] e up = cc
ordered v (n ∷ ns) (p ∷ ps) e up = and_from _ _
    (all_below v n p (first_named v.placements ps n ns p e) ns ps (rest_named v.placements ps n ns p e) (λ q i. pairs_head (λ a b. placement_cmp a b ≡ Less) p ps up q i))
    (ordered v ns ps (rest_named v.placements ps n ns p e) (pairs_rest (λ a b. placement_cmp a b ≡ Less) p ps up))

-- ---- items

cells_first : (c : Spot) (pieces : List (List ℕ × Spec)) → list_all (λ b. is_lt (item_cmp (Cell c) b.item)) (map piece_bound pieces) ≡ true
cells_first c [] = refl
cells_first c (e ∷ es) = cells_first c es

pieces_up : (pieces : List (List ℕ × Spec)) → IsAscending name_cmp (keys_of pieces) → items_ascend (map piece_bound pieces) ≡ true
pieces_up [] up = refl
pieces_up (e ∷ es) up = and_from _ _
    (all_map (λ (b : Bound). is_lt (item_cmp (Piece e.0) b.item)) piece_bound es
    ∙ all_from (λ (x : List ℕ × Spec). is_lt (name_cmp e.0 x.0)) es (λ x i. ap is_lt (pairs_head (λ a b. name_cmp a b ≡ Less) e.0 (keys_of es) up x.0 (in_map (λ (y : List ℕ × Spec). y.0) es x i))))
    (pieces_up es (pairs_rest (λ a b. name_cmp a b ≡ Less) e.0 (keys_of es) up))

pub items_up : (cells : List (Spot × Mode)) (pieces : List (List ℕ × Spec)) → IsAscending spot_cmp (keys_of cells) → IsAscending name_cmp (keys_of pieces) → items_ascend (map cell_bound cells ++ map piece_bound pieces) ≡ true
items_up [] pieces up vp = pieces_up pieces vp
items_up (e ∷ es) pieces up vp = and_from _ _
    (all_append (λ (b : Bound). is_lt (item_cmp (Cell e.0) b.item)) (map cell_bound es) (map piece_bound pieces)
    ∙ and_from _ _
    (all_map (λ (b : Bound). is_lt (item_cmp (Cell e.0) b.item)) cell_bound es
    ∙ all_from (λ (x : Spot × Mode). is_lt (spot_cmp e.0 x.0)) es (λ x i. ap is_lt (pairs_head (λ a b. spot_cmp a b ≡ Less) e.0 (keys_of es) up x.0 (in_map (λ (y : Spot × Mode). y.0) es x i))))
    (cells_first e.0 pieces))
    (items_up es pieces (pairs_rest (λ a b. spot_cmp a b ≡ Less) e.0 (keys_of es) up) vp)

piece_listed : (d : Layout) (name : List ℕ) (spec : Spec) → Contains d.pieces (name, spec) → list_any (λ b. same_item b.item (Piece name)) (item_bounds d) ≡ true
piece_listed d name spec h = any_from (λ (b : Bound). same_item b.item (Piece name)) (item_bounds d) (piece_bound (name, spec))
    (in_append_right (piece_bound (name, spec)) (map cell_bound d.cells) (map piece_bound d.pieces) (in_map piece_bound d.pieces (name, spec) (contains_in d.pieces (name, spec) h)))
    (same_item_self (Piece name))

in_keys : (cells : List (Spot × Mode)) (c : Spot) → In c (keys_of cells) → (m : Mode) × In (c, m) cells
in_keys [] c i = absurd i
in_keys (e ∷ es) c (inl same) = let is : e ≡ (c, e.1) = λ i. (same i, e.1) in (e.1, inl is)
in_keys (e ∷ es) c (inr i) = let r = in_keys es c i in (r.0, inr r.1)

cell_listed : (d : Layout) (c : Spot) → Contains (keys_of d.cells) c → list_any (λ b. same_item b.item (Cell c)) (item_bounds d) ≡ true
cell_listed d c h =
    let r = in_keys d.cells c (contains_in (keys_of d.cells) c h) in
    any_from (λ (b : Bound). same_item b.item (Cell c)) (item_bounds d) (cell_bound (c, r.0))
    (in_append_left (cell_bound (c, r.0)) (map cell_bound d.cells) (map piece_bound d.pieces) (in_map cell_bound d.cells (c, r.0) r.1))
    (same_item_self (Cell c))

-- the items of a placement of the design are items of the design
pub placement_listed : (d : Layout) → IsDesign d → (p : Placement) → IsPlacement d p → list_all (λ i. list_any (λ b. same_item b.item i) (item_bounds d)) (items_of (Some p)) ≡ true
placement_listed d ok p h = and_from _ _
    (piece_listed d p.name h.spec h.has)
    (all_map (λ i. list_any (λ b. same_item b.item i) (item_bounds d)) (λ c. Cell c) p.cells
    ∙ all_from (λ c. list_any (λ b. same_item b.item (Cell c)) (item_bounds d)) p.cells
    (λ c i. cell_listed d c ((unblocked_exactly d.cells ok.unblocked c).1 (h.place.lies.free c (in_contains p.cells c i)))))

all_listed : (v : View) (d : Layout) → IsDesign d → (ns : List ℕ) (ps : List Placement) → AreNumbersOf v.placements ns ps → ((p : Placement) → In p ps → IsPlacement d p) →
    list_all (λ n. list_all (λ i. list_any (λ b. same_item b.item i) (item_bounds d)) (items v n)) ns ≡ true
all_listed v d ok ns ps e each = all_from (λ n. list_all (λ i. list_any (λ b. same_item b.item i) (item_bounds d)) (items v n)) ns (λ n i.
    let r = number_in v.placements ns ps e n i in
    ap (λ o. list_all (λ j. list_any (λ b. same_item b.item j) (item_bounds d)) (items_of o)) r.2 ∙ placement_listed d ok r.0 (each r.0 r.1))

-- ---- the table

right_at : (v : View) (d : Layout) (places pins : List Placement) → ArePartsOf d places pins v.bounds → AreNumbered v.placements → AreNumbersOf v.placements v.live places → AreNumbersOf v.placements v.pins pins → IsRight v d
right_at v d places pins parts ok live pinned = record {
  well = record {
    apart = ok.apart;
    named = all_low v.placements v.live places live;
    pins_named = all_low v.placements v.pins pins pinned;
    live_up = ordered v v.live places live parts.places.ascending;
    pins_up = ordered v v.pins pins pinned parts.pins.ascending;
    items_up = ap items_ascend parts.bounds ∙ items_up d.cells d.pieces parts.design.cells_ascend parts.design.pieces_ascend;
    listed = ap (λ bs. list_all (λ n. list_all (λ i. list_any (λ b. same_item b.item i) bs) (items v n)) v.live) parts.bounds
        ∙ all_listed v d parts.design v.live places live (λ p i. (parts.places.exact p).0 (in_contains places p i));
    small = parts.small;
  };
  shows = record {
    places = λ p. let a = named_exactly v v.live places live p in let b = parts.places.exact p in (λ h. b.0 (a.0 h), λ h. a.1 (b.1 h));
    pins = λ p. let a = named_exactly v v.pins pins pinned p in let b = parts.pins.exact p in (λ h. b.0 (a.0 h), λ h. a.1 (b.1 h));
    bounds = parts.bounds;
  };
}

-- the table is right if the pins get their numbers after the placements
pub right_from : (d : Layout) (places pins : List Placement) (bounds : List Bound) (between more all : List Placement) (live pinned : List ℕ) → ArePartsOf d places pins bounds → AreNumbered all →
    AreNumbersOf between live places → all ≡ between ++ more → AreNumbersOf all pinned pins → IsRight (record { placements = all; live = live; bounds = bounds; pins = pinned }) d
right_from d places pins bounds between more all live pinned parts ok named grows pinned_named =
    right_at (record { placements = all; live = live; bounds = bounds; pins = pinned }) d places pins parts ok
    (subst (λ l. AreNumbersOf l live places) (sym grows) (named_on between more live places named)) pinned_named
