-- The view that is made from a design alone.
use Rattle.std.proofs.Common.{Bool, List, None, Option, Some, [], ap, append_assoc, arith, cond, false, get_or, inl, inr, leb, length, length-append, ltb, map, refl, slice_get, subst, suc, sym, true, zero, ℕ, ◌&&◌, ◌++◌, ◌+◌, ◌||◌, ◌∙◌, ◌∷◌, ◌≡◌, ◌≢◌, ◌≤◌, ◌⊎◌}
use Rattle.std.proofs.lemmas.Bool.{and_from, cases_Bool, lt-ltb, ltb-false, or_left}
use Rattle.std.proofs.lemmas.List.Quantifiers.{all_pairs_push, position-Some}
use Rattle.std.proofs.lemmas.List.Sums.{fails_before_first}
use Rattle.std.proofs.lemmas.List.{append-nil}
use Rattle.std.specs.List.{AllPairs, Contains, cons_option, list_all, list_any, position, position_or_len, range_with_len}
use Rattle.std.specs.Map.{keys_of, lookup}
use Rattle.std.specs.BTreeMap.{is_at}
use Rattle.std.specs.Option.{option_map}
use Rattle.std.specs.Prelude.{unwrap_or}
use Rattle.std.specs.Cmp.{tied_itself}
use Rattle.std.specs.Ordering.{is_lt}
use Rattle.std.specs.declared.cmp.Ordering.TheVariants.{Less}
use Rattle.poly_grid.specs.Spot.{Spot}
use Rattle.poly_shape.specs.Order.{IsAscending, spot_cmp}
use Rattle.poly_design.specs.Layout.{Layout, mode_of}
use Rattle.poly_design.specs.Limits.{IsDesign}
use Rattle.poly_design.specs.Listed.{IsListOf}
use Rattle.poly_design.specs.Name.{name_cmp}
use Rattle.poly_design.specs.PlacementOrder.{placement_cmp}
use Rattle.poly_design.specs.Placements.{IsPlacement}
use Rattle.poly_design.specs.declared.mode.Mode.{Mode}
use Rattle.poly_design.specs.declared.mode.Mode.TheVariants.{Blocked, Optional, Required}
use Rattle.poly_design.specs.declared.placement.Placement.{Placement}
use Rattle.poly_design.specs.declared.spec.Spec.{Spec}
use Rattle.poly_tiling.specs.declared.item.Item.TheVariants.{Cell, Piece}
use Rattle.poly_tiling.specs.declared.bound.Bound.{Bound}
use Rattle.poly_tiling.specs.Puzzle.{View, items, items_of, same_item}
use Rattle.poly_tiling.specs.Names.{WellNamed, item_cmp, items_ascend}
use Rattle.poly_tiling.specs.Shows.{AddsPins, HasNumber, IsNamed, IsPlain, PutsPin, Shows, StandFor, cell_bound, item_bounds, piece_bound, pin_of, pins_of}
use Rattle.poly_tiling.proofs.Lists.{In, all_append, all_from, any_append, any_from, in_append_cases, in_append_left, in_append_right, in_map, map_in}
use Rattle.poly_tiling.proofs.Contained.{at_in, contains_in, get_low, in_contains, low_get, pairs_cons, pairs_head, pairs_none, pairs_rest}
use Rattle.poly_tiling.proofs.Bounded.{cell_test}
use Rattle.poly_tiling.proofs.Shown.{some_same}
use Rattle.poly_tiling.proofs.Stands.{at_stands, first_stand, get_past, stand_up, stands_at, stands_more, stands_push}
use Rattle.poly_tiling.proofs.Orders.{placement_total}
use Rattle.poly_tiling.proofs.Tilings.{same_item_self}

-- the least is at most the most, and the most at most 16
abbrev pub small : Bound → Bool
small b = leb b.least b.most && leb b.most 16

-- all pieces but those that are left have been added
pub record AddsPieces (pieces left : List (List ℕ × Spec)) (old now : List Bound) : Type 0 where
  pub done : List (List ℕ × Spec)
  pub split : done ++ left ≡ pieces
  pub is : now ≡ old ++ map piece_bound done
  pub small : list_all small (map piece_bound done) ≡ true

map_push : (es : List (List ℕ × Spec)) (e : List ℕ × Spec) → map piece_bound (es ++ e ∷ []) ≡ map piece_bound es ++ piece_bound e ∷ []
map_push [] e = refl
map_push (x ∷ es) e = ap (λ l. piece_bound x ∷ l) (map_push es e)

pub pieces_start : (pieces : List (List ℕ × Spec)) (old : List Bound) → AddsPieces pieces pieces old old
pieces_start pieces old = record { done = []; split = refl; is = sym (append-nil old); small = refl }

pub pieces_more : (pieces left rest : List (List ℕ × Spec)) (e : List ℕ × Spec) (old now new : List Bound) → AddsPieces pieces left old now → left ≡ e ∷ rest → new ≡ now ++ piece_bound e ∷ [] → small (piece_bound e) ≡ true → AddsPieces pieces rest old new
pieces_more pieces left rest e old now new a is put fits = record {
  done = a.done ++ e ∷ [];
  split = append_assoc a.done (e ∷ []) rest ∙ ap (λ l. a.done ++ l) (sym is) ∙ a.split;
  is = put ∙ ap (λ l. l ++ piece_bound e ∷ []) a.is ∙ append_assoc old (map piece_bound a.done) (piece_bound e ∷ []) ∙ ap (λ l. old ++ l) (sym (map_push a.done e));
  small = ap (λ l. list_all small l) (map_push a.done e) ∙ all_append small (map piece_bound a.done) (piece_bound e ∷ []) ∙ and_from _ _ a.small (and_from _ _ fits refl);
}

pub pieces_all : (pieces left : List (List ℕ × Spec)) (old now : List Bound) → AddsPieces pieces left old now → left ≡ [] → (now ≡ old ++ map piece_bound pieces) × (list_all small (map piece_bound pieces) ≡ true)
pieces_all pieces left old now a none =
    let whole : a.done ≡ pieces = sym (append-nil a.done) ∙ ap (λ l. a.done ++ l) (sym none) ∙ a.split in
    (a.is ∙ ap (λ l. old ++ map piece_bound l) whole, ap (λ l. list_all small (map piece_bound l)) (sym whole) ∙ a.small)

mode_small : (c : Spot) (m : Mode) → small (cell_bound (c, m)) ≡ true
mode_small c Required = refl
mode_small c Optional = refl
mode_small c Blocked = refl

cells_small : (cells : List (Spot × Mode)) → list_all small (map cell_bound cells) ≡ true
cells_small [] = refl
cells_small (e ∷ es) = and_from _ _ (mode_small e.0 e.1) (cells_small es)

pub bounds_small : (d : Layout) → list_all small (map piece_bound d.pieces) ≡ true → list_all small (item_bounds d) ≡ true
bounds_small d h = all_append small (map cell_bound d.cells) (map piece_bound d.pieces) ∙ and_from _ _ (cells_small d.cells) h

-- the pins of all pieces but those that are left have numbers
pub record PinsSo (pieces left : List (List ℕ × Spec)) (old now : List Placement) (pins : List ℕ) : Type 0 where
  pub done : List Placement
  pub split : done ++ pins_of left ≡ pins_of pieces
  pub stand : StandFor now pins done
  pub more : List Placement
  pub grown : now ≡ old ++ more
  pub apart : AllPairs (λ p q. p ≢ q) now
  pub after : (p : Placement) → Contains more p → Contains (pins_of pieces) p
  pub few : length now + length left ≤ length old + length pieces

pub pins_start : (pieces : List (List ℕ × Spec)) (old : List Placement) → AllPairs (λ p q. p ≢ q) old → PinsSo pieces pieces old old []
pins_start pieces old apart = record {
  done = [];
  split = refl;
  stand = refl;
  more = [];
  grown = sym (append-nil old);
  apart = apart;
  after = λ p c. absurd (contains_in [] p c);
  few = omega arith;
}

pub pins_none : (pieces left rest : List (List ℕ × Spec)) (e : List ℕ × Spec) (old now : List Placement) (pins : List ℕ) → PinsSo pieces left old now pins → left ≡ e ∷ rest → pin_of e ≡ None → PinsSo pieces rest old now pins
pins_none pieces left rest e old now pins s is none = record {
  done = s.done;
  split = ap (λ l. s.done ++ l) (sym (ap pins_of is ∙ ap (λ o. cons_option o (pins_of rest)) none)) ∙ s.split;
  stand = s.stand;
  more = s.more;
  grown = s.grown;
  apart = s.apart;
  after = s.after;
  few = omega (arith, s.few, ap length is);
}

pub pins_some : (pieces left rest : List (List ℕ × Spec)) (e : List ℕ × Spec) (p : Placement) (old now new : List Placement) (pins more : List ℕ) (n : ℕ) → PinsSo pieces left old now pins → left ≡ e ∷ rest → pin_of e ≡ Some p →
    HasNumber p now new n → more ≡ pins ++ n ∷ [] → PinsSo pieces rest old new more
pins_some pieces left rest e p old now new pins more n s is some h put =
    let split : (s.done ++ p ∷ []) ++ pins_of rest ≡ pins_of pieces = append_assoc s.done (p ∷ []) (pins_of rest) ∙ ap (λ l. s.done ++ l) (sym (ap pins_of is ∙ ap (λ o. cons_option o (pins_of rest)) some)) ∙ s.split in
    record {
      done = s.done ++ p ∷ [];
      split = split;
      stand = subst (λ l. StandFor new l (s.done ++ p ∷ [])) (sym put) (stands_push new pins s.done n p (subst (λ l. StandFor l pins s.done) (sym h.grown) (stands_more now h.more pins s.done s.stand)) h.names);
      more = s.more ++ h.more;
      grown = h.grown ∙ ap (λ l. l ++ h.more) s.grown ∙ append_assoc old s.more h.more;
      apart = h.apart;
      after = λ q c. elim (in_append_cases q s.more h.more (contains_in (s.more ++ h.more) q c)) [
        | inl i ↦ s.after q (in_contains s.more q i)
        | inr i ↦ in_contains (pins_of pieces) q (subst (λ l. In q l) split (in_append_left q (s.done ++ p ∷ []) (pins_of rest) (in_append_right q s.done (p ∷ []) (inl (sym (h.after q (in_contains h.more q i)))))))
      ];
      few = omega (arith, s.few, h.short, ap length is);
    }

pins_step_at : (pieces left rest : List (List ℕ × Spec)) (e : List ℕ × Spec) (old now new : List Placement) (pins more : List ℕ) → PinsSo pieces left old now pins → left ≡ e ∷ rest →
    (pin : Option (List Spot)) → e.1.pin ≡ pin → PutsPin e.0 pin now new pins more → PinsSo pieces rest old new more
pins_step_at pieces left rest e old now new pins more s is None same put =
    subst (λ l. PinsSo pieces rest old l more) (sym put.0) (subst (λ l. PinsSo pieces rest old now l) (sym put.1) (pins_none pieces left rest e old now pins s is (ap (λ o. option_map (λ cells. record { name = e.0; cells = cells }) o) same)))
pins_step_at pieces left rest e old now new pins more s is (Some cells) same put =
    pins_some pieces left rest e (record { name = e.0; cells = cells }) old now new pins more put.0 s is (ap (λ o. option_map (λ cells. record { name = e.0; cells = cells }) o) same) put.1 put.2

-- one more piece is done: if it has a pin, the pin has a number
pub pins_step : (pieces left rest : List (List ℕ × Spec)) (e : List ℕ × Spec) (old now new : List Placement) (pins more : List ℕ) → PinsSo pieces left old now pins → left ≡ e ∷ rest → PutsPin e.0 e.1.pin now new pins more → PinsSo pieces rest old new more
pins_step pieces left rest e old now new pins more s is put = pins_step_at pieces left rest e old now new pins more s is e.1.pin refl put

pub pins_all : (pieces left : List (List ℕ × Spec)) (old now : List Placement) (pins : List ℕ) → PinsSo pieces left old now pins → left ≡ [] → AddsPins pieces old now pins
pins_all pieces left old now pins s none =
    let whole : s.done ≡ pins_of pieces = sym (append-nil s.done) ∙ ap (λ l. s.done ++ pins_of l) (sym none) ∙ s.split in
    record { more = s.more; grown = s.grown; apart = s.apart; stand = subst (λ l. StandFor now pins l) whole s.stand; after = s.after }

-- a placement that was found has its index as its number; one that wasn't found gets the next number
pub position_at : (f : Placement → Bool) (ps : List Placement) (n : ℕ) (p : Placement) → position f ps ≡ Some n → ((q : Placement) → f q ≡ true → q ≡ p) → slice_get ps n ≡ Some p
position_at f ps n p e is =
    let r = position-Some f ps n p e in
    let x = low_get ps n r.0 in
    let same : get_or ps n p ≡ x.0 = get_same ps n p x.0 x.1 in
    x.1 ∙ ap Some (sym same ∙ is (get_or ps n p) r.1)
  where
    get_same : (ps : List Placement) (n : ℕ) (d x : Placement) → slice_get ps n ≡ Some x → get_or ps n d ≡ x
    get_same [] n d x e = cc
    get_same (y ∷ ys) zero d x e = cc
    get_same (y ∷ ys) (suc n) d x e = get_same ys n d x e

pub position_none : (f : Placement → Bool) (ps : List Placement) → position f ps ≡ None → (q : Placement) → In q ps → f q ≡ false
position_none f ps e q i =
    let k = in_contains ps q i in
    let past : length ps ≤ position_or_len f ps = at (ltb (position_or_len f ps) (length ps)) (position_or_len f ps) (length ps) refl e in
    ap f (sym k.2) ∙ fails_before_first f ps k.0 q (omega (arith, k.1))
  where
    at : (b : Bool) (m n : ℕ) → ltb m n ≡ b → cond b (Some m) None ≡ None → n ≤ m
    at true m n l e = cc
    at false m n l e = ltb-false m n l

pub found_number : (p : Placement) (ps : List Placement) (n : ℕ) → AllPairs (λ p q. p ≢ q) ps → slice_get ps n ≡ Some p → HasNumber p ps ps n
found_number p ps n apart e = record { more = []; grown = sym (append-nil ps); names = e; apart = apart; after = λ q c. absurd (contains_in [] q c); short = omega arith }

pub new_number : (p : Placement) (ps new : List Placement) → AllPairs (λ p q. p ≢ q) ps → ((q : Placement) → In q ps → q ≢ p) → new ≡ ps ++ p ∷ [] → HasNumber p ps new (length ps)
new_number p ps new apart other is = record {
  more = p ∷ [];
  grown = is;
  names = ap (λ l. slice_get l (length ps)) is ∙ get_past ps p [];
  apart = subst (λ l. AllPairs (λ p q. p ≢ q) l) (sym is) (all_pairs_push (λ p q. p ≢ q) ps p apart (λ k d l. other (get_or ps k d) (at_in ps k d l)));
  after = λ q c. elim (contains_in (p ∷ []) q c) [ inl e ↦ sym e | inr i ↦ absurd i ];
  short = omega (arith, ap length is, length-append ps (p ∷ []));
}

-- `pins_of` has exactly the pins of the pieces, in ascending order
in_cons : (o : Option Placement) (ps : List Placement) (x : Placement) → In x (cons_option o ps) → (o ≡ Some x) ⊎ In x ps
in_cons None ps x i = inr i
in_cons (Some y) ps x (inl e) = inl (ap Some e)
in_cons (Some y) ps x (inr i) = inr i

cons_head : (o : Option Placement) (ps : List Placement) (x : Placement) → o ≡ Some x → In x (cons_option o ps)
cons_head None ps x e = cc
cons_head (Some y) ps x e = inl cc

cons_tail : (o : Option Placement) (ps : List Placement) (x : Placement) → In x ps → In x (cons_option o ps)
cons_tail None ps x i = i
cons_tail (Some y) ps x i = inr i

pin_is : (name : List ℕ) (o : Option (List Spot)) (p : Placement) → option_map (λ cells. record { name = name; cells = cells }) o ≡ Some p → (name ≡ p.name) × (o ≡ Some p.cells)
pin_is name None p e = cc
pin_is name (Some cells) p e = let same = some_same (record { name = name; cells = cells }) p e in (ap (λ q. q.name) same, ap (λ q. Some q.cells) same)

is_pin : (o : Option (List Spot)) (p : Placement) → o ≡ Some p.cells → option_map (λ cells. record { name = p.name; cells = cells }) o ≡ Some p
is_pin None p e = cc
is_pin (Some cells) p e = let same : cells ≡ p.cells = cc in ap (λ k. Some (record { name = p.name; cells = k })) same

pub record Pinned (es : List (List ℕ × Spec)) (p : Placement) : Type 0 where
  pub spec : Spec
  pub has : In (p.name, spec) es
  pub pinned : spec.pin ≡ Some p.cells

pub pins_in : (es : List (List ℕ × Spec)) (p : Placement) → In p (pins_of es) → Pinned es p
pins_in [] p i = absurd i
pins_in (e ∷ es) p i = elim (in_cons (pin_of e) (pins_of es) p i) [
  | inl h ↦ let r = pin_is e.0 e.1.pin p h in record { spec = e.1; has = inl (ap (λ n. (n, e.1)) r.0); pinned = r.1 }
  | inr j ↦ let r = pins_in es p j in record { spec = r.spec; has = inr r.has; pinned = r.pinned }
]

pub in_pins : (es : List (List ℕ × Spec)) (p : Placement) → Pinned es p → In p (pins_of es)
in_pins [] p h = absurd h.has
in_pins (e ∷ es) p h = elim h.has [
  | inl same ↦ cons_head (pin_of e) (pins_of es) p (ap pin_of same ∙ is_pin h.spec.pin p h.pinned)
  | inr i ↦ cons_tail (pin_of e) (pins_of es) p (in_pins es p (record { spec = h.spec; has = i; pinned = h.pinned }))
]

less_name : (x y : Placement) → name_cmp x.name y.name ≡ Less → placement_cmp x y ≡ Less
less_name x y e = rw e refl

pins_up_at : (o : Option Placement) (ps : List Placement) → ((x : Placement) → o ≡ Some x → (y : Placement) → In y ps → placement_cmp x y ≡ Less) → IsAscending placement_cmp ps → IsAscending placement_cmp (cons_option o ps)
pins_up_at None ps first up = up
pins_up_at (Some x) ps first up = pairs_cons (λ x y. placement_cmp x y ≡ Less) x ps (first x refl) up

pub pins_up : (es : List (List ℕ × Spec)) → IsAscending name_cmp (keys_of es) → IsAscending placement_cmp (pins_of es)
pins_up [] up = pairs_none (λ x y. placement_cmp x y ≡ Less)
pins_up (e ∷ es) up = pins_up_at (pin_of e) (pins_of es)
    (λ x h y i.
    let r = pin_is e.0 e.1.pin x h in
    let k = pins_in es y i in
    less_name x y (ap (λ n. name_cmp n y.name) (sym r.0) ∙ pairs_head (λ a b. name_cmp a b ≡ Less) e.0 (keys_of es) up y.name (in_map (λ e. e.0) es (y.name, k.spec) k.has)))
    (pins_up es (pairs_rest (λ a b. name_cmp a b ≡ Less) e.0 (keys_of es) up))

-- the items of a design ascend
pieces_ascend : (es : List (List ℕ × Spec)) → IsAscending name_cmp (keys_of es) → items_ascend (map piece_bound es) ≡ true
pieces_ascend [] up = refl
pieces_ascend (e ∷ es) up = and_from _ _
    (all_from (λ c. is_lt (item_cmp (Piece e.0) c.item)) (map piece_bound es) (λ c i.
    let r = map_in piece_bound es c i in
    ap (λ b. is_lt (item_cmp (Piece e.0) b.item)) (sym r.2) ∙ ap is_lt (pairs_head (λ a b. name_cmp a b ≡ Less) e.0 (keys_of es) up r.0.0 (in_map (λ e. e.0) es r.0 r.1))))
    (pieces_ascend es (pairs_rest (λ a b. name_cmp a b ≡ Less) e.0 (keys_of es) up))

pub items_go_up : (cells : List (Spot × Mode)) (pieces : List (List ℕ × Spec)) → IsAscending spot_cmp (keys_of cells) → IsAscending name_cmp (keys_of pieces) → items_ascend (map cell_bound cells ++ map piece_bound pieces) ≡ true
items_go_up [] pieces up names = pieces_ascend pieces names
items_go_up (e ∷ es) pieces up names = and_from _ _
    (all_from (λ c. is_lt (item_cmp (Cell e.0) c.item)) (map cell_bound es ++ map piece_bound pieces) (λ c i. elim (in_append_cases c (map cell_bound es) (map piece_bound pieces) i) [
      | inl j ↦
          let r = map_in cell_bound es c j in
          ap (λ b. is_lt (item_cmp (Cell e.0) b.item)) (sym r.2) ∙ ap is_lt (pairs_head (λ a b. spot_cmp a b ≡ Less) e.0 (keys_of es) up r.0.0 (in_map (λ e. e.0) es r.0 r.1))
      | inr j ↦ let r = map_in piece_bound pieces c j in ap (λ b. is_lt (item_cmp (Cell e.0) b.item)) (sym r.2)
    ]))
    (items_go_up es pieces (pairs_rest (λ a b. spot_cmp a b ≡ Less) e.0 (keys_of es) up) names)

-- a cell that is not blocked is an item
unlisted_at : (e : Spot × Mode) (es : List (Spot × Mode)) (c : Spot) (rest : Bool) → (rest ≡ false → lookup (is_at (spot_cmp c)) es ≡ None) → (b : Bool) → (b || rest) ≡ false → cond b (Some e.1) (lookup (is_at (spot_cmp c)) es) ≡ None
unlisted_at e es c rest ih true h = cc
unlisted_at e es c rest ih false h = ih h

unlisted : (cells : List (Spot × Mode)) (c : Spot) → list_any (λ b. same_item b.item (Cell c)) (map cell_bound cells) ≡ false → lookup (is_at (spot_cmp c)) cells ≡ None
unlisted [] c h = refl
unlisted (e ∷ es) c h = unlisted_at e es c (list_any (λ b. same_item b.item (Cell c)) (map cell_bound es)) (unlisted es c) (is_at (spot_cmp c) e.0)
    (ap (λ t. t || list_any (λ b. same_item b.item (Cell c)) (map cell_bound es)) (sym (cell_test c e.0)) ∙ h)

cell_listed : (d : Layout) (c : Spot) → mode_of d c ≢ Blocked → list_any (λ b. same_item b.item (Cell c)) (item_bounds d) ≡ true
cell_listed d c free = elim (cases_Bool (list_any (λ b. same_item b.item (Cell c)) (map cell_bound d.cells))) [
  | inl y ↦ any_append (λ b. same_item b.item (Cell c)) (map cell_bound d.cells) (map piece_bound d.pieces) ∙ or_left _ _ y
  | inr n ↦ absurd (free (ap (λ o. unwrap_or o Blocked) (unlisted d.cells c n)))
]

piece_listed : (d : Layout) (name : List ℕ) (spec : Spec) → In (name, spec) d.pieces → list_any (λ b. same_item b.item (Piece name)) (item_bounds d) ≡ true
piece_listed d name spec i =
    any_from (λ b. same_item b.item (Piece name)) (item_bounds d) (piece_bound (name, spec)) (in_append_right (piece_bound (name, spec)) (map cell_bound d.cells) (map piece_bound d.pieces) (in_map piece_bound d.pieces (name, spec) i)) (same_item_self (Piece name))

pub items_listed : (d : Layout) (p : Placement) → IsPlacement d p → list_all (λ i. list_any (λ b. same_item b.item i) (item_bounds d)) (items_of (Some p)) ≡ true
items_listed d p h = and_from _ _
    (piece_listed d p.name h.spec (contains_in d.pieces (p.name, h.spec) h.has))
    (all_from (λ i. list_any (λ b. same_item b.item i) (item_bounds d)) (map (λ c. Cell c) p.cells) (λ i j.
    let r = map_in (λ c. Cell c) p.cells i j in
    subst (λ k. list_any (λ b. same_item b.item k) (item_bounds d) ≡ true) r.2 (cell_listed d r.0 (h.place.lies.free r.0 (in_contains p.cells r.0 r.1)))))

-- the parts of the plain view
pub record PlainParts (d : Layout) (places placements : List Placement) (live pins : List ℕ) (bounds : List Bound) : Type 0 where
  pub design : IsDesign d
  pub listed : IsListOf placement_cmp (IsPlacement d) places
  pub pinned : AddsPins d.pieces places placements pins
  pub first : live ≡ range_with_len 0 (length places)
  pub bounded : bounds ≡ item_bounds d
  pub small : list_all small bounds ≡ true

pub ascending_apart : (ps : List Placement) → IsAscending placement_cmp ps → AllPairs (λ p q. p ≢ q) ps
ascending_apart ps up i j d l h = λ same. less_other (get_or ps i d) (get_or ps j d) (up i j d l h) same
  where
    less_other : (x y : Placement) → placement_cmp x y ≡ Less → x ≢ y
    less_other x y e same = let tied = tied_itself placement_total x in let f : placement_cmp x x ≡ Less = ap (λ z. placement_cmp x z) same ∙ e in cc

live_stand : (d : Layout) (v : View) (places : List Placement) → PlainParts d places v.placements v.live v.pins v.bounds → StandFor v.placements v.live places
live_stand d v places h = subst (λ l. StandFor v.placements l places) (sym h.first) (subst (λ l. StandFor l (range_with_len 0 (length places)) places) (sym h.pinned.grown) (first_stand places h.pinned.more))

named_all : (v : View) (ns : List ℕ) (ps : List Placement) → StandFor v.placements ns ps → list_all (λ p. ltb p (length v.placements)) ns ≡ true
named_all v ns ps s = all_from (λ p. ltb p (length v.placements)) ns (λ n i. let r = stands_at v.placements ns ps s n i in lt-ltb n _ (get_low v.placements n r.0 r.2))

pub plain_well : (d : Layout) (v : View) (places : List Placement) → PlainParts d places v.placements v.live v.pins v.bounds → WellNamed v
plain_well d v places h =
    let live = live_stand d v places h in
    record {
      apart = h.pinned.apart;
      named = named_all v v.live places live;
      pins_named = named_all v v.pins (pins_of d.pieces) h.pinned.stand;
      live_up = stand_up v v.live places live h.listed.ascending;
      pins_up = stand_up v v.pins (pins_of d.pieces) h.pinned.stand (pins_up d.pieces h.design.pieces_ascend);
      items_up = ap items_ascend h.bounded ∙ items_go_up d.cells d.pieces h.design.cells_ascend h.design.pieces_ascend;
      listed = all_from (λ p. list_all (λ i. list_any (λ b. same_item b.item i) v.bounds) (items v p)) v.live (λ n i.
          let r = stands_at v.placements v.live places live n i in
          ap (λ o. list_all (λ i. list_any (λ b. same_item b.item i) v.bounds) (items_of o)) r.2
          ∙ ap (λ bs. list_all (λ i. list_any (λ b. same_item b.item i) bs) (items_of (Some r.0))) h.bounded
          ∙ items_listed d r.0 ((h.listed.exact r.0).0 (in_contains places r.0 r.1)));
      small = h.small;
    }

named_stand : (v : View) (ns : List ℕ) (ps : List Placement) → StandFor v.placements ns ps → (p : Placement) → (IsNamed v ns p → In p ps) × (In p ps → IsNamed v ns p)
named_stand v ns ps s p = (
  λ k. let r = stands_at v.placements ns ps s k.number (contains_in ns k.number k.stands) in subst (λ x. In x ps) (some_same r.0 p (sym r.2 ∙ k.names)) r.1,
  λ i. let r = at_stands v.placements ns ps s p i in record { number = r.0; stands = in_contains ns r.0 r.1; names = r.2 },
)

pub plain_shows : (d : Layout) (v : View) (places : List Placement) → PlainParts d places v.placements v.live v.pins v.bounds → Shows v d
plain_shows d v places h = record {
  places = λ p.
      let k = named_stand v v.live places (live_stand d v places h) p in (
        λ n. (h.listed.exact p).0 (in_contains places p (k.0 n)),
        λ i. k.1 (contains_in places p ((h.listed.exact p).1 i)),
      );
  pins = λ p.
      let k = named_stand v v.pins (pins_of d.pieces) h.pinned.stand p in (
        λ n. let r = pins_in d.pieces p (k.0 n) in record { spec = r.spec; has = in_contains d.pieces (p.name, r.spec) r.has; pinned = r.pinned },
        λ i. k.1 (in_pins d.pieces p (record { spec = i.spec; has = contains_in d.pieces (p.name, i.spec) i.has; pinned = i.pinned })),
      );
  bounds = h.bounded;
}

pub plain_is : (d : Layout) (v : View) (places : List Placement) → PlainParts d places v.placements v.live v.pins v.bounds → IsPlain v d
plain_is d v places h = record {
  places = places;
  more = h.pinned.more;
  listed = h.listed;
  named = h.pinned.grown;
  first = h.first;
  after = λ p c.
      let r = pins_in d.pieces p (contains_in (pins_of d.pieces) p (h.pinned.after p c)) in
      record { spec = r.spec; has = in_contains d.pieces (p.name, r.spec) r.has; pinned = r.pinned };
}
