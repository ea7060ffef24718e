-- The guards of a change and of its inverse are those that `guards_by` makes from the lists of the change's `Delta`.
use Rattle.std.proofs.Common.{Bool, List, [], ap, arith, cond, false, filter, inl, inr, length, length-append, map, not, nat_lt, refl, subst, sym, true, ℕ, ◌++◌, ◌+◌, ◌<◌, ◌∙◌, ◌∷◌, ◌≡◌, ◌≤◌, ◌≢◌}
use Rattle.std.proofs.lemmas.Bool.{lt-ltb, ltb-true}
use Rattle.std.proofs.lemmas.List.{length-map}
use Rattle.std.specs.List.{list_any}
use Rattle.std.specs.declared.cmp.Ordering.TheVariants.{Less}
use Rattle.poly_grid.specs.Spot.{Spot}
use Rattle.poly_shape.specs.Order.{IsAscending}
use Rattle.poly_shape.proofs.Ascending.{same_ascending}
use Rattle.poly_design.specs.Layout.{Layout, mode_of}
use Rattle.poly_design.specs.Limits.{IsDesign}
use Rattle.poly_design.specs.Listed.{IsListOf}
use Rattle.poly_design.specs.Name.{name_cmp}
use Rattle.poly_design.specs.declared.mode.Mode.{Mode}
use Rattle.poly_design.specs.declared.mode.Mode.TheVariants.{Blocked, Optional, Required}
use Rattle.poly_place.specs.Between.{IsChangeOf}
use Rattle.poly_place.specs.Delta.{LeastRises, MostFalls}
use Rattle.poly_place.specs.declared.delta.Delta.{Delta}
use Rattle.poly_place.proofs.Between.{fresh_is, gone_is, pinned_is, unpinned_is}
use Rattle.poly_place.proofs.Differences.{bound_of_in, key_piece, listed_item, piece_key, risen_up}
use Rattle.poly_tiling.specs.Lists.{mem}
use Rattle.poly_tiling.specs.Names.{WellNamed, item_cmp}
use Rattle.poly_tiling.specs.declared.bound.Bound.{Bound}
use Rattle.poly_tiling.specs.Puzzle.{View, least, most, same_item}
use Rattle.poly_tiling.specs.Shows.{Shows, cell_bound, item_bounds, piece_bound}
use Rattle.poly_tiling.specs.Tilings.{bounds_of_mode}
use Rattle.poly_tiling.specs.declared.item.Item.{Item}
use Rattle.poly_tiling.specs.declared.item.Item.TheVariants.{Cell, Piece}
use Rattle.poly_tiling.proofs.Contained.{contains_in, in_contains, pairs_cons, pairs_head, pairs_none, pairs_rest}
use Rattle.poly_tiling.proofs.Lists.{In, filter_in, in_append_cases, in_filter, in_map, map_in}
use Rattle.poly_tiling.proofs.Searched.{item_total}
use Rattle.poly_tiling.proofs.Shown.{shown_least, shown_most}
use Rattle.poly_atom.specs.declared.atom.Atom.TheVariants.{AtLeast, AtMost, Has, Lacks}
use Rattle.poly_atom.specs.Guards.{guards, guards_by, guards_fresh, guards_least, guards_most, guards_pins}

map_twice : {X Y Z : Type 0} (g : Y → Z) (f : X → Y) (xs : List X) → map g (map f xs) ≡ map (λ x. g (f x)) xs
map_twice g f [] = refl
map_twice g f (x ∷ xs) = ap (λ ys. g (f x) ∷ ys) (map_twice g f xs)

abbrev item_of : Bound → Item
item_of b = b.item

-- ---- leasts that fell

abbrev fell : View → View → Bound → Bool
fell a b c = nat_lt (least b c.item) (least a c.item)

leasts_are : (a b : View) (d e : Layout) (ls : List Item) → WellNamed a → Shows a d → Shows b e → IsListOf item_cmp (LeastRises e d) ls → ls ≡ map item_of (filter (fell a b) a.bounds)
leasts_are a b d e ls wn s t l = same_ascending item_total ls (map item_of (filter (fell a b) a.bounds)) l.ascending (risen_up (fell a b) a.bounds wn.items_up)
    (λ i h.
    let rises : LeastRises e d i = (l.exact i).0 h in
    let lower : least b i < least a i = omega (arith, rises, shown_least a d s i, shown_least b e t i) in
    let r = listed_item a.bounds i (λ c. c.least) (omega (arith, lower)) (list_any (λ c. same_item c.item i) a.bounds) refl in
    in_contains (map item_of (filter (fell a b) a.bounds)) i
    (subst (λ j. In j (map item_of (filter (fell a b) a.bounds))) r.2
    (in_map item_of (filter (fell a b) a.bounds) r.0 (in_filter (fell a b) a.bounds r.0 r.1 (subst (λ j. nat_lt (least b j) (least a j) ≡ true) (sym r.2) (lt-ltb (least b i) (least a i) lower))))))
    (λ i h.
    let r = map_in item_of (filter (fell a b) a.bounds) i (contains_in (map item_of (filter (fell a b) a.bounds)) i h) in
    let q = filter_in (fell a b) a.bounds r.0 r.1 in
    let lower = ltb-true (least b r.0.item) (least a r.0.item) q.1 in
    let rises : LeastRises e d r.0.item = omega (arith, lower, shown_least a d s r.0.item, shown_least b e t r.0.item) in
    (l.exact i).1 (subst (λ j. LeastRises e d j) r.2 rises))

-- ---- mosts that rose

abbrev rose : View → View → Bound → Bool
rose a b c = nat_lt (most a c.item) (most b c.item)

mode_high : (m : Mode) → (m ≢ Blocked) → (bounds_of_mode m).most ≡ 1
mode_high Required n = refl
mode_high Optional n = refl
mode_high Blocked n = absurd (n refl)

mode_low : (m : Mode) → (bounds_of_mode m).most ≤ 1
mode_low Required = omega arith
mode_low Optional = omega arith
mode_low Blocked = omega arith

-- the most of a cell is 1
cell_most : (d : Layout) → IsDesign d → (c : Bound) (k : Spot) → In c (item_bounds d) → c.item ≡ Cell k → c.most ≡ 1
cell_most d is c k i e = elim (in_append_cases c (map cell_bound d.cells) (map piece_bound d.pieces) i) [
  | inl j ↦
      let r = map_in cell_bound d.cells c j in
      ap (λ (z : Bound). z.most) (sym r.2) ∙ mode_high r.0.1 (is.unblocked r.0.0 r.0.1 (in_contains d.cells r.0 r.1))
  | inr j ↦ let r = map_in piece_bound d.pieces c j in let no : Piece r.0.0 ≡ Cell k = ap item_of r.2 ∙ e in cc
]

pieces_up : (ms : List (List ℕ)) → IsAscending name_cmp ms → IsAscending item_cmp (map (λ n. Piece n) ms)
pieces_up [] up = pairs_none (λ i j. item_cmp i j ≡ Less)
pieces_up (m ∷ ms) up = pairs_cons (λ i j. item_cmp i j ≡ Less) (Piece m) (map (λ n. Piece n) ms)
    (λ y i. let r = map_in (λ n. Piece n) ms y i in subst (λ z. item_cmp (Piece m) z ≡ Less) r.2 (pairs_head (λ j k. name_cmp j k ≡ Less) m ms up r.0 r.1))
    (pieces_up ms (pairs_rest (λ j k. name_cmp j k ≡ Less) m ms up))

module _ (a b : View) (d e : Layout) (wn : WellNamed a) (first : IsDesign d) (s : Shows a d) (t : Shows b e) where
  own_bound : (c : Bound) → In c a.bounds → most a c.item ≡ c.most
  own_bound c i = bound_of_in a.bounds wn.items_up c i (λ z. z.most)

  falls_from : (n : List ℕ) → (c : Bound) → In c a.bounds → c.item ≡ Piece n → most a (Piece n) < most b (Piece n) → MostFalls e d n
  falls_from n c i is l =
      let r = listed_item b.bounds (Piece n) (λ z. z.most) (omega (arith, l)) (list_any (λ z. same_item z.item (Piece n)) b.bounds) refl in
      record {
        in_first = piece_key e r.0 n (subst (λ bs. In r.0 bs) t.bounds r.1) r.2;
        in_second = piece_key d c n (subst (λ bs. In c bs) s.bounds i) is;
        lower = omega (arith, l, shown_most a d s (Piece n), shown_most b e t (Piece n));
      }

  -- an item of the first design whose most rises is a piece
  pub risen_piece : (i : Item) (c : Bound) → In c a.bounds → c.item ≡ i → most a i < most b i → (n : List ℕ) × (i ≡ Piece n) × MostFalls e d n
  risen_piece (Cell k) c i is l =
      let one = cell_most d first c k (subst (λ bs. In c bs) s.bounds i) is in
      let here : most a (Cell k) ≡ c.most = ap (most a) (sym is) ∙ own_bound c i in
      absurd (omega (arith, l, one, here, shown_most b e t (Cell k), mode_low (mode_of e k)))
  risen_piece (Piece n) c i is l = (n, refl, falls_from n c i is l)

  mosts_are : (ms : List (List ℕ)) → IsListOf name_cmp (MostFalls e d) ms → map (λ n. Piece n) ms ≡ map item_of (filter (rose a b) a.bounds)
  mosts_are ms l = same_ascending item_total (map (λ n. Piece n) ms) (map item_of (filter (rose a b) a.bounds)) (pieces_up ms l.ascending) (risen_up (rose a b) a.bounds wn.items_up)
      (λ i h.
      let r = map_in (λ n. Piece n) ms i (contains_in (map (λ n. Piece n) ms) i h) in
      let f = (l.exact r.0).0 (in_contains ms r.0 r.1) in
      let k = key_piece d r.0 f.in_second in
      let low = f.lower in
      let lower : most a (Piece r.0) < most b (Piece r.0) = omega (arith, low, shown_most a d s (Piece r.0), shown_most b e t (Piece r.0)) in
      let there : In k.0 a.bounds = subst (λ bs. In k.0 bs) (sym s.bounds) k.1 in
      in_contains (map item_of (filter (rose a b) a.bounds)) i
      (subst (λ j. In j (map item_of (filter (rose a b) a.bounds))) (k.2 ∙ r.2)
      (in_map item_of (filter (rose a b) a.bounds) k.0 (in_filter (rose a b) a.bounds k.0 there
      (subst (λ j. nat_lt (most a j) (most b j) ≡ true) (sym k.2) (lt-ltb (most a (Piece r.0)) (most b (Piece r.0)) lower))))))
      (λ i h.
      let r = map_in item_of (filter (rose a b) a.bounds) i (contains_in (map item_of (filter (rose a b) a.bounds)) i h) in
      let q = filter_in (rose a b) a.bounds r.0 r.1 in
      let l2 = ltb-true (most a r.0.item) (most b r.0.item) q.1 in
      let p = risen_piece r.0.item r.0 q.0 refl l2 in
      in_contains (map (λ n. Piece n) ms) i
      (subst (λ j. In j (map (λ n. Piece n) ms)) (sym p.1 ∙ r.2) (in_map (λ n. Piece n) ms p.0 (contains_in ms p.0 ((l.exact p.0).1 p.2)))))

  pub guards_by_is : (fresh : List ℕ) (ls : List Item) (ms : List (List ℕ)) (gone : List ℕ) →
      fresh ≡ filter (λ p. not (mem a.live p)) b.live → IsListOf item_cmp (LeastRises e d) ls → IsListOf name_cmp (MostFalls e d) ms → gone ≡ filter (λ p. not (mem b.pins p)) a.pins →
      guards_by a fresh ls ms gone ≡ guards a b
  guards_by_is fresh ls ms gone f l m g =
      let lacks : map (λ p. Lacks p) fresh ≡ guards_fresh a b = ap (λ ps. map (λ p. Lacks p) ps) f in
      let low : map (λ i. AtLeast i (least a i)) ls ≡ guards_least a b =
      ap (λ is. map (λ i. AtLeast i (least a i)) is) (leasts_are a b d e ls wn s t l) ∙ map_twice (λ i. AtLeast i (least a i)) item_of (filter (fell a b) a.bounds) in
      let high : map (λ n. AtMost (Piece n) (most a (Piece n))) ms ≡ guards_most a b =
      sym (map_twice (λ i. AtMost i (most a i)) (λ n. Piece n) ms)
      ∙ ap (λ is. map (λ i. AtMost i (most a i)) is) (mosts_are ms m) ∙ map_twice (λ i. AtMost i (most a i)) item_of (filter (rose a b) a.bounds) in
      let has : map (λ p. Has p) gone ≡ guards_pins a b = ap (λ ps. map (λ p. Has p) ps) g in
      ap (λ xs. xs ++ (map (λ i. AtLeast i (least a i)) ls ++ (map (λ n. AtMost (Piece n) (most a (Piece n))) ms ++ map (λ p. Has p) gone))) lacks
      ∙ ap (λ xs. guards_fresh a b ++ (xs ++ (map (λ n. AtMost (Piece n) (most a (Piece n))) ms ++ map (λ p. Has p) gone))) low
      ∙ ap (λ xs. guards_fresh a b ++ (guards_least a b ++ (xs ++ map (λ p. Has p) gone))) high
      ∙ ap (λ xs. guards_fresh a b ++ (guards_least a b ++ (guards_most a b ++ xs))) has

pub forth_is : (v w : View) (x : Delta) → IsChangeOf v w x → guards_by v x.fresh.items x.unneeded.items x.widened.items x.unpinned.items ≡ guards v w
forth_is v w x c = guards_by_is v w c.before c.after c.shown.well c.first c.shown.shows c.updated.shows x.fresh.items x.unneeded.items x.widened.items x.unpinned.items
    (fresh_is v w x c) c.delta.unneeded c.delta.widened (unpinned_is v w x c)

pub back_is : (v w : View) (x : Delta) → IsChangeOf v w x → guards_by w x.gone.items x.needed.items x.narrowed.items x.pinned.items ≡ guards w v
back_is v w x c = guards_by_is w v c.after c.before c.updated.well c.second c.updated.shows c.shown.shows x.gone.items x.needed.items x.narrowed.items x.pinned.items
    (gone_is v w x c) c.delta.needed c.delta.narrowed (pinned_is v w x c)

pub guards_by_length : (v : View) (fresh : List ℕ) (ls : List Item) (ms : List (List ℕ)) (gone : List ℕ) → length (guards_by v fresh ls ms gone) ≡ length fresh + (length ls + (length ms + length gone))
guards_by_length v fresh ls ms gone =
    let a = length-map fresh (λ p. Lacks p) in
    let b = length-map ls (λ i. AtLeast i (least v i)) in
    let c = length-map ms (λ n. AtMost (Piece n) (most v (Piece n))) in
    let d = length-map gone (λ p. Has p) in
    let e = length-append (map (λ p. Lacks p) fresh) (map (λ i. AtLeast i (least v i)) ls ++ (map (λ n. AtMost (Piece n) (most v (Piece n))) ms ++ map (λ p. Has p) gone)) in
    let f = length-append (map (λ i. AtLeast i (least v i)) ls) (map (λ n. AtMost (Piece n) (most v (Piece n))) ms ++ map (λ p. Has p) gone) in
    let g = length-append (map (λ n. AtMost (Piece n) (most v (Piece n))) ms) (map (λ p. Has p) gone) in
    omega (arith, a, b, c, d, e, f, g)

-- how many guards a change and its inverse have
pub forth_count : (v w : View) (x : Delta) → IsChangeOf v w x → length x.fresh.items + (length x.unneeded.items + (length x.widened.items + length x.unpinned.items)) ≡ length (guards v w)
forth_count v w x c = sym (guards_by_length v x.fresh.items x.unneeded.items x.widened.items x.unpinned.items) ∙ ap length (forth_is v w x c)

pub back_count : (v w : View) (x : Delta) → IsChangeOf v w x → length x.gone.items + (length x.needed.items + (length x.narrowed.items + length x.pinned.items)) ≡ length (guards w v)
back_count v w x c = sym (guards_by_length w x.gone.items x.needed.items x.narrowed.items x.pinned.items) ∙ ap length (back_is v w x c)

-- ---- how many items or pieces have a bound that changes

filter_shorter : {X : Type 0} (f : X → Bool) (xs : List X) → length (filter f xs) ≤ length xs
filter_shorter f [] = omega arith
filter_shorter f (x ∷ xs) = let r = filter_shorter f xs in elim (f x) as (λ b. length (cond b (x ∷ filter f xs) (filter f xs)) ≤ length (x ∷ xs)) [ true ↦ omega (arith, r) | false ↦ omega (arith, r) ]

few_bounds : (d : Layout) → IsDesign d → length (item_bounds d) ≤ 320
few_bounds d is =
    let a = length-append (map cell_bound d.cells) (map piece_bound d.pieces) in
    let b = length-map d.cells cell_bound in
    let c = length-map d.pieces piece_bound in
    let e = is.few_cells in
    let f = is.few_pieces in
    omega (arith, a, b, c, e, f)

few_of : (a : View) (d : Layout) → IsDesign d → Shows a d → (f : Bound → Bool) → length (map item_of (filter f a.bounds)) ≤ 320
few_of a d is s f =
    let m = length-map (filter f a.bounds) item_of in
    let g = filter_shorter f a.bounds in
    let h = ap length s.bounds in
    let k = few_bounds d is in
    omega (arith, m, g, h, k)

few_leasts : (a b : View) (d e : Layout) (ls : List Item) → WellNamed a → IsDesign d → Shows a d → Shows b e → IsListOf item_cmp (LeastRises e d) ls → length ls ≤ 320
few_leasts a b d e ls wn is s t l = let h = ap length (leasts_are a b d e ls wn s t l) in let k = few_of a d is s (fell a b) in omega (arith, h, k)

few_mosts : (a b : View) (d e : Layout) (ms : List (List ℕ)) → WellNamed a → IsDesign d → Shows a d → Shows b e → IsListOf name_cmp (MostFalls e d) ms → length ms ≤ 320
few_mosts a b d e ms wn is s t l =
    let h = ap length (mosts_are a b d e wn is s t ms l) in
    let m = length-map ms (λ n. Piece n) in
    let k = few_of a d is s (rose a b) in
    omega (arith, h, m, k)

pub few_unneeded : (v w : View) (x : Delta) → IsChangeOf v w x → length x.unneeded.items ≤ 320
few_unneeded v w x c = few_leasts v w c.before c.after x.unneeded.items c.shown.well c.first c.shown.shows c.updated.shows c.delta.unneeded

pub few_widened : (v w : View) (x : Delta) → IsChangeOf v w x → length x.widened.items ≤ 320
few_widened v w x c = few_mosts v w c.before c.after x.widened.items c.shown.well c.first c.shown.shows c.updated.shows c.delta.widened

pub few_needed : (v w : View) (x : Delta) → IsChangeOf v w x → length x.needed.items ≤ 320
few_needed v w x c = few_leasts w v c.after c.before x.needed.items c.updated.well c.second c.updated.shows c.shown.shows c.delta.needed

pub few_narrowed : (v w : View) (x : Delta) → IsChangeOf v w x → length x.narrowed.items ≤ 320
few_narrowed v w x c = few_mosts w v c.after c.before x.narrowed.items c.updated.well c.second c.updated.shows c.shown.shows c.delta.narrowed
