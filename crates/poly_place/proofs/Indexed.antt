-- Scattering numbers makes an index: over empty rows, the index of a design; over the rows of an old index without the marked
-- numbers, the index after a change of one cell or one piece.
use Rattle.std.proofs.Common.{Bool, List, None, Option, Some, [], ap, false, inl, inr, length, map, not, refl, slice_get, subst, sym, true, ℕ, ◌&&◌, ◌||◌, ◌++◌, ◌∙◌, ◌∷◌, ◌≡◌, ◌≢◌}
use Rattle.std.specs.Prelude.{filter, nat_eq, nat_lt, slice_index_or}
use Rattle.std.specs.Cmp.Lexicographic.{pointwise}
use Rattle.std.specs.List.{list_all, list_any}
use Rattle.std.proofs.lemmas.Bool.{both_ways, cases_Bool, not-true, not_from_false}
use Rattle.std.proofs.lemmas.List.Kept.{AllPairs-filter}
use Rattle.poly_grid.specs.Spot.{Spot}
use Rattle.poly_shape.specs.Order.{spot_eq}
use Rattle.poly_design.specs.Changes.{changed}
use Rattle.poly_design.specs.Layout.{Layout}
use Rattle.poly_design.specs.Placements.{IsPlacement}
use Rattle.poly_design.specs.declared.change.Change.{Change}
use Rattle.poly_design.specs.declared.change.Change.TheVariants.{Cell as CellChange, Piece as PieceChange}
use Rattle.poly_design.specs.declared.placement.Placement.{Placement}
use Rattle.poly_tiling.specs.declared.item.Item.{Item}
use Rattle.poly_tiling.specs.declared.item.Item.TheVariants.{Cell, Piece}
use Rattle.poly_tiling.specs.Lists.{mem}
use Rattle.poly_tiling.specs.Names.{WellNamed}
use Rattle.poly_tiling.specs.Puzzle.{View, has_item, items, items_of, same_item}
use Rattle.poly_tiling.specs.Shows.{Shows}
use Rattle.poly_tiling.proofs.Contained.{contains_in, in_contains, one_place, pairs_none}
use Rattle.poly_tiling.proofs.Lists.{In, all_from, all_in, any_in, filter_in, in_append_cases, in_append_left, in_append_right, in_filter, in_mem}
use Rattle.poly_tiling.proofs.Orders.{live_once}
use Rattle.poly_tiling.proofs.Shown.{live_given}
use Rattle.poly_tiling.proofs.Tilings.{same_item_is}
use Rattle.poly_place.proofs.Marks.{or_false}
use Rattle.poly_place.specs.Index.{AreNumbersWith, IsIndex, Row, has_of, item_of, row_in, rows_without, with_numbers}
use Rattle.poly_place.specs.Touched.{AreMarked, touches, touches_named}
use Rattle.poly_place.proofs.Rows.{items_stay, items_without, live_with, no_row_in, row_grown, row_kept, same_rows, with_from, with_live}
use Rattle.poly_place.proofs.Updated.{apart_both, apart_list}
use Rattle.poly_place.proofs.Untouched.{untouched_stays, untouched_was}

-- the items of the design's placements are items of the design
listed_item : (v : View) → WellNamed v → (n : ℕ) (i : Item) → In n v.live → has_item v n i ≡ true → list_any (λ b. same_item b.item i) v.bounds ≡ true
listed_item v w n i l h =
    let r = any_in (λ j. same_item j i) (items v n) h in
    let all = all_in (λ p. list_all (λ j. list_any (λ b. same_item b.item j) v.bounds) (items v p)) v.live w.listed n l in
    subst (λ z. list_any (λ b. same_item b.item z) v.bounds ≡ true) (same_item_is r.0 i r.2) (all_in (λ j. list_any (λ b. same_item b.item j) v.bounds) (items v n) all r.0 r.1)

none_with : (v : View) → WellNamed v → (i : Item) → list_any (λ b. same_item b.item i) v.bounds ≡ false → AreNumbersWith v i []
none_with v w i f = with_from v i [] (λ n j. absurd j) (λ n j h. absurd (both_ways (list_any (λ b. same_item b.item i) v.bounds) f (listed_item v w n i j h))) (pairs_none (λ x y. x ≢ y))

-- rows that are right for the items of the design are an index
index_from : (v : View) (rows : List Row) → WellNamed v → map (λ r. r.0) rows ≡ map (λ b. b.item) v.bounds →
    ((i : Item) → list_any (λ b. same_item b.item i) v.bounds ≡ true → AreNumbersWith v i (row_in rows i)) → IsIndex v rows
index_from v rows w e h = record {
  items = e;
  numbers = λ i. elim (cases_Bool (list_any (λ b. same_item b.item i) v.bounds)) [
    | inl t ↦ h i t
    | inr f ↦ subst (λ ns. AreNumbersWith v i ns) (sym (no_row_in rows i (same_rows rows v.bounds i e ∙ f))) (none_with v w i f)
  ];
}

all_with : (v : View) → WellNamed v → (i : Item) → AreNumbersWith v i (filter (λ n. has_item v n i) v.live)
all_with v w i =
    let has : ℕ → Bool = λ n. has_item v n i in
    with_from v i (filter has v.live) (λ n j. filter_in has v.live n j) (λ n j h. in_filter has v.live n j h) (AllPairs-filter (λ x y. x ≢ y) has v.live (apart_list v.live (live_once v w)))

-- the row of an item of the view has the unmarked numbers of the item's old row, and then the new numbers that have the item
grown_row : (v : View) (marked : ℕ → Bool) (old : List Row) (ns : List ℕ) (rows : List Row) (i : Item) → rows ≡ with_numbers (has_of v.placements) ns (rows_without marked old v.bounds) →
    list_any (λ b. same_item b.item i) v.bounds ≡ true → row_in rows i ≡ filter (λ n. not (marked n)) (row_in old i) ++ filter (λ n. has_item v n i) ns
grown_row v marked old ns rows i e t =
    let kept = rows_without marked old v.bounds in
    ap (λ rs. row_in rs i) e
    ∙ row_grown (has_of v.placements) ns kept i (same_rows kept v.bounds i (items_without marked old v.bounds) ∙ t)
    ∙ ap (λ l. l ++ filter (λ n. has_item v n i) ns) (row_kept marked old v.bounds i t)

grown_items : (v : View) (marked : ℕ → Bool) (old : List Row) (ns : List ℕ) (rows : List Row) → rows ≡ with_numbers (has_of v.placements) ns (rows_without marked old v.bounds) → map (λ r. r.0) rows ≡ map (λ b. b.item) v.bounds
grown_items v marked old ns rows e = ap (λ (rs : List Row). map (λ r. r.0) rs) e ∙ items_stay (has_of v.placements) ns (rows_without marked old v.bounds) ∙ items_without marked old v.bounds

pub whole_index : (v : View) (marked : ℕ → Bool) (rows : List Row) → WellNamed v → rows ≡ with_numbers (has_of v.placements) v.live (rows_without marked [] v.bounds) → IsIndex v rows
whole_index v marked rows w e = index_from v rows w (grown_items v marked [] v.live rows e) (λ i t.
    subst (λ ns. AreNumbersWith v i ns) (sym (grown_row v marked [] v.live rows i e t)) (all_with v w i))

-- the numbers of a row were given out
pub low_row : (v : View) (rows : List Row) → WellNamed v → IsIndex v rows → (i : Item) → list_all (λ n. nat_lt n (length v.placements)) (row_in rows i) ≡ true
low_row v rows w x i = all_from (λ n. nat_lt n (length v.placements)) (row_in rows i) (λ n j.
    all_in (λ n. nat_lt n (length v.placements)) v.live w.named n (with_live v i (row_in rows i) (x.numbers i) n j).0)

-- ---- after a change

any_cell : (c : Spot) (cells : List Spot) → list_any (λ k. spot_eq k c) cells ≡ list_any (λ j. same_item j (Cell c)) (map (λ k. Cell k) cells)
any_cell c [] = refl
any_cell c (k ∷ cells) = ap (λ b. spot_eq k c || b) (any_cell c cells)

no_piece : (name : List ℕ) (cells : List Spot) → list_any (λ j. same_item j (Piece name)) (map (λ k. Cell k) cells) ≡ false
no_piece name [] = refl
no_piece name (k ∷ cells) = no_piece name cells

-- a change touches exactly the placements that have the cell or the piece that changes
pub touched_has : (x : Change) (o : Option Placement) → touches_named x o ≡ list_any (λ j. same_item j (item_of x)) (items_of o)
touched_has (CellChange c before after) None = refl
touched_has (PieceChange name before after) None = refl
touched_has (CellChange c before after) (Some p) = any_cell c p.cells
touched_has (PieceChange name before after) (Some p) = sym (or_false (pointwise nat_eq p.name name)) ∙ ap (λ b. pointwise nat_eq p.name name || b) (sym (no_piece name p.cells))

-- the marks of the changed item's numbers tell what the change touches
pub row_marked : (v : View) (rows : List Row) (x : Change) (marks : List Bool) → IsIndex v rows → ((n : ℕ) → slice_index_or marks n false ≡ mem (row_in rows (item_of x)) n) → AreMarked v x marks
row_marked v rows x marks index is n live = is n ∙ (index.numbers (item_of x)).exact n ∙ ap (λ b. b && has_item v n (item_of x)) live ∙ sym (touched_has x (slice_get v.placements n))

-- a live number is still live if the later design still has the placement that the number names
crosses : (v u : View) (d e : Layout) → v.placements ≡ u.placements → WellNamed v → Shows v d → Shows u e → (n : ℕ) → In n v.live →
    ((p : Placement) → slice_get v.placements n ≡ Some p → IsPlacement d p → IsPlacement e p) → In n u.live
crosses v u d e same w s t n i stays =
    let g = live_given v w n i in
    let there = (t.places g.0).1 (stays g.0 g.1 ((s.places g.0).0 (record { number = n; stands = in_contains v.live n i; names = g.1 }))) in
    let one : there.number ≡ n = one_place v.placements w.apart there.number n g.0 (ap (λ (l : List Placement). slice_get l there.number) same ∙ there.names) g.1 in
    subst (λ m. In m u.live) one (contains_in u.live there.number there.stands)

module _ (v u : View) (d : Layout) (x : Change) (old : List Row) (marks : List Bool) (found : List ℕ) (same : v.placements ≡ u.placements) (w : WellNamed v) (s : Shows v d) (index : IsIndex v old)
    (wu : WellNamed u) (su : Shows u (changed d x)) (are : AreMarked v x marks) (come : AreNumbersWith u (item_of x) found) where
  abbrev touch : ℕ → Bool
  touch n = touches_named x (slice_get u.placements n)

  abbrev marked : ℕ → Bool
  marked n = slice_index_or marks n false

  marked_is : (n : ℕ) → In n v.live → marked n ≡ touch n
  marked_is n i = are n (in_mem v.live n i) ∙ ap (λ (l : List Placement). touches_named x (slice_get l n)) same

  has_same : (n : ℕ) (i : Item) → has_item v n i ≡ has_item u n i
  has_same n i = ap (λ (l : List Placement). list_any (λ j. same_item j i) (items_of (slice_get l n))) same

  alone_at : (n : ℕ) → touch n ≡ false → (p : Placement) → slice_get u.placements n ≡ Some p → touches x p ≡ false
  alone_at n f p e = sym (ap (λ o. touches_named x o) e) ∙ f

  goes : (n : ℕ) → touch n ≡ false → In n v.live → In n u.live
  goes n f i = crosses v u d (changed d x) same w s su n i (λ p e h. untouched_stays d x p (alone_at n f p (ap (λ (l : List Placement). slice_get l n) (sym same) ∙ e)) h)

  comes : (n : ℕ) → touch n ≡ false → In n u.live → In n v.live
  comes n f i = crosses u v (changed d x) d (sym same) wu su s n i (λ p e h. untouched_was d x p (alone_at n f p e) h)

  abbrev kept : Item → List ℕ
  kept i = filter (λ n. not (marked n)) (row_in old i)

  abbrev fresh : Item → List ℕ
  fresh i = filter (λ n. has_item u n i) found

  still : (i : Item) (n : ℕ) → In n (kept i) → In n u.live × (has_item u n i ≡ true) × (touch n ≡ false)
  still i n h =
      let r = filter_in (λ n. not (marked n)) (row_in old i) n h in
      let was = with_live v i (row_in old i) (index.numbers i) n r.0 in
      let f = sym (marked_is n was.0) ∙ not-true (marked n) r.1 in
      (goes n f was.0, sym (has_same n i) ∙ was.1, f)

  comes_in : (i : Item) (n : ℕ) → In n (fresh i) → In n u.live × (has_item u n i ≡ true) × (touch n ≡ true)
  comes_in i n h =
      let r = filter_in (λ n. has_item u n i) found n h in
      let t = with_live u (item_of x) found come n r.0 in
      (t.0, r.1, touched_has x (slice_get u.placements n) ∙ t.1)

  holds : (i : Item) (n : ℕ) → In n u.live → has_item u n i ≡ true → In n (kept i ++ fresh i)
  holds i n l h = elim (cases_Bool (touch n)) [
    | inl t ↦
        let there = live_with u (item_of x) found come n l (sym (touched_has x (slice_get u.placements n)) ∙ t) in
        in_append_right n (kept i) (fresh i) (in_filter (λ n. has_item u n i) found n there h)
    | inr f ↦
        let was = comes n f l in
        let there = live_with v i (row_in old i) (index.numbers i) n was (has_same n i ∙ h) in
        in_append_left n (kept i) (fresh i) (in_filter (λ n. not (marked n)) (row_in old i) n there (not_from_false (marked n) (marked_is n was ∙ f)))
  ]

  updated_row : (i : Item) → AreNumbersWith u i (kept i ++ fresh i)
  updated_row i = with_from u i (kept i ++ fresh i)
      (λ n j. elim (in_append_cases n (kept i) (fresh i) j) [
        | inl k ↦ let r = still i n k in (r.0, r.1)
        | inr k ↦ let r = comes_in i n k in (r.0, r.1)
      ])
      (holds i)
      (apart_both (kept i) (fresh i)
      (AllPairs-filter (λ x y. x ≢ y) (λ n. not (marked n)) (row_in old i) (index.numbers i).apart)
      (AllPairs-filter (λ x y. x ≢ y) (λ n. has_item u n i) found come.apart)
      (λ n a b. both_ways (touch n) (still i n a).2 (comes_in i n b).2))

  pub updated_index : (rows : List Row) → rows ≡ with_numbers (has_of u.placements) found (rows_without marked old u.bounds) → IsIndex u rows
  updated_index rows e = index_from u rows wu (grown_items u marked old found rows e) (λ i t.
      subst (λ ns. AreNumbersWith u i ns) (sym (grown_row u marked old found rows i e t)) (updated_row i))
