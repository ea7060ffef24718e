-- A list that a change makes hopeless has an atom about what the change touches.
use Rattle.std.proofs.Common.{List, None, Option, Some, ap, arith, eqb, false, inl, inr, length, nat_lt, not, slice_get, subst, sym, true, ℕ, ◌&&◌, ◌<◌, ◌||◌, ◌∙◌, ◌≡◌, ◌≤◌}
use Rattle.std.proofs.lemmas.Bool.{and_from, and_parts, both_ways, cases_Bool, cases_lt, false_from_ne_true, lt-ltb, ltb-false, ltb-true, not-true, not_from_false, or_cases, or_left, or_right, true≢false}
use Rattle.std.specs.List.{list_any}
use Rattle.poly_design.specs.Changes.{changed}
use Rattle.poly_design.specs.declared.change.Change.{Change}
use Rattle.poly_design.specs.declared.placement.Placement.{Placement}
use Rattle.poly_place.specs.Between.{IsChangeOf}
use Rattle.poly_place.specs.Delta.{LeastRises, MostFalls}
use Rattle.poly_place.specs.Index.{item_of}
use Rattle.poly_place.specs.declared.delta.Delta.{Delta}
use Rattle.poly_place.proofs.Arrives.{arrives}
use Rattle.poly_place.proofs.Between.{gone_is, pinned_is}
use Rattle.poly_tiling.specs.Lists.{mem}
use Rattle.poly_tiling.specs.Puzzle.{View, conflicts, count, has_item, is_piece, items, items_of, least, most, same_item, share_cell}
use Rattle.poly_tiling.specs.Shows.{item_bounds}
use Rattle.poly_tiling.specs.declared.item.Item.{Item}
use Rattle.poly_tiling.specs.declared.item.Item.TheVariants.{Cell, Piece}
use Rattle.poly_tiling.proofs.Contained.{contains_in}
use Rattle.poly_tiling.proofs.Counts.{ascending_distinct, tally_within}
use Rattle.poly_tiling.proofs.Lists.{In, any_from, any_in, in_filter, in_map, in_mem, mem_in}
use Rattle.poly_tiling.proofs.Named.{listed_item}
use Rattle.poly_tiling.proofs.Shown.{cell_shared, shown_least}
use Rattle.poly_tiling.proofs.Tilings.{same_item_is, same_item_self}
use Rattle.poly_atom.specs.declared.atom.Atom.{Atom}
use Rattle.poly_atom.specs.declared.atom.Atom.TheVariants.{AtLeast, AtMost, Has, Lacks}
use Rattle.poly_atom.specs.Hopeless.{bad, base, hopeless, lacks}
use Rattle.poly_atom.specs.Newly.{NewlyHopelessIsTouched, touched}
use Rattle.poly_atom.proofs.Bases.{base_in, base_up, in_base_has, in_base_pin}
use Rattle.poly_atom.proofs.Grows.{conflict_named, live_low, pin_low}
use Rattle.poly_atom.proofs.Laid.{risen_piece}
use Rattle.poly_atom.proofs.Merge.{slot_same}

-- placements that share a cell have an item in common
shared_item : (o u : Option Placement) → share_cell o u ≡ true → list_any (λ i. list_any (λ j. same_item j i) (items_of o)) (items_of u) ≡ true
shared_item None u h = absurd (true≢false (sym h))
shared_item (Some p) None h = absurd (true≢false (sym h))
shared_item (Some p) (Some q) h =
    let r = cell_shared p q h in
    any_from (λ i. list_any (λ j. same_item j i) (items_of (Some p))) (items_of (Some q)) (Cell r.0) (inr (in_map (λ c. Cell c) q.cells r.0 r.2))
    (any_from (λ j. same_item j (Cell r.0)) (items_of (Some p)) (Cell r.0) (inr (in_map (λ c. Cell c) p.cells r.0 r.1)) (same_item_self (Cell r.0)))

conflict_item : (v : View) (p q : ℕ) → conflicts v p q ≡ true → list_any (λ i. has_item v p i) (items v q) ≡ true
conflict_item v p q h = shared_item (slice_get v.placements p) (slice_get v.placements q) (and_parts (not (eqb p q)) (share_cell (slice_get v.placements p) (slice_get v.placements q)) h).1

item_there : (v : View) (p : ℕ) (i : Item) → In i (items v p) → has_item v p i ≡ true
item_there v p i k = any_from (λ j. same_item j i) (items v p) i k (same_item_self i)

there_item : (v : View) (p : ℕ) (i : Item) → has_item v p i ≡ true → In i (items v p)
there_item v p i h = let r = any_in (λ j. same_item j i) (items v p) h in subst (λ j. In j (items v p)) (same_item_is r.0 i r.2) r.1

module _ (v w : View) (x : Delta) (y : Change) (A : List Atom) (c : IsChangeOf v w x) (calm : hopeless v A ≡ false) where
  not_bad : (a : Atom) → In a A → bad v A a ≡ true → ⊥
  not_bad a i h = both_ways (hopeless v A) calm (any_from (λ b. bad v A b) A a i h)

  asked_live : (q : ℕ) → In (Has q) A → In q v.live
  asked_live q i = elim (cases_Bool (mem v.live q)) [
    | inl e ↦ mem_in v.live q e
    | inr e ↦ absurd (not_bad (Has q) i (or_left _ _ (or_left _ _ (or_left _ _ (not_from_false _ e)))))
  ]

  low : (q : ℕ) → In (Has q) A → q < length v.placements
  low q i = live_low v c.shown.well q (asked_live q i)

  pin_new : (q : ℕ) → In q w.pins → mem v.pins q ≡ false → In q x.pinned.items
  pin_new q i e = subst (λ ns. In q ns) (sym (pinned_is v w x c)) (in_filter (λ n. not (mem v.pins n)) w.pins q i (not_from_false _ e))

  is_gone : (p : ℕ) → In p v.live → mem w.live p ≡ false → mem x.gone.items p ≡ true
  is_gone p i e = in_mem x.gone.items p (subst (λ ns. In p ns) (sym (gone_is v w x c)) (in_filter (λ n. not (mem w.live n)) v.live p i (not_from_false _ e)))

  same_has : (q : ℕ) → q < length v.placements → (i : Item) → has_item w q i ≡ has_item v q i
  same_has q l i = ap (λ o. list_any (λ j. same_item j i) (items_of o)) (slot_same v w c.names q l)

  -- if p has an item of a new pin, the change touches Has p
  by_pin : (p q : ℕ) → In q w.pins → mem v.pins q ≡ false → list_any (λ i. has_item w p i) (items w q) ≡ true → touched w x (item_of y) (Has p) ≡ true
  by_pin p q i e h = or_right (mem x.gone.items p || list_any (λ n. has_item w p (Piece n)) x.narrowed.items) _
      (any_from (λ q. list_any (λ i. has_item w p i) (items w q)) x.pinned.items q (pin_new q i e) h)

  by_conflict : (p q : ℕ) → In (Has p) A → In q (base w A) → conflicts w p q ≡ true → touched w x (item_of y) (Has p) ≡ true
  by_conflict p q k i h = elim (base_in w A q i) [
    | inl j ↦ absurd (meeting j)
    | inr j ↦ elim (cases_Bool (mem v.pins q)) [
      | inl e ↦ absurd (pinned (mem_in v.pins q e))
      | inr e ↦ by_pin p q j e (conflict_item w p q h)
    ]
  ]
    where
      bad_there : In q (base v A) → q < length v.placements → ⊥
      bad_there b l = not_bad (Has p) k (or_left _ _ (or_right _ _ (any_from (λ q. conflicts v p q) (base v A) q b (sym (conflict_named v w c.names p q (low p k) l) ∙ h))))

      meeting : In (Has q) A → ⊥
      meeting j = bad_there (in_base_has v A q j) (low q j)

      pinned : In q v.pins → ⊥
      pinned j = bad_there (in_base_pin v A q j) (pin_low v c.shown.well q j)

  -- if the list asks for a placement, then before the change the base covers its piece no more often than the piece's most
  few_before : (p : ℕ) (i : Item) → In (Has p) A → In i (items w p) → is_piece i ≡ true → count v (base v A) i ≤ most v i
  few_before p i k j is = elim (cases_lt (most v i) (count v (base v A) i)) [
    | inl l ↦ absurd (not_bad (Has p) k (or_right _ _ (any_from (λ i. is_piece i && nat_lt (most v i) (count v (base v A) i)) (items v p) i
        (subst (λ o. In i (items_of o)) (slot_same v w c.names p (low p k)) j) (and_from _ _ is (lt-ltb _ _ l)))))
    | inr g ↦ omega (arith, g)
  ]

  no_more : (i : Item) → list_any (λ q. has_item w q i) x.pinned.items ≡ false → count w (base w A) i ≤ count v (base v A) i
  no_more i none = tally_within (λ q. has_item w q i) (λ q. has_item v q i) (base w A) (base v A) (ascending_distinct (base w A) (base_up w A)) (λ q j h. elim (base_in w A q j) [
    | inl k ↦ (in_base_has v A q k, sym (same_has q (low q k) i) ∙ h)
    | inr k ↦ elim (cases_Bool (mem v.pins q)) [
      | inl e ↦ let m = mem_in v.pins q e in (in_base_pin v A q m, sym (same_has q (pin_low v c.shown.well q m) i) ∙ h)
      | inr e ↦ absurd (both_ways (list_any (λ q. has_item w q i) x.pinned.items) none (any_from (λ q. has_item w q i) x.pinned.items q (pin_new q k e) h))
    ]
  ])

  narrowed_has : (n : List ℕ) → MostFalls c.before c.after n → In n x.narrowed.items
  narrowed_has n f = contains_in x.narrowed.items n ((c.delta.narrowed.exact n).1 f)

  by_count : (p : ℕ) (i : Item) → In (Has p) A → In p w.live → In i (items w p) → is_piece i ≡ true → most w i < count w (base w A) i → touched w x (item_of y) (Has p) ≡ true
  by_count p i k here j is l = elim (cases_lt (most w i) (most v i)) [
    | inl m ↦
        let b = any_in (λ b. same_item b.item i) w.bounds (listed_item w c.updated.well p here i (item_there w p i j)) in
        let r = risen_piece w v c.after c.before c.updated.well c.second c.updated.shows c.shown.shows i b.0 b.1 (same_item_is b.0.item i b.2) m in
        or_left _ _ (or_right (mem x.gone.items p) _ (any_from (λ n. has_item w p (Piece n)) x.narrowed.items r.0 (narrowed_has r.0 r.2) (subst (λ z. has_item w p z ≡ true) r.1 (item_there w p i j))))
    | inr g ↦ elim (cases_Bool (list_any (λ q. has_item w q i) x.pinned.items)) [
      | inl e ↦
          let q = any_in (λ q. has_item w q i) x.pinned.items e in
          or_right (mem x.gone.items p || list_any (λ n. has_item w p (Piece n)) x.narrowed.items) _
          (any_from (λ q. list_any (λ i. has_item w p i) (items w q)) x.pinned.items q.0 q.1 (any_from (λ i. has_item w p i) (items w q.0) i (there_item w q.0 i q.2) (item_there w p i j)))
      | inr e ↦ let few = few_before p i k j is in let same = no_more i e in absurd (omega (arith, l, g, few, same))
    ]
  ]

  bad_touched : c.after ≡ changed c.before y → (a : Atom) → In a A → bad w A a ≡ true → touched w x (item_of y) a ≡ true
  bad_touched is (Has p) k h = elim (cases_Bool (mem w.live p)) [
    | inr e ↦ or_left _ _ (or_left _ _ (is_gone p (asked_live p k) e))
    | inl e ↦ elim (or_cases (not (mem w.live p) || list_any (λ a. lacks a p) A || list_any (λ q. conflicts w p q) (base w A)) _ h) [
      | inl h1 ↦ elim (or_cases (not (mem w.live p) || list_any (λ a. lacks a p) A) (list_any (λ q. conflicts w p q) (base w A)) h1) [
        | inl h2 ↦ elim (or_cases (not (mem w.live p)) (list_any (λ a. lacks a p) A) h2) [
          | inl n ↦ absurd (both_ways (mem w.live p) (not-true _ n) e)
          | inr l ↦ absurd (not_bad (Has p) k (or_left _ _ (or_left _ _ (or_right _ _ l))))
        ]
        | inr z ↦ let q = any_in (λ q. conflicts w p q) (base w A) z in by_conflict p q.0 k q.1 q.2
      ]
      | inr u ↦
          let i = any_in (λ i. is_piece i && nat_lt (most w i) (count w (base w A) i)) (items w p) u in
          let both = and_parts (is_piece i.0) (nat_lt (most w i.0) (count w (base w A) i.0)) i.2 in
          by_count p i.0 k (mem_in w.live p e) i.1 both.0 (ltb-true _ _ both.1)
    ]
  ]
  bad_touched is (Lacks p) k h = in_mem x.pinned.items p (pin_new p (mem_in w.pins p h) (false_from_ne_true (mem v.pins p) (λ e. not_bad (Lacks p) k e)))
  bad_touched is (AtLeast i n) k h =
      let both = and_parts (list_any (λ b. same_item b.item i) w.bounds) (nat_lt (most w i) n) h in
      let b = any_in (λ b. same_item b.item i) w.bounds both.0 in
      let l = ltb-true (most w i) n both.1 in
      elim (cases_Bool (list_any (λ b. same_item b.item i) v.bounds)) [
        | inl e ↦
            let high : nat_lt (most v i) n ≡ false = false_from_ne_true _ (λ m. not_bad (AtLeast i n) k (and_from _ _ e m)) in
            let g = ltb-false (most v i) n high in
            let m : most w i < most v i = omega (arith, l, g) in
            let r = risen_piece w v c.after c.before c.updated.well c.second c.updated.shows c.shown.shows i b.0 b.1 (same_item_is b.0.item i b.2) m in
            or_left _ _ (any_from (λ m. same_item (Piece m) i) x.narrowed.items r.0 (narrowed_has r.0 r.2) (subst (λ z. same_item z i ≡ true) r.1 (same_item_self i)))
        | inr e ↦
            let here : list_any (λ b. same_item b.item i) (item_bounds (changed c.before y)) ≡ true = ap (λ d. list_any (λ b. same_item b.item i) (item_bounds d)) (sym is) ∙ ap (λ bs. list_any (λ b. same_item b.item i) bs) (sym c.updated.shows.bounds) ∙ both.0 in
            let none : list_any (λ b. same_item b.item i) (item_bounds c.before) ≡ false = ap (λ bs. list_any (λ b. same_item b.item i) bs) (sym c.shown.shows.bounds) ∙ e in
            or_right _ _ (subst (λ z. same_item z i ≡ true) (arrives c.before y i here none) (same_item_self i))
      ]
  bad_touched is (AtMost i n) k h =
      let l = ltb-true n (least w i) h in
      let low_before : nat_lt n (least v i) ≡ false = false_from_ne_true _ (λ m. not_bad (AtMost i n) k m) in
      let g = ltb-false n (least v i) low_before in
      let rises : LeastRises c.before c.after i = omega (arith, l, g, shown_least v c.before c.shown.shows i, shown_least w c.after c.updated.shows i) in
      any_from (λ j. same_item j i) x.needed.items i (contains_in x.needed.items i ((c.delta.needed.exact i).1 rises)) (same_item_self i)

pub newly_hopeless_is_touched_lem : NewlyHopelessIsTouched
newly_hopeless_is_touched_lem v w x y A c is calm h =
    let a = any_in (λ b. bad w A b) A h in
    any_from (touched w x (item_of y)) A a.0 a.1 (bad_touched v w x y A c calm is a.0 a.1 a.2)
