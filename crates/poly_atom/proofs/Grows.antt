-- Giving numbers to more placements changes nothing that atoms say.
use Rattle.std.proofs.Common.{Bool, List, [], ap, eqb, false, inl, inr, length, map, not, refl, slice_get, sym, true, ℕ, ◌&&◌, ◌++◌, ◌<◌, ◌||◌, ◌∙◌, ◌∷◌, ◌≡◌}
use Rattle.std.proofs.lemmas.Bool.{cases_Bool, ltb-true, not_from_false, or_left, true≢false}
use Rattle.std.specs.List.{filter, list_all, list_any}
use Rattle.std.specs.Prelude.{nat_lt}
use Rattle.poly_tiling.specs.Lists.{mem, put_all}
use Rattle.poly_tiling.specs.declared.item.Item.{Item}
use Rattle.poly_tiling.specs.Puzzle.{View, bound_in, conflicts, count, has_item, is_piece, is_tiling, items, items_of, least, most, same_item, share_cell}
use Rattle.poly_tiling.specs.Names.{Grown, Names, WellNamed}
use Rattle.poly_tiling.proofs.Lists.{In, all_in, any_from, mem_in}
use Rattle.poly_tiling.proofs.Grown.{grown_bound, numbers_may_grow_lem}
use Rattle.poly_tiling.proofs.Named.{tally_same_in}
use Rattle.poly_atom.specs.declared.atom.Atom.{Atom}
use Rattle.poly_atom.specs.declared.atom.Atom.TheVariants.{AtLeast, AtMost, Has, Lacks}
use Rattle.poly_atom.specs.Atoms.{meets_all}
use Rattle.poly_atom.specs.Guards.{guards_fresh, guards_least, guards_most, guards_pins}
use Rattle.poly_atom.specs.Hopeless.{asked, bad, base, hopeless, lacks}
use Rattle.poly_atom.specs.Laws.{FamiliesMayGrow, GuardsMayGrow, HopelessMayGrow}
use Rattle.poly_atom.proofs.Bases.{asked_in, base_in, in_asked}
use Rattle.poly_atom.proofs.Merge.{slot_same}
use Rattle.poly_atom.proofs.Stays.{answers_may_grow_lem, hopeless_more}

both_same : (a b x y : Bool) → a ≡ b → (b ≡ true → x ≡ y) → (a && x) ≡ (b && y)
both_same true true x y e h = h refl
both_same true false x y e h = absurd (true≢false e)
both_same false true x y e h = absurd (true≢false (sym e))
both_same false false x y e h = refl

pub families_may_grow_lem : FamiliesMayGrow
families_may_grow_lem v w A T wn g =
    both_same (is_tiling w T) (is_tiling v T) (meets_all w T A) (meets_all v T A) (numbers_may_grow_lem v w T wn g) (λ t. answers_may_grow_lem v w T A wn g t)

any_same_in : {X : Type 0} (f g : X → Bool) (xs : List X) → ((x : X) → In x xs → f x ≡ g x) → list_any f xs ≡ list_any g xs
any_same_in f g [] h = refl
any_same_in f g (x ∷ xs) h = ap (λ b. b || list_any f xs) (h x (inl refl)) ∙ ap (λ b. g x || b) (any_same_in f g xs (λ y i. h y (inr i)))

-- the number of each placement of the design is below the length of the view's `placements`
pub live_low : (v : View) → WellNamed v → (p : ℕ) → In p v.live → p < length v.placements
live_low v wn p i = ltb-true p (length v.placements) (all_in (λ q. nat_lt q (length v.placements)) v.live wn.named p i)

pub pin_low : (v : View) → WellNamed v → (p : ℕ) → In p v.pins → p < length v.placements
pin_low v wn p i = ltb-true p (length v.placements) (all_in (λ q. nat_lt q (length v.placements)) v.pins wn.pins_named p i)

pub conflict_named : (v w : View) → Names v w → (p q : ℕ) → p < length v.placements → q < length v.placements → conflicts w p q ≡ conflicts v p q
conflict_named v w n p q hp hq =
    ap (λ o. not (eqb p q) && share_cell o (slice_get w.placements q)) (slot_same v w n p hp) ∙ ap (λ o. not (eqb p q) && share_cell (slice_get v.placements p) o) (slot_same v w n q hq)

count_named : (v w : View) → Names v w → (T : List ℕ) → ((p : ℕ) → In p T → p < length v.placements) → (i : Item) → count w T i ≡ count v T i
count_named v w n T low i = tally_same_in (λ p. has_item w p i) (λ p. has_item v p i) T (λ p k. ap (λ o. list_any (λ j. same_item j i) (items_of o)) (slot_same v w n p (low p k)))

base_low : (v : View) (A : List Atom) → WellNamed v → ((p : ℕ) → In p (asked A) → In p v.live) → (p : ℕ) → In p (base v A) → p < length v.placements
base_low v A wn known p i = elim (base_in v A p i) [ inl j ↦ live_low v wn p (known p (in_asked A p j)) | inr j ↦ pin_low v wn p j ]

bad_same : (v w : View) (A : List Atom) → WellNamed v → Grown v w → ((p : ℕ) → In p (asked A) → In p v.live) → (a : Atom) → In a A → bad w A a ≡ bad v A a
bad_same v w A wn g known (Has p) k =
    let low = base_low v A wn known in
    let here = live_low v wn p (known p (in_asked A p k)) in
    let bases : base w A ≡ base v A = ap (λ ps. put_all (asked A) (put_all ps [])) g.3 in
    let gone = ap (λ xs. not (mem xs p)) g.1 in
    let meeting = ap (λ xs. list_any (λ q. conflicts w p q) xs) bases ∙ any_same_in (λ q. conflicts w p q) (λ q. conflicts v p q) (base v A) (λ q i. conflict_named v w g.0 p q here (low q i)) in
    let over = ap (λ o. list_any (λ i. is_piece i && nat_lt (most w i) (count w (base w A) i)) (items_of o)) (slot_same v w g.0 p here)
    ∙ any_same_in (λ i. is_piece i && nat_lt (most w i) (count w (base w A) i)) (λ i. is_piece i && nat_lt (most v i) (count v (base v A) i)) (items v p)
    (λ i j. ap (λ m. is_piece i && nat_lt m (count w (base w A) i)) (grown_bound v w g i (λ b. b.most))
    ∙ ap (λ n. is_piece i && nat_lt (most v i) n) (ap (λ T. count w T i) bases ∙ count_named v w g.0 (base v A) low i)) in
    ap (λ b. b || list_any (λ a. lacks a p) A || list_any (λ q. conflicts w p q) (base w A) || list_any (λ i. is_piece i && nat_lt (most w i) (count w (base w A) i)) (items w p)) gone
    ∙ ap (λ b. not (mem v.live p) || list_any (λ a. lacks a p) A || b || list_any (λ i. is_piece i && nat_lt (most w i) (count w (base w A) i)) (items w p)) meeting
    ∙ ap (λ b. not (mem v.live p) || list_any (λ a. lacks a p) A || list_any (λ q. conflicts v p q) (base v A) || b) over
bad_same v w A wn g known (Lacks p) k = ap (λ xs. mem xs p) g.3
bad_same v w A wn g known (AtLeast i n) k =
    ap (λ bs. list_any (λ b. same_item b.item i) bs && nat_lt (most w i) n) g.2 ∙ ap (λ m. list_any (λ b. same_item b.item i) v.bounds && nat_lt m n) (grown_bound v w g i (λ b. b.most))
bad_same v w A wn g known (AtMost i n) k = ap (λ m. nat_lt n m) (grown_bound v w g i (λ b. b.least))

lost_somewhere : (v : View) (ps : List ℕ) → list_all (λ p. mem v.live p) ps ≡ false → (p : ℕ) × In p ps × (mem v.live p ≡ false)
lost_somewhere v [] h = absurd (true≢false h)
lost_somewhere v (p ∷ ps) h = elim (cases_Bool (mem v.live p)) [
  | inl y ↦ let r = lost_somewhere v ps (ap (λ b. b && list_all (λ q. mem v.live q) ps) (sym y) ∙ h) in (r.0, inr r.1, r.2)
  | inr n ↦ (p, inl refl, n)
]

pub hopeless_may_grow_lem : HopelessMayGrow
hopeless_may_grow_lem v w A wn g = elim (cases_Bool (list_all (λ p. mem v.live p) (asked A))) [
  | inl y ↦ any_same_in (λ a. bad w A a) (λ a. bad v A a) A (λ a k. bad_same v w A wn g (λ p i. mem_in v.live p (all_in (λ q. mem v.live q) (asked A) y p i)) a k)
  | inr n ↦
      let x = lost_somewhere v (asked A) n in
      let first : hopeless v A ≡ true = any_from (λ a. bad v A a) A (Has x.0) (asked_in A x.0 x.1) (or_left _ _ (or_left _ _ (or_left _ _ (not_from_false _ x.2)))) in
      hopeless_more v w A A g (λ a i. i) first ∙ sym first
]

pub guards_may_grow_lem : GuardsMayGrow
guards_may_grow_lem v w x y g h =
    let fresh : guards_fresh w y ≡ guards_fresh v x =
    ap (λ l. map (λ p. Lacks p) (filter (λ p. not (mem l p)) y.live)) g.1 ∙ ap (λ l. map (λ p. Lacks p) (filter (λ p. not (mem v.live p)) l)) h.1 in
    let low : guards_least w y ≡ guards_least v x =
    ap (λ bs. map (λ b. AtLeast b.item (bound_in bs b.item (λ c. c.least))) (filter (λ b. nat_lt (least y b.item) (bound_in bs b.item (λ c. c.least))) bs)) g.2
    ∙ ap (λ bs. map (λ b. AtLeast b.item (least v b.item)) (filter (λ b. nat_lt (bound_in bs b.item (λ c. c.least)) (least v b.item)) v.bounds)) h.2 in
    let high : guards_most w y ≡ guards_most v x =
    ap (λ bs. map (λ b. AtMost b.item (bound_in bs b.item (λ c. c.most))) (filter (λ b. nat_lt (bound_in bs b.item (λ c. c.most)) (most y b.item)) bs)) g.2
    ∙ ap (λ bs. map (λ b. AtMost b.item (most v b.item)) (filter (λ b. nat_lt (most v b.item) (bound_in bs b.item (λ c. c.most))) v.bounds)) h.2 in
    let pins : guards_pins w y ≡ guards_pins v x =
    ap (λ l. map (λ p. Has p) (filter (λ p. not (mem l p)) w.pins)) h.3 ∙ ap (λ l. map (λ p. Has p) (filter (λ p. not (mem x.pins p)) l)) g.3 in
    ap (λ a. a ++ (guards_least w y ++ (guards_most w y ++ guards_pins w y))) fresh
    ∙ ap (λ a. guards_fresh v x ++ (a ++ (guards_most w y ++ guards_pins w y))) low
    ∙ ap (λ a. guards_fresh v x ++ (guards_least v x ++ (a ++ guards_pins w y))) high
    ∙ ap (λ a. guards_fresh v x ++ (guards_least v x ++ (guards_most v x ++ a))) pins
