-- Whether a list is hopeless doesn't change if it also asks for a placement that may join the base (`IsOpenFor`), or if one
-- more atom lacks a placement that is neither asked for nor pinned.
use Rattle.std.proofs.Common.{Bool, List, None, Option, Some, [], ap, arith, eqb, false, inl, inr, nat_lt, not, refl, slice_get, subst, sym, true, ℕ, ◌&&◌, ◌++◌, ◌+◌, ◌<◌, ◌||◌, ◌∙◌, ◌∷◌, ◌≡◌, ◌≤◌, ◌⊎◌}
use Rattle.std.proofs.lemmas.Bool.{and_from, and_parts, both_ways, cases_Bool, eq-eqb, eqb-true, false_from_ne_true, le-leb, lt-ltb, ltb-false, ltb-true, not-true, not_from_false, or_cases, or_left, or_right, true≢false}
use Rattle.std.specs.List.{list_any}
use Rattle.std.specs.Prelude.{nat_le}
use Rattle.poly_design.specs.declared.placement.Placement.{Placement}
use Rattle.poly_tiling.specs.Lists.{mem, one, put_all}
use Rattle.poly_tiling.specs.Puzzle.{View, conflicts, count, has_item, is_piece, items, most, same_item, share_cell}
use Rattle.poly_tiling.specs.declared.item.Item.{Item}
use Rattle.poly_tiling.proofs.Counts.{ascending_distinct, tally_within}
use Rattle.poly_tiling.proofs.Grown.{grown_self}
use Rattle.poly_tiling.proofs.Lists.{In, any_from, any_in, in_append_cases, in_append_left, in_mem, mem_in, same_truth}
use Rattle.poly_tiling.proofs.Shown.{cell_shared, shared_cell}
use Rattle.poly_tiling.proofs.Tilings.{same_item_is}
use Rattle.poly_atom.specs.declared.atom.Atom.{Atom}
use Rattle.poly_atom.specs.declared.atom.Atom.TheVariants.{AtLeast, AtMost, Has, Lacks}
use Rattle.poly_atom.specs.Hopeless.{asked, bad, base, hopeless, lacks}
use Rattle.poly_atom.specs.Newly.{IsOpenFor, LeavingKeepsHope, TakingKeepsHope}
use Rattle.poly_atom.proofs.Bases.{base_in, base_up, in_base_has, in_base_pin}
use Rattle.poly_atom.proofs.Stays.{hopeless_more}

share_back : (o u : Option Placement) → share_cell o u ≡ true → share_cell u o ≡ true
share_back None u h = absurd (true≢false (sym h))
share_back (Some p) None h = absurd (true≢false (sym h))
share_back (Some p) (Some q) h = let r = cell_shared p q h in shared_cell q p r.0 r.2 r.1

-- conflict goes both ways
pub conflict_back : (v : View) (p q : ℕ) → conflicts v p q ≡ true → conflicts v q p ≡ true
conflict_back v p q h =
    let hs = and_parts (not (eqb p q)) (share_cell (slice_get v.placements p) (slice_get v.placements q)) h in
    and_from _ _ (not_from_false _ (false_from_ne_true (eqb q p) (λ e. both_ways (eqb p q) (not-true _ hs.0) (eq-eqb p q (sym (eqb-true q p e))))))
    (share_back (slice_get v.placements p) (slice_get v.placements q) hs.1)

last_one : (A : List Atom) (b a : Atom) → In a (A ++ b ∷ []) → In a A ⊎ (b ≡ a)
last_one A b a i = elim (in_append_cases a A (b ∷ []) i) [ inl j ↦ inl j | inr (inl e) ↦ inr e | inr (inr k) ↦ absurd k ]

-- if a list with one more atom has an atom that lacks a placement, an atom of the list or the added one lacks it
lacked_by : (A : List Atom) (b : Atom) (q : ℕ) → list_any (λ a. lacks a q) (A ++ b ∷ []) ≡ true → (list_any (λ a. lacks a q) A ≡ true) ⊎ (lacks b q ≡ true)
lacked_by A b q h =
    let a = any_in (λ a. lacks a q) (A ++ b ∷ []) h in
    elim (last_one A b a.0 a.1) [ inl i ↦ inl (any_from (λ a. lacks a q) A a.0 i a.2) | inr e ↦ inr (ap (λ z. lacks z q) e ∙ a.2) ]

same_has : (p q : ℕ) → Has p ≡ Has q → p ≡ q
same_has p q e = cc

module _ (v : View) (A : List Atom) (p : ℕ) (o : IsOpenFor v A p) where
  joined : (q : ℕ) → In q (base v (A ++ Has p ∷ [])) → In q (p ∷ base v A)
  joined q i = elim (base_in v (A ++ Has p ∷ []) q i) [
    | inl j ↦ elim (last_one A (Has p) (Has q) j) [ inl k ↦ inr (in_base_has v A q k) | inr e ↦ inl (same_has p q e) ]
    | inr j ↦ inr (in_base_pin v A q j)
  ]

  one_more : (i : Item) → count v (base v (A ++ Has p ∷ [])) i ≤ one (has_item v p i) + count v (base v A) i
  one_more i = tally_within (λ q. has_item v q i) (λ q. has_item v q i) (base v (A ++ Has p ∷ [])) (p ∷ base v A)
      (ascending_distinct (base v (A ++ Has p ∷ [])) (base_up v (A ++ Has p ∷ []))) (λ q j h. (joined q j, h))

  -- the base has room for one more placement of the open placement's piece
  has_room : (i : Item) → In i (items v p) → is_piece i ≡ true → count v (base v A) i < most v i
  has_room i j is = elim (cases_Bool (nat_le (most v i) (count v (base v A) i))) [
    | inl e ↦ absurd (both_ways _ o.room (any_from (λ i. is_piece i && nat_le (most v i) (count v (base v A) i)) (items v p) i j (and_from _ _ is e)))
    | inr e ↦ omega (arith, not_le (most v i) (count v (base v A) i) e)
  ]
    where
      not_le : (a b : ℕ) → nat_le a b ≡ false → b < a
      not_le a b e = elim (cases_Bool (nat_lt b a)) [ inl y ↦ ltb-true b a y | inr n ↦ absurd (both_ways (nat_le a b) e (le-leb a b (not_lt b a n))) ]
        where
          not_lt : (b a : ℕ) → nat_lt b a ≡ false → a ≤ b
          not_lt b a n = ltb-false b a n

  over_before : (q : ℕ) (i : Item) → is_piece i ≡ true → most v i < count v (base v (A ++ Has p ∷ [])) i → most v i < count v (base v A) i
  over_before q i is l = elim (cases_Bool (has_item v p i)) [
    | inl e ↦
        let r = any_in (λ j. same_item j i) (items v p) e in
        let room = has_room i (subst (λ j. In j (items v p)) (same_item_is r.0 i r.2) r.1) is in
        absurd (omega (arith, l, room, one_more i, ap one e))
    | inr e ↦ omega (arith, l, one_more i, ap one e)
  ]

  bad_before : (q : ℕ) → In (Has q) A → bad v (A ++ Has p ∷ []) (Has q) ≡ true → bad v A (Has q) ≡ true
  bad_before q k h = elim (or_cases (not (mem v.live q) || list_any (λ a. lacks a q) (A ++ Has p ∷ []) || list_any (λ r. conflicts v q r) (base v (A ++ Has p ∷ []))) _ h) [
    | inl h1 ↦ or_left _ _ (elim (or_cases (not (mem v.live q) || list_any (λ a. lacks a q) (A ++ Has p ∷ [])) (list_any (λ r. conflicts v q r) (base v (A ++ Has p ∷ []))) h1) [
      | inl h2 ↦ or_left _ _ (elim (or_cases (not (mem v.live q)) (list_any (λ a. lacks a q) (A ++ Has p ∷ [])) h2) [
        | inl n ↦ or_left _ _ n
        | inr l ↦ or_right (not (mem v.live q)) _ (elim (lacked_by A (Has p) q l) [ inl e ↦ e | inr e ↦ absurd (true≢false (sym e)) ])
      ])
      | inr z ↦
          let r = any_in (λ r. conflicts v q r) (base v (A ++ Has p ∷ [])) z in
          or_right (not (mem v.live q) || list_any (λ a. lacks a q) A) _ (elim (joined r.0 r.1) [
            | inl e ↦ absurd (both_ways _ o.apart (any_from (λ r. conflicts v p r) (base v A) q (in_base_has v A q k) (conflict_back v q p (subst (λ z. conflicts v q z ≡ true) (sym e) r.2))))
            | inr i ↦ any_from (λ r. conflicts v q r) (base v A) r.0 i r.2
          ])
    ])
    | inr u ↦
        let i = any_in (λ i. is_piece i && nat_lt (most v i) (count v (base v (A ++ Has p ∷ [])) i)) (items v q) u in
        let both = and_parts (is_piece i.0) (nat_lt (most v i.0) (count v (base v (A ++ Has p ∷ [])) i.0)) i.2 in
        or_right (not (mem v.live q) || list_any (λ a. lacks a q) A || list_any (λ r. conflicts v q r) (base v A)) _
        (any_from (λ i. is_piece i && nat_lt (most v i) (count v (base v A) i)) (items v q) i.0 i.1 (and_from _ _ both.0 (lt-ltb _ _ (over_before q i.0 both.0 (ltb-true _ _ both.1)))))
  ]

  not_itself : conflicts v p p ≡ true → ⊥
  not_itself h = both_ways (eqb p p) (not-true _ (and_parts (not (eqb p p)) (share_cell (slice_get v.placements p) (slice_get v.placements p)) h).0) (eq-eqb p p refl)

  own_fine : bad v (A ++ Has p ∷ []) (Has p) ≡ true → ⊥
  own_fine h = elim (or_cases (not (mem v.live p) || list_any (λ a. lacks a p) (A ++ Has p ∷ []) || list_any (λ r. conflicts v p r) (base v (A ++ Has p ∷ []))) _ h) [
    | inl h1 ↦ elim (or_cases (not (mem v.live p) || list_any (λ a. lacks a p) (A ++ Has p ∷ [])) (list_any (λ r. conflicts v p r) (base v (A ++ Has p ∷ []))) h1) [
      | inl h2 ↦ elim (or_cases (not (mem v.live p)) (list_any (λ a. lacks a p) (A ++ Has p ∷ [])) h2) [
        | inl n ↦ both_ways (mem v.live p) (not-true _ n) o.live
        | inr l ↦ elim (lacked_by A (Has p) p l) [ inl e ↦ both_ways _ o.spared e | inr e ↦ true≢false (sym e) ]
      ]
      | inr z ↦
          let r = any_in (λ r. conflicts v p r) (base v (A ++ Has p ∷ [])) z in
          elim (joined r.0 r.1) [
            | inl e ↦ not_itself (subst (λ z. conflicts v p z ≡ true) (sym e) r.2)
            | inr i ↦ both_ways _ o.apart (any_from (λ r. conflicts v p r) (base v A) r.0 i r.2)
          ]
    ]
    | inr u ↦
        let i = any_in (λ i. is_piece i && nat_lt (most v i) (count v (base v (A ++ Has p ∷ [])) i)) (items v p) u in
        let both = and_parts (is_piece i.0) (nat_lt (most v i.0) (count v (base v (A ++ Has p ∷ [])) i.0)) i.2 in
        let l = ltb-true _ _ both.1 in
        let room = has_room i.0 i.1 both.0 in
        let more = one_more i.0 in
        let few = one_at_most (has_item v p i.0) in
        absurd (omega (arith, l, room, more, few))
  ]
    where
      one_at_most : (b : Bool) → one b ≤ 1
      one_at_most true = omega arith
      one_at_most false = omega arith

  still_bad : (a : Atom) → In a A → bad v (A ++ Has p ∷ []) a ≡ true → bad v A a ≡ true
  still_bad (Has q) k h = bad_before q k h
  still_bad (Lacks q) k h = h
  still_bad (AtLeast i n) k h = h
  still_bad (AtMost i n) k h = h

pub taking_keeps_hope_lem : TakingKeepsHope
taking_keeps_hope_lem v A p o = same_truth (hopeless v (A ++ Has p ∷ [])) (hopeless v A)
    (λ h.
    let a = any_in (λ b. bad v (A ++ Has p ∷ []) b) (A ++ Has p ∷ []) h in
    elim (last_one A (Has p) a.0 a.1) [
      | inl k ↦ any_from (λ b. bad v A b) A a.0 k (still_bad v A p o a.0 k a.2)
      | inr e ↦ absurd (own_fine v A p o (subst (λ z. bad v (A ++ Has p ∷ []) z ≡ true) (sym e) a.2))
    ])
    (λ h. hopeless_more v v A (A ++ Has p ∷ []) (grown_self v) (λ a i. in_append_left a A (Has p ∷ []) i) h)

-- ---- one more atom that lacks a placement

asked_left : (A : List Atom) (p : ℕ) → asked (A ++ Lacks p ∷ []) ≡ asked A
asked_left [] p = refl
asked_left (Has q ∷ A) p = ap (λ xs. q ∷ xs) (asked_left A p)
asked_left (Lacks q ∷ A) p = asked_left A p
asked_left (AtLeast i n ∷ A) p = asked_left A p
asked_left (AtMost i n ∷ A) p = asked_left A p

module _ (v : View) (A : List Atom) (p : ℕ) (outside : mem (base v A) p ≡ false) where
  base_left : base v (A ++ Lacks p ∷ []) ≡ base v A
  base_left = ap (λ ns. put_all ns (put_all v.pins [])) (asked_left A p)

  left_bad : (a : Atom) → In a A → bad v (A ++ Lacks p ∷ []) a ≡ true → bad v A a ≡ true
  left_bad (Has q) k h =
      let h0 : (not (mem v.live q) || list_any (λ a. lacks a q) (A ++ Lacks p ∷ []) || list_any (λ r. conflicts v q r) (base v A) || list_any (λ i. is_piece i && nat_lt (most v i) (count v (base v A) i)) (items v q)) ≡ true =
      subst (λ B. (not (mem v.live q) || list_any (λ a. lacks a q) (A ++ Lacks p ∷ []) || list_any (λ r. conflicts v q r) B || list_any (λ i. is_piece i && nat_lt (most v i) (count v B i)) (items v q)) ≡ true) base_left h in
      elim (or_cases (not (mem v.live q) || list_any (λ a. lacks a q) (A ++ Lacks p ∷ []) || list_any (λ r. conflicts v q r) (base v A)) _ h0) [
        | inl h1 ↦ or_left (not (mem v.live q) || list_any (λ a. lacks a q) A || list_any (λ r. conflicts v q r) (base v A)) _ (elim (or_cases (not (mem v.live q) || list_any (λ a. lacks a q) (A ++ Lacks p ∷ [])) (list_any (λ r. conflicts v q r) (base v A)) h1) [
          | inl h2 ↦ or_left (not (mem v.live q) || list_any (λ a. lacks a q) A) (list_any (λ r. conflicts v q r) (base v A)) (elim (or_cases (not (mem v.live q)) (list_any (λ a. lacks a q) (A ++ Lacks p ∷ [])) h2) [
            | inl n ↦ or_left (not (mem v.live q)) (list_any (λ a. lacks a q) A) n
            | inr l ↦ or_right (not (mem v.live q)) (list_any (λ a. lacks a q) A) (elim (lacked_by A (Lacks p) q l) [
              | inl e ↦ e
              | inr e ↦ absurd (both_ways (mem (base v A) p) outside (in_mem (base v A) p (subst (λ z. In z (base v A)) (sym (eqb-true p q e)) (in_base_has v A q k))))
            ])
          ])
          | inr z ↦ or_right (not (mem v.live q) || list_any (λ a. lacks a q) A) _ z
        ])
        | inr u ↦ or_right (not (mem v.live q) || list_any (λ a. lacks a q) A || list_any (λ r. conflicts v q r) (base v A)) _ u
      ]
  left_bad (Lacks q) k h = h
  left_bad (AtLeast i n) k h = h
  left_bad (AtMost i n) k h = h

pub leaving_keeps_hope_lem : LeavingKeepsHope
leaving_keeps_hope_lem v A p outside = same_truth (hopeless v (A ++ Lacks p ∷ [])) (hopeless v A)
    (λ h.
    let a = any_in (λ b. bad v (A ++ Lacks p ∷ []) b) (A ++ Lacks p ∷ []) h in
    elim (last_one A (Lacks p) a.0 a.1) [
      | inl k ↦ any_from (λ b. bad v A b) A a.0 k (left_bad v A p outside a.0 k a.2)
      | inr e ↦ let m : mem v.pins p ≡ true = subst (λ z. bad v (A ++ Lacks p ∷ []) z ≡ true) (sym e) a.2 in
          absurd (both_ways (mem (base v A) p) outside (in_mem (base v A) p (in_base_pin v A p (mem_in v.pins p m))))
    ])
    (λ h. hopeless_more v v A (A ++ Lacks p ∷ []) (grown_self v) (λ a i. in_append_left a A (Lacks p ∷ []) i) h)
