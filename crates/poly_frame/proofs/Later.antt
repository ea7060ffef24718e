-- How a later design and more atoms change what is open.
use Rattle.std.proofs.Common.{◌≡◌, ℕ, Bool, true, not, ◌&&◌, ◌||◌, eqb, List, [], ◌∷◌, ◌++◌, ◌⊎◌, inl, inr, refl, sym, ap, subst, ◌∙◌, ◌≤◌, leb, min, max, nat_lt, arith}
use Rattle.std.specs.List.{list_any, list_all}
use Rattle.std.proofs.lemmas.Bool.{eq-eqb, and_parts, and_from, or_cases, or_left, or_right, both_ways, not-true, not_from_false, false_from_ne_true, cases_Bool, cond_both, leb-true, le-leb, ltb-true, lt-ltb}
use Rattle.poly_tiling.specs.Lists.{mem, tally}
use Rattle.poly_tiling.specs.Lists.{distinct}
use Rattle.poly_tiling.specs.declared.item.Item.{Item}
use Rattle.poly_tiling.specs.Puzzle.{View, items, same_item, conflicts, has_item, least, most}
use Rattle.poly_atom.specs.declared.atom.Atom.{Atom}
use Rattle.poly_atom.specs.declared.atom.Atom.TheVariants.{Has, Lacks, AtLeast, AtMost}
use Rattle.poly_atom.specs.Hopeless.{base, lacks}
use Rattle.poly_frame.specs.Open.{most_at, least_at, least_with_base, others, ruled_out, dead, arms_fit}
use Rattle.poly_tiling.proofs.Lists.{In, all_in, all_from, any_in, any_from, mem_in, in_mem, in_append_left, in_append_right, in_append_cases}
use Rattle.poly_tiling.proofs.Counts.{tally_within, ascending_distinct}
use Rattle.poly_atom.proofs.Bases.{base_in, base_up, in_base_has, in_base_pin}
use Rattle.poly_tiling.proofs.Tilings.{same_item_is, same_item_self}

-- w is a later design than v, and the atoms B are those of A and the ones added since
pub record Later (v : View) (A : List Atom) (w : View) (B : List Atom) : Type 0 where
  pub atoms : (a : Atom) → In a A → In a B
  pub placed : (p : ℕ) → In p w.live → In p v.live ⊎ In (Lacks p) B
  pub enough : (i : Item) → (least v i ≤ least w i) ⊎ In (AtLeast i (least v i)) B
  pub few : (p : ℕ) (i : Item) → In p v.live → has_item v p i ≡ true → (most w i ≤ most v i) ⊎ In (AtMost i (most v i)) B
  pub pinned : (p : ℕ) → In p v.pins → In p w.pins ⊎ In (Has p) B
  pub carried : (p : ℕ) (i : Item) → has_item v p i ≡ true → has_item w p i ≡ true
  pub same_items : (p : ℕ) → In p v.live → items w p ≡ items v p
  pub conflicting : (p q : ℕ) → conflicts v p q ≡ true → conflicts w p q ≡ true
  pub once : distinct w.live ≡ true

-- `Later` still holds if the same atoms are added to both lists
pub later_push : (v w : View) (A B X : List Atom) → Later v A w B → Later v (A ++ X) w (B ++ X)
later_push v w A B X l = record {
  atoms = λ b i. elim (in_append_cases b A X i) [ inl j ↦ in_append_left b B X (l.atoms b j) | inr j ↦ in_append_right b B X j ];
  placed = λ p i. elim (l.placed p i) [ inl j ↦ inl j | inr j ↦ inr (in_append_left (Lacks p) B X j) ];
  enough = λ i. elim (l.enough i) [ inl j ↦ inl j | inr j ↦ inr (in_append_left _ B X j) ];
  few = λ p i k h. elim (l.few p i k h) [ inl j ↦ inl j | inr j ↦ inr (in_append_left _ B X j) ];
  pinned = λ p i. elim (l.pinned p i) [ inl j ↦ inl j | inr j ↦ inr (in_append_left (Has p) B X j) ];
  carried = l.carried;
  same_items = l.same_items;
  conflicting = l.conflicting;
  once = l.once;
}

pub most_le_most : (v : View) (i : Item) (A : List Atom) → most_at v A i ≤ most v i
most_le_most v i [] = omega arith
most_le_most v i (Has p ∷ A) = most_le_most v i A
most_le_most v i (Lacks p ∷ A) = most_le_most v i A
most_le_most v i (AtLeast j n ∷ A) = most_le_most v i A
most_le_most v i (AtMost j n ∷ A) = let r = most_le_most v i A in cond_both (same_item j i) (min n (most_at v A i)) (most_at v A i) (λ k. k ≤ most v i) (λ e. omega arith) (λ e. r)

pub most_le_atom : (v : View) (i : Item) (n : ℕ) (A : List Atom) → In (AtMost i n) A → most_at v A i ≤ n
most_le_atom v i n [] k = absurd k
most_le_atom v i n (Has p ∷ A) (inl e) = cc
most_le_atom v i n (Has p ∷ A) (inr k) = most_le_atom v i n A k
most_le_atom v i n (Lacks p ∷ A) (inl e) = cc
most_le_atom v i n (Lacks p ∷ A) (inr k) = most_le_atom v i n A k
most_le_atom v i n (AtLeast j m ∷ A) (inl e) = cc
most_le_atom v i n (AtLeast j m ∷ A) (inr k) = most_le_atom v i n A k
most_le_atom v i n (AtMost j m ∷ A) (inl e) =
    let a : j ≡ i = cc in let b : m ≡ n = cc in
    cond_both (same_item j i) (min m (most_at v A i)) (most_at v A i) (λ k. k ≤ n) (λ y. omega arith) (λ y. absurd (both_ways (same_item j i) y (ap (λ k. same_item k i) a ∙ same_item_self i)))
most_le_atom v i n (AtMost j m ∷ A) (inr k) = let r = most_le_atom v i n A k in cond_both (same_item j i) (min m (most_at v A i)) (most_at v A i) (λ k. k ≤ n) (λ e. omega arith) (λ e. r)

most_from : (v : View) (i : Item) (k : ℕ) → k ≤ most v i → (A : List Atom) → ((n : ℕ) → In (AtMost i n) A → k ≤ n) → k ≤ most_at v A i
most_from v i k h [] f = h
most_from v i k h (Has p ∷ A) f = most_from v i k h A (λ n x. f n (inr x))
most_from v i k h (Lacks p ∷ A) f = most_from v i k h A (λ n x. f n (inr x))
most_from v i k h (AtLeast j m ∷ A) f = most_from v i k h A (λ n x. f n (inr x))
most_from v i k h (AtMost j m ∷ A) f =
    let r = most_from v i k h A (λ n x. f n (inr x)) in
    cond_both (same_item j i) (min m (most_at v A i)) (most_at v A i) (λ u. k ≤ u) (λ e. let a = f m (inl (ap (λ x. AtMost x m) (same_item_is j i e))) in omega arith) (λ e. r)

least_le_least_at : (v : View) (i : Item) (A : List Atom) → least v i ≤ least_at v A i
least_le_least_at v i [] = omega arith
least_le_least_at v i (Has p ∷ A) = least_le_least_at v i A
least_le_least_at v i (Lacks p ∷ A) = least_le_least_at v i A
least_le_least_at v i (AtMost j n ∷ A) = least_le_least_at v i A
least_le_least_at v i (AtLeast j n ∷ A) = let r = least_le_least_at v i A in cond_both (same_item j i) (max n (least_at v A i)) (least_at v A i) (λ k. least v i ≤ k) (λ e. omega arith) (λ e. r)

atom_le_asks : (v : View) (i : Item) (n : ℕ) (A : List Atom) → In (AtLeast i n) A → n ≤ least_at v A i
atom_le_asks v i n [] k = absurd k
atom_le_asks v i n (Has p ∷ A) (inl e) = cc
atom_le_asks v i n (Has p ∷ A) (inr k) = atom_le_asks v i n A k
atom_le_asks v i n (Lacks p ∷ A) (inl e) = cc
atom_le_asks v i n (Lacks p ∷ A) (inr k) = atom_le_asks v i n A k
atom_le_asks v i n (AtMost j m ∷ A) (inl e) = cc
atom_le_asks v i n (AtMost j m ∷ A) (inr k) = atom_le_asks v i n A k
atom_le_asks v i n (AtLeast j m ∷ A) (inl e) =
    let a : j ≡ i = cc in let b : m ≡ n = cc in
    cond_both (same_item j i) (max m (least_at v A i)) (least_at v A i) (λ k. n ≤ k) (λ y. omega arith) (λ y. absurd (both_ways (same_item j i) y (ap (λ k. same_item k i) a ∙ same_item_self i)))
atom_le_asks v i n (AtLeast j m ∷ A) (inr k) = let r = atom_le_asks v i n A k in cond_both (same_item j i) (max m (least_at v A i)) (least_at v A i) (λ k. n ≤ k) (λ e. omega arith) (λ e. r)

least_from : (v : View) (i : Item) (k : ℕ) → least v i ≤ k → (A : List Atom) → ((n : ℕ) → In (AtLeast i n) A → n ≤ k) → least_at v A i ≤ k
least_from v i k h [] f = h
least_from v i k h (Has p ∷ A) f = least_from v i k h A (λ n x. f n (inr x))
least_from v i k h (Lacks p ∷ A) f = least_from v i k h A (λ n x. f n (inr x))
least_from v i k h (AtMost j m ∷ A) f = least_from v i k h A (λ n x. f n (inr x))
least_from v i k h (AtLeast j m ∷ A) f =
    let r = least_from v i k h A (λ n x. f n (inr x)) in
    cond_both (same_item j i) (max m (least_at v A i)) (least_at v A i) (λ u. u ≤ k) (λ e. let a = f m (inl (ap (λ x. AtLeast x m) (same_item_is j i e))) in omega arith) (λ e. r)

module _ (v w : View) (A B : List Atom) (l : Later v A w B) where
  pub later_base : (p : ℕ) → In p (base v A) → In p (base w B)
  later_base p i = elim (base_in v A p i) [
    | inl j ↦ in_base_has w B p (l.atoms (Has p) j)
    | inr j ↦ elim (l.pinned p j) [ inl k ↦ in_base_pin w B p k | inr k ↦ in_base_has w B p k ]
  ]

  later_tally : (f g : ℕ → Bool) → ((p : ℕ) → f p ≡ true → g p ≡ true) → tally f (base v A) ≤ tally g (base w B)
  later_tally f g h = tally_within f g (base v A) (base w B) (ascending_distinct (base v A) (base_up v A)) (λ p i e. (later_base p i, h p e))

  later_others : (p : ℕ) (i : Item) → others v (base v A) p i ≤ others w (base w B) p i
  later_others p i = later_tally (λ q. has_item v q i && not (eqb q p)) (λ q. has_item w q i && not (eqb q p))
      (λ q e. let es = and_parts (has_item v q i) (not (eqb q p)) e in and_from _ _ (l.carried q i es.0) es.1)

  later_upper : (p : ℕ) (i : Item) → In p v.live → has_item v p i ≡ true → most_at w B i ≤ most_at v A i
  later_upper p i k h = most_from v i (most_at w B i)
      (elim (l.few p i k h) [ inl e ↦ let a = most_le_most w i B in omega arith | inr e ↦ most_le_atom w i (most v i) B e ])
      A (λ n x. most_le_atom w i n B (l.atoms (AtMost i n) x))

  later_asks : (i : Item) → least_at v A i ≤ least_at w B i
  later_asks i = least_from v i (least_at w B i)
      (elim (l.enough i) [ inl e ↦ let a = least_le_least_at w i B in omega arith | inr e ↦ atom_le_asks w i (least v i) B e ])
      A (λ n x. atom_le_asks w i n B (l.atoms (AtLeast i n) x))

  later_lower : (i : Item) → least_with_base v A i ≤ least_with_base w B i
  later_lower i = let a = later_asks i in let b = later_tally (λ p. has_item v p i) (λ p. has_item w p i) (λ p e. l.carried p i e) in omega arith

  pub later_ruled : (p : ℕ) → In p v.live → ruled_out v A p ≡ true → ruled_out w B p ≡ true
  later_ruled p k h = elim (or_cases (list_any (λ a. lacks a p) A || list_any (λ q. conflicts v p q) (base v A)) (list_any (λ i. leb (most_at v A i) (others v (base v A) p i)) (items v p)) h) [
    | inl e ↦ or_left _ _ (elim (or_cases (list_any (λ a. lacks a p) A) (list_any (λ q. conflicts v p q) (base v A)) e) [
      | inl f ↦ let x = any_in (λ a. lacks a p) A f in or_left _ _ (any_from (λ a. lacks a p) B x.0 (l.atoms x.0 x.1) x.2)
      | inr c ↦ let x = any_in (λ q. conflicts v p q) (base v A) c in
          or_right (list_any (λ a. lacks a p) B) _ (any_from (λ q. conflicts w p q) (base w B) x.0 (later_base x.0 x.1) (l.conflicting p x.0 x.2))
    ])
    | inr u ↦
        let x = any_in (λ i. leb (most_at v A i) (others v (base v A) p i)) (items v p) u in
        let i = x.0 in
        let has = any_from (λ j. same_item j i) (items v p) i x.1 (same_item_self i) in
        let a = leb-true _ _ x.2 in
        let b = later_upper p i k has in
        let c = later_others p i in
        or_right (list_any (λ a. lacks a p) B || list_any (λ q. conflicts w p q) (base w B)) _
        (any_from (λ i. leb (most_at w B i) (others w (base w B) p i)) (items w p) i (subst (λ js. In i js) (sym (l.same_items p k)) x.1) (le-leb _ _ (omega arith)))
  ]

  pub lacks_rules : (p : ℕ) → In (Lacks p) B → ruled_out w B p ≡ true
  lacks_rules p i = or_left _ _ (or_left _ _ (any_from (λ a. lacks a p) B (Lacks p) i (eq-eqb p p refl)))

  pub later_dead : (p : ℕ) → dead v A p ≡ true → dead w B p ≡ true
  later_dead p h = elim (or_cases (not (mem v.live p)) (list_any (λ a. lacks a p) A) h) [
    | inl n ↦ elim (cases_Bool (mem w.live p)) [
      | inl y ↦ elim (l.placed p (mem_in w.live p y)) [
        | inl j ↦ absurd (both_ways (mem v.live p) (not-true _ n) (in_mem v.live p j))
        | inr j ↦ or_right (not (mem w.live p)) _ (any_from (λ a. lacks a p) B (Lacks p) j (eq-eqb p p refl))
      ]
      | inr m ↦ or_left _ _ (not_from_false _ m)
    ]
    | inr k ↦ let x = any_in (λ a. lacks a p) A k in or_right (not (mem w.live p)) _ (any_from (λ a. lacks a p) B x.0 (l.atoms x.0 x.1) x.2)
  ]

  pub later_arms : (i : Item) (ps : List ℕ) → arms_fit v A i ps ≡ true → arms_fit w B i ps ≡ true
  later_arms i ps f =
      let loose = λ (p : ℕ). has_item v p i && not (ruled_out v A p) && not (mem ps p) in
      let loose' = λ (p : ℕ). has_item w p i && not (ruled_out w B p) && not (mem ps p) in
      let f2 = and_parts (distinct ps && list_all (λ p. has_item v p i) ps) (nat_lt (tally loose v.live) (least_with_base v A i)) f in
      let f1 = and_parts (distinct ps) (list_all (λ p. has_item v p i) ps) f2.0 in
      let fewer = tally_within loose' loose w.live v.live l.once (λ p k e.
      let e2 = and_parts (has_item w p i && not (ruled_out w B p)) (not (mem ps p)) e in
      let e1 = and_parts (has_item w p i) (not (ruled_out w B p)) e2.0 in
      elim (l.placed p k) [
        | inl j ↦ (
          j,
          and_from _ _ (and_from _ _ (sym (ap (λ js. list_any (λ x. same_item x i) js) (l.same_items p j)) ∙ e1.0)
              (not_from_false _ (false_from_ne_true (ruled_out v A p) (λ r. both_ways (ruled_out w B p) (not-true _ e1.1) (later_ruled p j r))))) e2.1,
        )
        | inr j ↦ absurd (both_ways (ruled_out w B p) (not-true _ e1.1) (lacks_rules p j))
      ]) in
      let a = ltb-true _ _ f2.1 in
      let b = later_lower i in
      and_from _ _
      (and_from _ _ f1.0 (all_from (λ p. has_item w p i) ps (λ p j. l.carried p i (all_in (λ p. has_item v p i) ps f1.1 p j))))
      (lt-ltb _ _ (omega arith))
