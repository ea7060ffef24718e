-- What a tiling is by numbers, as one fact for each part of the definition.
use Rattle.std.proofs.Common.{List, [], ap, arith, eqb, false, inl, inr, leb, not, refl, subst, sym, true, ℕ, ◌&&◌, ◌∙◌, ◌∷◌, ◌≡◌, ◌≤◌}
use Rattle.std.proofs.lemmas.Bool.{and_from, and_parts, both_ways, cases_Bool, cond-false, eqb-true, false_from_ne_true, le-leb, leb-true, not-true, not_from_false, or_parts, true≢false}
use Rattle.std.specs.List.{list_all, list_any}
use Rattle.std.specs.Cmp.Lexicographic.{bytes_decides, nat_list_eq_equiv}
use Rattle.poly_grid.specs.Spot.{Spot}
use Rattle.poly_shape.specs.Order.{spot_eq, spot_equiv}
use Rattle.poly_tiling.specs.Lists.{ascending, mem}
use Rattle.poly_tiling.specs.declared.bound.Bound.{Bound}
use Rattle.poly_tiling.specs.declared.item.Item.{Item}
use Rattle.poly_tiling.specs.declared.item.Item.TheVariants.{Cell, Piece}
use Rattle.poly_tiling.specs.Puzzle.{View, bound_in, conflicts, count, has_item, is_tiling, items, least, most, same_item}
use Rattle.poly_tiling.proofs.Lists.{In, all_from, all_in, any_from, any_in, any_none, in_mem, mem_in, tally_none}

pub same_spot_is : (c d : Spot) → spot_eq c d ≡ true → c ≡ d
same_spot_is c d h =
    let parts = and_parts (eqb c.y d.y) (eqb c.x d.x) h in
    let row = eqb-true c.y d.y parts.0 in
    let column = eqb-true c.x d.x parts.1 in
    λ i. record { x = column i; y = row i }

pub same_item_is : (i j : Item) → same_item i j ≡ true → i ≡ j
same_item_is (Cell c) (Cell d) h = ap Cell (same_spot_is c d h)
same_item_is (Cell c) (Piece n) h = absurd (true≢false (sym h))
same_item_is (Piece m) (Cell d) h = absurd (true≢false (sym h))
same_item_is (Piece m) (Piece n) h = ap Piece ((bytes_decides m n).0 h)

pub same_item_self : (i : Item) → same_item i i ≡ true
same_item_self (Cell c) = spot_equiv.refl c
same_item_self (Piece n) = nat_list_eq_equiv.refl n

pub bound_none : (bs : List Bound) (i : Item) (f : Bound → ℕ) → list_any (λ b. same_item b.item i) bs ≡ false → bound_in bs i f ≡ 0
bound_none [] i f h = refl
bound_none (b ∷ bs) i f h = let hs = or_parts (same_item b.item i) (list_any (λ b. same_item b.item i) bs) h in cond-false (same_item b.item i) (f b) (bound_in bs i f) hs.0 ∙ bound_none bs i f hs.1

pub record IsTiling (v : View) (T : List ℕ) : Type 0 where
  pub up : ascending T ≡ true
  pub placed : (p : ℕ) → In p T → In p v.live
  pub apart : (p q : ℕ) → In p T → In q T → conflicts v p q ≡ false
  pub enough : (i : Item) → least v i ≤ count v T i
  pub few : (i : Item) → count v T i ≤ most v i
  pub pinned : (p : ℕ) → In p v.pins → In p T

pub parts : (v : View) (T : List ℕ) → is_tiling v T ≡ true → IsTiling v T
parts v T h =
    let low = λ (b : Bound). leb (least v b.item) (count v T b.item) in
    let high = λ (p : ℕ). list_all (λ i. leb (count v T i) (most v i)) (items v p) in
    let far = λ (p : ℕ). not (list_any (λ q. conflicts v p q) T) in
    let here = λ (p : ℕ). mem v.live p in
    let h5 = and_parts (ascending T && list_all here T && list_all far T && list_all low v.bounds && list_all high T) (list_all (λ p. mem T p) v.pins) h in
    let h4 = and_parts (ascending T && list_all here T && list_all far T && list_all low v.bounds) (list_all high T) h5.0 in
    let h3 = and_parts (ascending T && list_all here T && list_all far T) (list_all low v.bounds) h4.0 in
    let h2 = and_parts (ascending T && list_all here T) (list_all far T) h3.0 in
    let h1 = and_parts (ascending T) (list_all here T) h2.0 in
    record {
      up = h1.0;
      placed = λ p i. mem_in v.live p (all_in here T h1.1 p i);
      apart = λ p q i j. false_from_ne_true (conflicts v p q) (λ c.
          both_ways (list_any (λ q. conflicts v p q) T) (not-true _ (all_in far T h2.1 p i)) (any_from (λ q. conflicts v p q) T q j c));
      enough = λ i. elim (cases_Bool (list_any (λ b. same_item b.item i) v.bounds)) [
        | inl y ↦ let x = any_in (λ b. same_item b.item i) v.bounds y in subst (λ k. least v k ≤ count v T k) (same_item_is x.0.item i x.2) (leb-true _ _ (all_in low v.bounds h3.1 x.0 x.1))
        | inr n ↦ omega (arith, bound_none v.bounds i (λ b. b.least) n)
      ];
      few = λ i. elim (cases_Bool (list_any (λ p. has_item v p i) T)) [
        | inl y ↦
            let x = any_in (λ p. has_item v p i) T y in
            let z = any_in (λ j. same_item j i) (items v x.0) x.2 in
            subst (λ k. count v T k ≤ most v k) (same_item_is z.0 i z.2) (leb-true _ _ (all_in (λ i. leb (count v T i) (most v i)) (items v x.0) (all_in high T h4.1 x.0 x.1) z.0 z.1))
        | inr n ↦ omega (arith, tally_none (λ p. has_item v p i) T (λ p k. false_from_ne_true (has_item v p i) (λ e. both_ways _ n (any_from (λ p. has_item v p i) T p k e))))
      ];
      pinned = λ p i. mem_in T p (all_in (λ p. mem T p) v.pins h5.1 p i);
    }

pub whole : (v : View) (T : List ℕ) → IsTiling v T → is_tiling v T ≡ true
whole v T t =
    and_from _ _
    (and_from _ _
    (and_from _ _
    (and_from _ _
    (and_from _ _ t.up (all_from (λ p. mem v.live p) T (λ p i. in_mem v.live p (t.placed p i))))
    (all_from (λ p. not (list_any (λ q. conflicts v p q) T)) T (λ p i. not_from_false _ (any_none (λ q. conflicts v p q) T (λ q j c. both_ways (conflicts v p q) (t.apart p q i j) c)))))
    (all_from (λ b. leb (least v b.item) (count v T b.item)) v.bounds (λ b i. le-leb _ _ (t.enough b.item))))
    (all_from (λ p. list_all (λ i. leb (count v T i) (most v i)) (items v p)) T (λ p j. all_from (λ i. leb (count v T i) (most v i)) (items v p) (λ i k. le-leb _ _ (t.few i)))))
    (all_from (λ p. mem T p) v.pins (λ p i. in_mem T p (t.pinned p i)))
