-- What no tiling of a family can have.
use Rattle.std.proofs.Common.{List, [], arith, eqb, false, inl, inr, leb, max, min, not, subst, true, ℕ, ◌&&◌, ◌||◌, ◌∷◌, ◌≡◌, ◌≤◌}
use Rattle.std.proofs.lemmas.Bool.{and_parts, both_ways, cond_both, false_from_ne_true, leb-true, not-true, or_cases}
use Rattle.std.specs.List.{list_any}
use Rattle.poly_tiling.specs.Lists.{mem}
use Rattle.poly_tiling.specs.declared.item.Item.{Item}
use Rattle.poly_tiling.specs.Puzzle.{View, conflicts, count, has_item, items, least, most, same_item}
use Rattle.poly_tiling.proofs.Lists.{In, any_from, any_in, in_mem, mem_in}
use Rattle.poly_tiling.proofs.Counts.{tally_fewer}
use Rattle.poly_tiling.proofs.Tilings.{IsTiling, same_item_is, same_item_self}
use Rattle.poly_atom.specs.declared.atom.Atom.TheVariants.{AtLeast, AtMost, Has, Lacks}
use Rattle.poly_atom.specs.declared.atom.Atom.{Atom}
use Rattle.poly_atom.specs.Atoms.{meets_all}
use Rattle.poly_atom.specs.Hopeless.{base, lacks}
use Rattle.poly_atom.proofs.Bases.{atom_met, base_fewer, base_within, not_lacked}
use Rattle.poly_frame.specs.Open.{least_at, dead, others, ruled_out, most_at}

pub most_is : (v : View) (T : List ℕ) (i : Item) → count v T i ≤ most v i → (A : List Atom) → meets_all v T A ≡ true → count v T i ≤ most_at v A i
most_is v T i h [] m = h
most_is v T i h (Has p ∷ A) m = most_is v T i h A (and_parts _ _ m).1
most_is v T i h (Lacks p ∷ A) m = most_is v T i h A (and_parts _ _ m).1
most_is v T i h (AtLeast j n ∷ A) m = most_is v T i h A (and_parts _ _ m).1
most_is v T i h (AtMost j n ∷ A) m =
    let ms = and_parts (leb (count v T j) n) (meets_all v T A) m in
    let rest = most_is v T i h A ms.1 in
    cond_both (same_item j i) (min n (most_at v A i)) (most_at v A i) (λ k. count v T i ≤ k)
    (λ e. let here = subst (λ k. count v T k ≤ n) (same_item_is j i e) (leb-true _ _ ms.0) in omega arith)
    (λ e. rest)

pub least_is : (v : View) (T : List ℕ) (i : Item) → least v i ≤ count v T i → (A : List Atom) → meets_all v T A ≡ true → least_at v A i ≤ count v T i
least_is v T i h [] m = h
least_is v T i h (Has p ∷ A) m = least_is v T i h A (and_parts _ _ m).1
least_is v T i h (Lacks p ∷ A) m = least_is v T i h A (and_parts _ _ m).1
least_is v T i h (AtMost j n ∷ A) m = least_is v T i h A (and_parts _ _ m).1
least_is v T i h (AtLeast j n ∷ A) m =
    let ms = and_parts (leb n (count v T j)) (meets_all v T A) m in
    let rest = least_is v T i h A ms.1 in
    cond_both (same_item j i) (max n (least_at v A i)) (least_at v A i) (λ k. k ≤ count v T i)
    (λ e. let here = subst (λ k. n ≤ count v T k) (same_item_is j i e) (leb-true _ _ ms.0) in omega arith)
    (λ e. rest)

-- no placement of a tiling of the family is ruled out
pub not_ruled_out : (v : View) (T : List ℕ) (A : List Atom) → IsTiling v T → meets_all v T A ≡ true → (p : ℕ) → In p T → ruled_out v A p ≡ false
not_ruled_out v T A t m p i = false_from_ne_true (ruled_out v A p) (λ r. elim (or_cases (list_any (λ a. lacks a p) A || list_any (λ q. conflicts v p q) (base v A)) (list_any (λ i. leb (most_at v A i) (others v (base v A) p i)) (items v p)) r) [
  | inl e ↦ elim (or_cases (list_any (λ a. lacks a p) A) (list_any (λ q. conflicts v p q) (base v A)) e) [
    | inl l ↦ let x = any_in (λ a. lacks a p) A l in not_lacked v T p x.0 (atom_met v T A m x.0 x.1) x.2 i
    | inr c ↦ let x = any_in (λ q. conflicts v p q) (base v A) c in both_ways (conflicts v p x.0) (t.apart p x.0 i (base_within v T A t m x.0 x.1)) x.2
  ]
  | inr u ↦
      let x = any_in (λ i. leb (most_at v A i) (others v (base v A) p i)) (items v p) u in
      let carried = any_from (λ j. same_item j x.0) (items v p) x.0 x.1 (same_item_self x.0) in
      let a = leb-true _ _ x.2 in
      let b = base_fewer v T A t m (λ q. has_item v q x.0 && not (eqb q p)) in
      let c = tally_fewer (λ q. has_item v q x.0) T p i carried in
      let d = most_is v T x.0 (t.few x.0) A m in
      absurd (omega arith)
])

pub dead_is_out : (v : View) (T : List ℕ) (A : List Atom) → IsTiling v T → meets_all v T A ≡ true → (p : ℕ) → dead v A p ≡ true → mem T p ≡ false
dead_is_out v T A t m p d = false_from_ne_true (mem T p) (λ i. elim (or_cases _ _ d) [
  | inl n ↦ both_ways (mem v.live p) (not-true _ n) (in_mem v.live p (t.placed p (mem_in T p i)))
  | inr l ↦ let x = any_in (λ a. lacks a p) A l in not_lacked v T p x.0 (atom_met v T A m x.0 x.1) x.2 (mem_in T p i)
])
