-- A hopeless list has an empty family.
use Rattle.std.proofs.Common.{List, arith, inl, inr, nat_lt, not, true, ℕ, ◌&&◌, ◌||◌, ◌≡◌}
use Rattle.std.proofs.lemmas.Bool.{and_parts, both_ways, false_from_ne_true, leb-true, ltb-true, not-true, or_cases}
use Rattle.std.specs.List.{list_any}
use Rattle.poly_tiling.specs.Lists.{mem}
use Rattle.poly_tiling.specs.Puzzle.{is_piece, View, conflicts, count, has_item, is_tiling, items, most}
use Rattle.poly_tiling.proofs.Lists.{any_in, in_mem, mem_in}
use Rattle.poly_tiling.proofs.Tilings.{IsTiling, parts}
use Rattle.poly_atom.specs.declared.atom.Atom.{Atom}
use Rattle.poly_atom.specs.declared.atom.Atom.TheVariants.{AtLeast, AtMost, Has, Lacks}
use Rattle.poly_atom.specs.Atoms.{in_family, meets, meets_all}
use Rattle.poly_atom.specs.Hopeless.{bad, base, lacks}
use Rattle.poly_atom.specs.Laws.{HopelessIsEmpty}
use Rattle.poly_atom.proofs.Bases.{atom_met, base_fewer, base_within, not_lacked}

not_bad : (v : View) (A : List Atom) (T : List ℕ) → IsTiling v T → meets_all v T A ≡ true → (a : Atom) → meets v T a ≡ true → bad v A a ≡ true → ⊥
not_bad v A T t m (Has p) h b = elim (or_cases (not (mem v.live p) || list_any (λ a. lacks a p) A || list_any (λ q. conflicts v p q) (base v A)) (list_any (λ i. is_piece i && nat_lt (most v i) (count v (base v A) i)) (items v p)) b) [
  | inl e ↦ elim (or_cases (not (mem v.live p) || list_any (λ a. lacks a p) A) (list_any (λ q. conflicts v p q) (base v A)) e) [
    | inl d ↦ elim (or_cases (not (mem v.live p)) (list_any (λ a. lacks a p) A) d) [
      | inl n ↦ both_ways (mem v.live p) (not-true _ n) (in_mem v.live p (t.placed p (mem_in T p h)))
      | inr l ↦ let x = any_in (λ a. lacks a p) A l in not_lacked v T p x.0 (atom_met v T A m x.0 x.1) x.2 (mem_in T p h)
    ]
    | inr c ↦ let x = any_in (λ q. conflicts v p q) (base v A) c in both_ways (conflicts v p x.0) (t.apart p x.0 (mem_in T p h) (base_within v T A t m x.0 x.1)) x.2
  ]
  | inr u ↦
      let x = any_in (λ i. is_piece i && nat_lt (most v i) (count v (base v A) i)) (items v p) u in
      let l = ltb-true _ _ (and_parts (is_piece x.0) _ x.2).1 in
      let b = base_fewer v T A t m (λ q. has_item v q x.0) in
      let f = t.few x.0 in
      omega arith
]
not_bad v A T t m (Lacks p) h b = both_ways (mem T p) (not-true _ h) (in_mem T p (t.pinned p (mem_in v.pins p b)))
not_bad v A T t m (AtLeast i n) h b = let l = ltb-true _ _ (and_parts _ (nat_lt (most v i) n) b).1 in let g = leb-true _ _ h in let f = t.few i in omega arith
not_bad v A T t m (AtMost i n) h b = let l = ltb-true _ _ b in let g = leb-true _ _ h in let f = t.enough i in omega arith

pub hopeless_is_empty_lem : HopelessIsEmpty
hopeless_is_empty_lem v A T h = false_from_ne_true (in_family v A T) (λ f.
    let e = and_parts (is_tiling v T) (meets_all v T A) f in
    let x = any_in (λ a. bad v A a) A h in
    not_bad v A T (parts v T e.0) e.1 x.0 (atom_met v T A e.1 x.0 x.1) x.2)
