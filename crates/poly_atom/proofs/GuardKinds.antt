-- The guards tell which tilings of the new design are tilings of the old one.
use Rattle.std.proofs.Common.{List, ap, arith, eqb, false, inl, inr, ltb, not, refl, slice_get, subst, sym, true, ℕ, ◌&&◌, ◌++◌, ◌<◌, ◌∙◌, ◌≡◌, ◌≤◌}
use Rattle.std.proofs.lemmas.Bool.{both_ways, cases_Bool, false_from_ne_true, le-leb, leb-true, lt-ltb, ltb-false, ltb-true, not-true, not_from_false}
use Rattle.std.specs.List.{filter, list_all, list_any}
use Rattle.poly_tiling.specs.Lists.{mem}
use Rattle.poly_tiling.specs.declared.bound.Bound.{Bound}
use Rattle.poly_tiling.specs.Puzzle.{View, count, has_item, least, most, same_item, share_cell}
use Rattle.poly_tiling.specs.Names.{Names, WellNamed}
use Rattle.poly_tiling.proofs.Lists.{In, all_from, any_from, any_in, filter_in, in_append_cases, in_append_left, in_append_right, in_filter, in_map, in_mem, map_in, mem_in, same_truth, tally_none}
use Rattle.poly_tiling.proofs.Tilings.{IsTiling, bound_none, parts, same_item_is, same_item_self, whole}
use Rattle.poly_tiling.proofs.Named.{listed_item, named, old_count}
use Rattle.poly_atom.specs.declared.atom.Atom.{Atom}
use Rattle.poly_atom.specs.declared.atom.Atom.TheVariants.{AtLeast, AtMost, Has, Lacks}
use Rattle.poly_atom.specs.Atoms.{meets, meets_all, proper}
use Rattle.poly_atom.specs.Guards.{guards, guards_fresh, guards_least, guards_most, guards_pins}
use Rattle.poly_atom.specs.Laws.{GuardsTell}
use Rattle.poly_atom.proofs.Bases.{atom_met}

-- each new placement, each removed pin, and each item of the old design whose least fell or whose most rose has its guard
pub guard_lacks : (old new : View) (p : ℕ) → In p new.live → mem old.live p ≡ false → In (Lacks p) (guards old new)
guard_lacks old new p i n =
    in_append_left (Lacks p) (guards_fresh old new) (guards_least old new ++ (guards_most old new ++ guards_pins old new))
    (in_map (λ p. Lacks p) (filter (λ p. not (mem old.live p)) new.live) p (in_filter (λ p. not (mem old.live p)) new.live p i (not_from_false _ n)))

pub guard_least : (old new : View) (b : Bound) → In b old.bounds → ltb (least new b.item) (least old b.item) ≡ true → In (AtLeast b.item (least old b.item)) (guards old new)
guard_least old new b i n =
    in_append_right _ (guards_fresh old new) (guards_least old new ++ (guards_most old new ++ guards_pins old new))
    (in_append_left _ (guards_least old new) (guards_most old new ++ guards_pins old new)
    (in_map (λ b. AtLeast b.item (least old b.item)) (filter (λ b. ltb (least new b.item) (least old b.item)) old.bounds) b (in_filter (λ b. ltb (least new b.item) (least old b.item)) old.bounds b i n)))

pub guard_most : (old new : View) (b : Bound) → In b old.bounds → ltb (most old b.item) (most new b.item) ≡ true → In (AtMost b.item (most old b.item)) (guards old new)
guard_most old new b i n =
    in_append_right _ (guards_fresh old new) (guards_least old new ++ (guards_most old new ++ guards_pins old new))
    (in_append_right _ (guards_least old new) (guards_most old new ++ guards_pins old new)
    (in_append_left _ (guards_most old new) (guards_pins old new)
    (in_map (λ b. AtMost b.item (most old b.item)) (filter (λ b. ltb (most old b.item) (most new b.item)) old.bounds) b (in_filter (λ b. ltb (most old b.item) (most new b.item)) old.bounds b i n))))

pub guard_has : (old new : View) (p : ℕ) → In p old.pins → mem new.pins p ≡ false → In (Has p) (guards old new)
guard_has old new p i n =
    in_append_right _ (guards_fresh old new) (guards_least old new ++ (guards_most old new ++ guards_pins old new))
    (in_append_right _ (guards_least old new) (guards_most old new ++ guards_pins old new)
    (in_append_right _ (guards_most old new) (guards_pins old new)
    (in_map (λ p. Has p) (filter (λ p. not (mem new.pins p)) old.pins) p (in_filter (λ p. not (mem new.pins p)) old.pins p i (not_from_false _ n)))))

-- what a guard of each kind says about the two designs
abbrev pub IsGuard : View → View → Atom → Type 0
IsGuard old new (Lacks p) = In p new.live × (mem old.live p ≡ false)
IsGuard old new (AtLeast i n) = (n ≡ least old i) × (0 < n)
IsGuard old new (AtMost i n) = (n ≡ most old i) × (list_any (λ b. same_item b.item i) old.bounds ≡ true)
IsGuard old new (Has p) = In p old.pins

pub guard_is : (old new : View) (a : Atom) → In a (guards old new) → IsGuard old new a
guard_is old new a k = elim (in_append_cases a (guards_fresh old new) (guards_least old new ++ (guards_most old new ++ guards_pins old new)) k) [
  | inl k1 ↦ let r = map_in (λ p. Lacks p) (filter (λ p. not (mem old.live p)) new.live) a k1 in let f = filter_in (λ p. not (mem old.live p)) new.live r.0 r.1 in
      subst (λ b. IsGuard old new b) r.2 (f.0, not-true _ f.1)
  | inr k1 ↦ elim (in_append_cases a (guards_least old new) (guards_most old new ++ guards_pins old new) k1) [
    | inl k2 ↦ let r = map_in (λ b. AtLeast b.item (least old b.item)) (filter (λ b. ltb (least new b.item) (least old b.item)) old.bounds) a k2 in
        let f = filter_in (λ b. ltb (least new b.item) (least old b.item)) old.bounds r.0 r.1 in
        let l = ltb-true _ _ f.1 in
        subst (λ b. IsGuard old new b) r.2 (refl, omega arith)
    | inr k2 ↦ elim (in_append_cases a (guards_most old new) (guards_pins old new) k2) [
      | inl k3 ↦ let r = map_in (λ b. AtMost b.item (most old b.item)) (filter (λ b. ltb (most old b.item) (most new b.item)) old.bounds) a k3 in
          let f = filter_in (λ b. ltb (most old b.item) (most new b.item)) old.bounds r.0 r.1 in
          subst (λ b. IsGuard old new b) r.2 (refl, any_from (λ b. same_item b.item r.0.item) old.bounds r.0 f.0 (same_item_self r.0.item))
      | inr k3 ↦ let r = map_in (λ p. Has p) (filter (λ p. not (mem new.pins p)) old.pins) a k3 in let f = filter_in (λ p. not (mem new.pins p)) old.pins r.0 r.1 in
          subst (λ b. IsGuard old new b) r.2 f.0
    ]
  ]
]

guard_proper : (old new : View) (a : Atom) → IsGuard old new a → proper a ≡ true
guard_proper old new (Has p) g = refl
guard_proper old new (Lacks p) g = refl
guard_proper old new (AtLeast i n) g = lt-ltb 0 n g.1
guard_proper old new (AtMost i n) g = refl

pub guards_proper : (old new : View) → list_all proper (guards old new) ≡ true
guards_proper old new = all_from proper (guards old new) (λ a k. guard_proper old new a (guard_is old new a k))

old_met : (old new : View) (T : List ℕ) → WellNamed old → Names old new → IsTiling old T → (a : Atom) → IsGuard old new a → meets new T a ≡ true
old_met old new T wn names t (Has p) g = in_mem T p (t.pinned p g)
old_met old new T wn names t (Lacks p) g = not_from_false _ (false_from_ne_true (mem T p) (λ m. both_ways _ g.1 (in_mem old.live p (t.placed p (mem_in T p m)))))
old_met old new T wn names t (AtLeast i n) g = le-leb _ _ (omega (arith, g.0, old_count old new T wn names t.placed i, t.enough i))
old_met old new T wn names t (AtMost i n) g = le-leb _ _ (omega (arith, g.0, old_count old new T wn names t.placed i, t.few i))

-- a tiling of the new design that meets the guards covers each item at least as often as the old least asks
old_enough : (old new : View) (T : List ℕ) → IsTiling new T → meets_all new T (guards old new) ≡ true → (b : Bound) → In b old.bounds → least old b.item ≤ count new T b.item
old_enough old new T t m b k = elim (cases_Bool (ltb (least new b.item) (least old b.item))) [
  | inl y ↦ leb-true _ _ (atom_met new T (guards old new) m (AtLeast b.item (least old b.item)) (guard_least old new b k y))
  | inr n ↦ omega (arith, ltb-false _ _ n, t.enough b.item)
]

old_few : (old new : View) (T : List ℕ) → IsTiling new T → meets_all new T (guards old new) ≡ true → (b : Bound) → In b old.bounds → count new T b.item ≤ most old b.item
old_few old new T t m b k = elim (cases_Bool (ltb (most old b.item) (most new b.item))) [
  | inl y ↦ leb-true _ _ (atom_met new T (guards old new) m (AtMost b.item (most old b.item)) (guard_most old new b k y))
  | inr n ↦ omega (arith, ltb-false _ _ n, t.few b.item)
]

old_parts : (old new : View) (T : List ℕ) → WellNamed old → Names old new → IsTiling new T → meets_all new T (guards old new) ≡ true → IsTiling old T
old_parts old new T wn names t m =
    let placed : (p : ℕ) → In p T → In p old.live = λ p i. elim (cases_Bool (mem old.live p)) [
      | inl y ↦ mem_in old.live p y
      | inr n ↦ absurd (both_ways (mem T p) (not-true _ (atom_met new T (guards old new) m (Lacks p) (guard_lacks old new p (t.placed p i) n))) (in_mem T p i))
    ] in
    record {
      up = t.up;
      placed = placed;
      apart = λ p q i j. sym (ap (λ o. not (eqb p q) && share_cell o (slice_get new.placements q)) (named old new wn names p (placed p i)) ∙ ap (λ o. not (eqb p q) && share_cell (slice_get old.placements p) o) (named old new wn names q (placed q j))) ∙ t.apart p q i j;
      enough = λ i. elim (cases_Bool (list_any (λ b. same_item b.item i) old.bounds)) [
        | inl y ↦ let x = any_in (λ b. same_item b.item i) old.bounds y in
            let e = subst (λ k. least old k ≤ count new T k) (same_item_is x.0.item i x.2) (old_enough old new T t m x.0 x.1) in omega (arith, e, old_count old new T wn names placed i)
        | inr n ↦ omega (arith, bound_none old.bounds i (λ b. b.least) n)
      ];
      few = λ i. elim (cases_Bool (list_any (λ b. same_item b.item i) old.bounds)) [
        | inl y ↦ let x = any_in (λ b. same_item b.item i) old.bounds y in
            let e = subst (λ k. count new T k ≤ most old k) (same_item_is x.0.item i x.2) (old_few old new T t m x.0 x.1) in omega (arith, e, old_count old new T wn names placed i)
        | inr n ↦ omega (arith, tally_none (λ p. has_item old p i) T (λ p k. false_from_ne_true (has_item old p i) (λ h. both_ways _ n (listed_item old wn p (placed p k) i h))))
      ];
      pinned = λ p i. elim (cases_Bool (mem new.pins p)) [
        | inl y ↦ t.pinned p (mem_in new.pins p y)
        | inr n ↦ mem_in T p (atom_met new T (guards old new) m (Has p) (guard_has old new p i n))
      ];
    }

pub guards_tell_lem : GuardsTell
guards_tell_lem old new T wn names t = same_truth _ _
    (λ o. all_from (λ a. meets new T a) (guards old new) (λ a k. old_met old new T wn names (parts old T o) a (guard_is old new a k)))
    (λ m. whole old T (old_parts old new T wn names (parts new T t) m))
