-- Which steps keep the base consistent, and that a consistent base is a tiling that meets the atoms if no item is due.
use Rattle.std.proofs.Common.{◌≡◌, ℕ, zero, suc, ◌+◌, ◌-◌, ◌<◌, ◌≤◌, Bool, true, false, cond, max, not, ◌&&◌, ◌||◌, eqb, get_or, ltb, leb, List, [], ◌∷◌, ◌++◌, inl, inr, refl, sym, ap, subst, ◌∙◌, arith, length, slice_get, take, length-append, length-take}
use Rattle.std.specs.List.{list_all, list_any}
use Rattle.std.proofs.lemmas.Bool.{and_from, and_parts, both_ways, cases_Bool, cases_lt, eq-eqb, eqb-true, false_from_ne_true, le-leb, leb-true, lt-ltb, ne_eqb, not_from_false, not-true, or_cases, or_from, or_parts}
use Rattle.std.proofs.lemmas.List.{take-append-le, take_all}
use Rattle.poly_tiling.specs.declared.item.Item.{Item}
use Rattle.poly_tiling.specs.declared.item.Item.TheVariants.{Cell, Piece}
use Rattle.poly_tiling.specs.Lists.{distinct, mem, one, tally}
use Rattle.poly_tiling.specs.Names.{WellNamed}
use Rattle.poly_tiling.specs.Puzzle.{View, conflicts, count, has_item, is_piece, is_tiling, items, least, same_item, share_cell}
use Rattle.poly_tiling.proofs.Lists.{In, all_from, all_in, any_from, any_in, in_mem, mem_in, same_truth, tally_none}
use Rattle.poly_tiling.proofs.Ascending.{distinct_rest, not_head, put_in}
use Rattle.poly_tiling.proofs.Counts.{ascending_distinct, tally_fewer}
use Rattle.poly_tiling.proofs.Named.{listed_item}
use Rattle.poly_tiling.proofs.Tilings.{same_item_self, whole}
use Rattle.poly_atom.specs.declared.atom.Atom.{Atom}
use Rattle.poly_atom.specs.declared.atom.Atom.TheVariants.{AtLeast, AtMost, Has, Lacks}
use Rattle.poly_atom.specs.Atoms.{in_family, meets, meets_all}
use Rattle.poly_atom.specs.Hopeless.{base, lacks}
use Rattle.poly_atom.proofs.Bases.{base_up, in_base_has, in_base_pin}
use Rattle.poly_frame.specs.Open.{dead, least_at, open_in, others, ruled_out, most_at}
use Rattle.poly_frame.specs.FrameItems.{item_of}
use Rattle.poly_frame.specs.FrameConsistent.{AllFit, ConsistentShows, is_consistent, item_fits, items_fit}
use Rattle.poly_frame.specs.FrameTable.{HaveShows, MostsShow}
use Rattle.poly_frame.proofs.Steps.{any_put, base_pick, lacks_leave, lacks_pick, others_put, tally_put, most_leave, most_pick}
use Rattle.poly_frame.proofs.Later.{most_le_atom, most_le_most}
use Rattle.poly_frame.proofs.FrameMembers.{base_stays}
use Rattle.poly_frame.proofs.FramePicks.{base_again, has_in, in_has, open_base, others_all, column_of, shared, sharing}

-- a number that is not ruled out
record Free (v : View) (A : List Atom) (q : ℕ) : Type 0 where
  named : list_any (λ a. lacks a q) A ≡ false
  apart : list_any (λ r. conflicts v q r) (base v A) ≡ false
  below : (i : Item) → In i (items v q) → others v (base v A) q i < most_at v A i

free_of : (v : View) (A : List Atom) (q : ℕ) → ruled_out v A q ≡ false → Free v A q
free_of v A q n =
    let full = list_any (λ i. leb (most_at v A i) (others v (base v A) q i)) (items v q) in
    let x = or_parts (list_any (λ a. lacks a q) A || list_any (λ r. conflicts v q r) (base v A)) full n in
    let y = or_parts (list_any (λ a. lacks a q) A) (list_any (λ r. conflicts v q r) (base v A)) x.0 in
    record {
      named = y.0;
      apart = y.1;
      below = λ i k. elim (cases_lt (others v (base v A) q i) (most_at v A i)) [
        | inl h ↦ h
        | inr h ↦ absurd (both_ways full x.1 (any_from (λ i. leb (most_at v A i) (others v (base v A) q i)) (items v q) i k (le-leb _ _ (omega (arith, h)))))
      ];
    }

ruled_by : (v : View) (A : List Atom) (q : ℕ) → Free v A q → ruled_out v A q ≡ false
ruled_by v A q f =
    or_from (list_any (λ a. lacks a q) A || list_any (λ r. conflicts v q r) (base v A)) _ (or_from (list_any (λ a. lacks a q) A) _ f.named f.apart)
    (false_from_ne_true _ (λ t.
    let w = any_in (λ i. leb (most_at v A i) (others v (base v A) q i)) (items v q) t in
    absurd (omega (arith, leb-true _ _ w.2, f.below w.0 w.1))))

-- conflicts are symmetric
conflicts_swapped : (v : View) (p q : ℕ) → conflicts v p q ≡ false → conflicts v q p ≡ false
conflicts_swapped v p q n = false_from_ne_true (conflicts v q p) (λ t.
    let o = slice_get v.placements q in
    let u = slice_get v.placements p in
    let two = and_parts (not (eqb q p)) (share_cell o u) t in
    let s = shared o u two.1 in
    let apart : not (eqb p q) ≡ true = not_from_false _ (ne_eqb p q (λ e. both_ways (eqb q p) (not-true _ two.0) (eq-eqb q p (sym e)))) in
    both_ways (conflicts v p q) n (and_from (not (eqb p q)) (share_cell u o) apart (sharing u o s.0 s.2 s.1)))

conflict_self : (v : View) (p : ℕ) → conflicts v p p ≡ false
conflict_self v p = ap (λ b. not b && share_cell (slice_get v.placements p) (slice_get v.placements p)) (eq-eqb p p refl)

-- the base with one more placement, which was not ruled out
module _ (v : View) (A : List Atom) (p : ℕ) (m : mem (base v A) p ≡ false) (fp : Free v A p) where
  own_free : Free v (A ++ Has p ∷ []) p
  own_free =
      let b = base_pick v A p in
      record {
        named = lacks_pick A p p ∙ fp.named;
        apart = ap (λ xs. list_any (λ r. conflicts v p r) xs) b ∙ any_put (λ r. conflicts v p r) p (base v A) ∙ or_from (conflicts v p p) (list_any (λ r. conflicts v p r) (base v A)) (conflict_self v p) fp.apart;
        below = λ i k.
            let none : (has_item v p i && not (eqb p p)) ≡ false = ap (λ x. has_item v p i && not x) (eq-eqb p p refl) ∙ and_never (has_item v p i) in
            omega (arith, ap (λ xs. others v xs p i) b, tally_put (λ r. has_item v r i && not (eqb r p)) p (base v A) m, ap one none, most_pick v A p i, fp.below i k);
      }
    where
      and_never : (x : Bool) → (x && false) ≡ false
      and_never true = refl
      and_never false = refl

  other_free : (q : ℕ) → In q (base v A) → Free v A q → Free v (A ++ Has p ∷ []) q
  other_free q j fq =
      let b = base_pick v A p in
      let far : conflicts v p q ≡ false = false_from_ne_true (conflicts v p q) (λ t. both_ways (list_any (λ r. conflicts v p r) (base v A)) fp.apart (any_from (λ r. conflicts v p r) (base v A) q j t)) in
      let apart : eqb p q ≡ false = ne_eqb p q (λ e. both_ways (mem (base v A) p) m (in_mem (base v A) p (subst (λ x. In x (base v A)) (sym e) j))) in
      record {
        named = lacks_pick A p q ∙ fq.named;
        apart = ap (λ xs. list_any (λ r. conflicts v q r) xs) b ∙ any_put (λ r. conflicts v q r) p (base v A) ∙ or_from (conflicts v q p) (list_any (λ r. conflicts v q r) (base v A)) (conflicts_swapped v p q far) fq.apart;
        below = λ i k.
            let more = others_put v (base v A) p q i m apart in
            let b' = ap (λ xs. others v xs q i) b in
            elim (cases_Bool (has_item v p i)) [
              | inl h ↦ omega (arith, b', more, ap one h, most_pick v A p i, tally_fewer (λ r. has_item v r i) (base v A) q j (in_has v q i k), others_all v (base v A) p i m, fp.below i (has_in v p i h))
              | inr h ↦ omega (arith, b', more, ap one h, most_pick v A p i, fq.below i k)
            ];
      }

-- a consistent base, member by member
right_of : (v : View) (A : List Atom) → is_consistent v A ≡ true → (q : ℕ) → In q (base v A) → (mem v.live q ≡ true) × Free v A q
right_of v A s q j =
    let two = and_parts (mem v.live q) (not (ruled_out v A q)) (all_in (λ p. mem v.live p && not (ruled_out v A p)) (base v A) s q j) in
    (two.0, free_of v A q (not-true _ two.1))

consistent_by : (v : View) (A : List Atom) → ((q : ℕ) → In q (base v A) → (mem v.live q ≡ true) × Free v A q) → is_consistent v A ≡ true
consistent_by v A f = all_from (λ p. mem v.live p && not (ruled_out v A p)) (base v A) (λ q j. let w = f q j in and_from _ _ w.0 (not_from_false _ (ruled_by v A q w.1)))

free_open : (v : View) (A : List Atom) (p : ℕ) → open_in v A p ≡ true → Free v A p
free_open v A p o = free_of v A p (not-true _ (and_parts (not (mem (base v A) p)) (not (ruled_out v A p)) o).1)

pub consistent_pick : (v : View) (A : List Atom) (p : ℕ) → is_consistent v A ≡ true → mem v.live p ≡ true → open_in v A p ≡ true → is_consistent v (A ++ Has p ∷ []) ≡ true
consistent_pick v A p s l o =
    let m = open_base v A p o in
    let fp = free_open v A p o in
    consistent_by v (A ++ Has p ∷ []) (λ q j. elim (put_in p (base v A) q (subst (λ xs. In q xs) (base_pick v A p) j)) [
      | inl e ↦ subst (λ (x : ℕ). (mem v.live x ≡ true) × Free v (A ++ Has p ∷ []) x) e (l, own_free v A p m fp)
      | inr k ↦ let w = right_of v A s q k in (w.0, other_free v A p m fp q k w.1)
    ])

-- taking a member again keeps the base
pub consistent_again : (v : View) (A : List Atom) (p : ℕ) → is_consistent v A ≡ true → mem (base v A) p ≡ true → is_consistent v (A ++ Has p ∷ []) ≡ true
consistent_again v A p s m =
    let b = base_again v A p m in
    consistent_by v (A ++ Has p ∷ []) (λ q j.
    let w = right_of v A s q (subst (λ xs. In q xs) b j) in (
      w.0,
      record {
        named = lacks_pick A p q ∙ w.1.named;
        apart = ap (λ xs. list_any (λ r. conflicts v q r) xs) b ∙ w.1.apart;
        below = λ i h. omega (arith, ap (λ xs. others v xs q i) b, most_pick v A p i, w.1.below i h);
      },
    ))

-- leaving out a placement that is no member keeps the base, and each member as it is
pub consistent_leave : (v : View) (A : List Atom) (p : ℕ) → is_consistent v A ≡ true → mem (base v A) p ≡ false → is_consistent v (A ++ Lacks p ∷ []) ≡ true
consistent_leave v A p s m =
    let b = base_stays v A p in
    consistent_by v (A ++ Lacks p ∷ []) (λ q j.
    let k : In q (base v A) = subst (λ xs. In q xs) (sym b) j in
    let w = right_of v A s q k in
    let apart : eqb p q ≡ false = ne_eqb p q (λ e. both_ways (mem (base v A) p) m (in_mem (base v A) p (subst (λ x. In x (base v A)) (sym e) k))) in (
      w.0,
      record {
        named = lacks_leave A p q ∙ or_from (list_any (λ a. lacks a q) A) (eqb p q) w.1.named apart;
        apart = ap (λ xs. list_any (λ r. conflicts v q r) xs) (sym b) ∙ w.1.apart;
        below = λ i h. omega (arith, ap (λ xs. others v xs q i) b, most_leave v A p i, w.1.below i h);
      },
    ))

-- in a list without repeats, leaving out one number lowers a count by at most one
others_one : (v : View) (q : ℕ) (i : Item) (xs : List ℕ) → distinct xs ≡ true → count v xs i ≤ others v xs q i + 1
others_one v q i [] d = omega arith
others_one v q i (x ∷ xs) d = elim (cases_Bool (eqb x q)) [
  | inl e ↦
      let out : mem xs q ≡ false = false_from_ne_true (mem xs q) (λ t. not_head x xs d (subst (λ y. In y xs) (sym (eqb-true x q e)) (mem_in xs q t))) in
      omega (arith, at_most (has_item v x i), others_all v xs q i out)
  | inr n ↦ omega (arith, ap one (ap (λ b. has_item v x i && not b) n ∙ yes_and (has_item v x i)), others_one v q i xs (distinct_rest x xs d))
]
  where
    at_most : (b : Bool) → one b ≤ 1
    at_most true = omega arith
    at_most false = omega arith

    yes_and : (b : Bool) → (b && true) ≡ b
    yes_and true = refl
    yes_and false = refl

module _ (v : View) (A : List Atom) (s : is_consistent v A ≡ true) where
  few_all : (i : Item) → count v (base v A) i ≤ most_at v A i
  few_all i = elim (cases_Bool (list_any (λ p. has_item v p i) (base v A))) [
    | inl y ↦
        let x = any_in (λ p. has_item v p i) (base v A) y in
        let w = right_of v A s x.0 x.1 in
        omega (arith, others_one v x.0 i (base v A) (ascending_distinct (base v A) (base_up v A)), w.1.below i (has_in v x.0 i x.2))
    | inr n ↦ omega (arith, tally_none (λ p. has_item v p i) (base v A) (λ p k. false_from_ne_true (has_item v p i) (λ e. both_ways _ n (any_from (λ p. has_item v p i) (base v A) p k e))))
  ]

  least_listed : (i : Item) (B : List Atom) → least v i ≤ least_at v B i
  least_listed i [] = omega arith
  least_listed i (Has q ∷ B) = least_listed i B
  least_listed i (Lacks q ∷ B) = least_listed i B
  least_listed i (AtLeast j n ∷ B) = which (same_item j i) (least_listed i B)
    where
      which : (b : Bool) → least v i ≤ least_at v B i → least v i ≤ cond b (max n (least_at v B i)) (least_at v B i)
      which true h = omega (arith, h)
      which false h = h
  least_listed i (AtMost j n ∷ B) = least_listed i B

  atom_asked : (i : Item) (n : ℕ) (B : List Atom) → In (AtLeast i n) B → n ≤ least_at v B i
  atom_asked i n [] k = absurd k
  atom_asked i n (Has q ∷ B) (inl e) = cc
  atom_asked i n (Has q ∷ B) (inr k) = atom_asked i n B k
  atom_asked i n (Lacks q ∷ B) (inl e) = cc
  atom_asked i n (Lacks q ∷ B) (inr k) = atom_asked i n B k
  atom_asked i n (AtMost j m ∷ B) (inl e) = cc
  atom_asked i n (AtMost j m ∷ B) (inr k) = atom_asked i n B k
  atom_asked i n (AtLeast j m ∷ B) (inl e) =
      let a : j ≡ i = cc in
      let b : m ≡ n = cc in
      let same : same_item j i ≡ true = ap (λ k. same_item k i) a ∙ same_item_self i in
      subst (λ (x : Bool). n ≤ cond x (max m (least_at v B i)) (least_at v B i)) (sym same) (omega (arith, b))
  atom_asked i n (AtLeast j m ∷ B) (inr k) = which (same_item j i) (atom_asked i n B k)
    where
      which : (b : Bool) → n ≤ least_at v B i → n ≤ cond b (max m (least_at v B i)) (least_at v B i)
      which true h = omega (arith, h)
      which false h = h

  module _ (due : (i : Item) → ltb (count v (base v A) i) (least_at v A i) ≡ false) where
    enough_all : (i : Item) → least_at v A i ≤ count v (base v A) i
    enough_all i = elim (cases_lt (count v (base v A) i) (least_at v A i)) [
      | inl h ↦ absurd (both_ways _ (due i) (lt-ltb _ _ h))
      | inr h ↦ omega (arith, h)
    ]

    met : (a : Atom) → In a A → meets v (base v A) a ≡ true
    met (Has p) k = in_mem (base v A) p (in_base_has v A p k)
    met (Lacks p) k = not_from_false _ (false_from_ne_true (mem (base v A) p) (λ t.
        both_ways (list_any (λ a. lacks a p) A) (right_of v A s p (mem_in (base v A) p t)).1.named (any_from (λ a. lacks a p) A (Lacks p) k (eq-eqb p p refl))))
    met (AtLeast i n) k = le-leb _ _ (omega (arith, atom_asked i n A k, enough_all i))
    met (AtMost i n) k = le-leb _ _ (omega (arith, most_le_atom v i n A k, few_all i))

    -- if no item is due, a consistent base is a tiling that meets the atoms
    pub consistent_family : in_family v A (base v A) ≡ true
    consistent_family =
        and_from (is_tiling v (base v A)) (meets_all v (base v A) A)
        (whole v (base v A) (record {
          up = base_up v A;
          placed = λ p j. mem_in v.live p (right_of v A s p j).0;
          apart = λ p q j k. false_from_ne_true (conflicts v p q) (λ t. both_ways (list_any (λ r. conflicts v p r) (base v A)) (right_of v A s p j).1.apart (any_from (λ r. conflicts v p r) (base v A) q k t));
          enough = λ i. omega (arith, least_listed i A, enough_all i);
          few = λ i. omega (arith, few_all i, most_le_most v i A);
          pinned = λ p j. in_base_pin v A p j;
        }))
        (all_from (λ a. meets v (base v A) a) A met)

-- if two different members pass a test, the count is at least 2
two_have : (f : ℕ → Bool) (xs : List ℕ) (p q : ℕ) → In p xs → In q xs → f p ≡ true → f q ≡ true → eqb q p ≡ false → 2 ≤ tally f xs
two_have f xs p q i j h k n = omega (arith, tally_fewer f xs p i h, some_have (λ x. f x && not (eqb x p)) xs q j (and_from (f q) _ k (not_from_false _ n)))
  where
    some_have : (g : ℕ → Bool) (ys : List ℕ) (y : ℕ) → In y ys → g y ≡ true → 1 ≤ tally g ys
    some_have g [] y i h = absurd i
    some_have g (x ∷ ys) y (inl e) h = omega (arith, ap one (ap g e ∙ h))
    some_have g (x ∷ ys) y (inr i) h = omega (arith, some_have g ys y i h)

-- a member of the base that no atom lacks isn't ruled out if at most as many members have each of its items as may have it,
-- and at most one if it is a cell
few_free : (v : View) (A : List Atom) (q : ℕ) → In q (base v A) → list_any (λ a. lacks a q) A ≡ false → ((i : Item) → In i (items v q) → (count v (base v A) i ≤ most_at v A i) × (is_piece i ≡ false → count v (base v A) i ≤ 1)) → Free v A q
few_free v A q j n few = record {
  named = n;
  apart = false_from_ne_true _ (λ t.
      let r = any_in (λ r. conflicts v q r) (base v A) t in
      let two = and_parts (not (eqb q r.0)) (share_cell (slice_get v.placements q) (slice_get v.placements r.0)) r.2 in
      let s = shared (slice_get v.placements q) (slice_get v.placements r.0) two.1 in
      let apart : eqb r.0 q ≡ false = ne_eqb r.0 q (λ e. both_ways (eqb q r.0) (not-true _ two.0) (eq-eqb q r.0 (sym e))) in
      absurd (omega (arith, two_have (λ p. has_item v p (Cell s.0)) (base v A) q r.0 j r.1 (in_has v q (Cell s.0) s.1) (in_has v r.0 (Cell s.0) s.2) apart, (few (Cell s.0) s.1).1 refl)));
  below = λ i k. omega (arith, tally_fewer (λ p. has_item v p i) (base v A) q j (in_has v q i k), (few i k).0);
}

-- if at most as many members of the base have each item of the view as may have it, and at most one if it is a cell, and if
-- the members are placements of the design that no atom lacks, the base is consistent
module _ (v : View) (A : List Atom) (us hs : List ℕ) (well : WellNamed v) (mosts : MostsShow v A us) (have : HaveShows v (base v A) hs) (fit : AllFit v.bounds us hs) where
  fit_item : (q : ℕ) → In q v.live → (i : Item) → In i (items v q) → (count v (base v A) i ≤ most_at v A i) × (is_piece i ≡ false → count v (base v A) i ≤ 1)
  fit_item q l i k =
      let w = column_of v.bounds i (listed_item v well q l i (in_has v q i k)) in
      let two = and_parts (leb (get_or hs w.0 0) (get_or us w.0 0)) _ (fit w.0 w.1) in
      let counted : get_or hs w.0 0 ≡ count v (base v A) i = have w.0 w.1 ∙ ap (λ j. count v (base v A) j) w.2 in
      let most : get_or us w.0 0 ≡ most_at v A i = mosts w.0 w.1 ∙ ap (λ j. most_at v A j) w.2 in (
        omega (arith, leb-true _ _ two.0, counted, most),
        λ n. elim (or_cases (is_piece (item_of v w.0)) (leb (get_or hs w.0 0) 1) two.1) [
          | inl p ↦ absurd (both_ways _ n (ap is_piece (sym w.2) ∙ p))
          | inr o ↦ omega (arith, leb-true _ _ o, counted)
        ],
      )

  fit_free : (q : ℕ) → In q (base v A) → In q v.live → list_any (λ a. lacks a q) A ≡ false → Free v A q
  fit_free q j l n = few_free v A q j n (fit_item q l)

  pub consistent_fits : list_all (λ p. mem v.live p && not (list_any (λ a. lacks a p) A)) (base v A) ≡ true → is_consistent v A ≡ true
  consistent_fits kept = consistent_by v A (λ q j.
      let two = and_parts (mem v.live q) (not (list_any (λ a. lacks a q) A)) (all_in (λ p. mem v.live p && not (list_any (λ a. lacks a p) A)) (base v A) kept q j) in
      (two.0, fit_free q j (mem_in v.live q two.0) (not-true _ two.1)))

pub consistent_one : (v : View) (A : List Atom) → is_consistent v A ≡ true → ConsistentShows v A (length A) 1
consistent_one v A s = record {
  few = omega arith;
  levels = λ k h. ap (λ (B : List Atom). is_consistent v B) (take_all (length A + k) A (omega arith)) ∙ s;
}

-- if `consistent` counts all levels so far, the level after a step that keeps the base consistent can be counted too
pub consistent_more : (v : View) (A : List Atom) (first consistent : ℕ) (a : Atom) → ConsistentShows v A first consistent → length A - first < consistent → first ≤ length A → (is_consistent v A ≡ true → is_consistent v (A ++ a ∷ []) ≡ true) → ConsistentShows v (A ++ a ∷ []) first (consistent + 1)
consistent_more v A first consistent a S top low keep =
    let more = length-append A (a ∷ []) in
    record {
      few = omega (arith, S.few, more);
      levels = λ k h. elim (cases_lt (first + k) (length A + 1)) [
        | inl l ↦ ap (λ (B : List Atom). is_consistent v B) (take-append-le (first + k) A (a ∷ []) (omega (arith, l))) ∙ S.levels k (omega (arith, top, low, l))
        | inr l ↦
            ap (λ (B : List Atom). is_consistent v B) (take_all (first + k) (A ++ a ∷ []) (omega (arith, l, more)))
            ∙ keep (ap (λ (B : List Atom). is_consistent v B) (sym (take_all (first + (length A - first)) A (omega (arith, low)))) ∙ S.levels (length A - first) top)
      ];
    }

pub consistent_as : (v : View) (A : List Atom) (first consistent : ℕ) (a : Atom) → ConsistentShows v A first consistent → ConsistentShows v (A ++ a ∷ []) first consistent
consistent_as v A first consistent a S =
    record {
      few = omega (arith, S.few, length-append A (a ∷ []));
      levels = λ k h. ap (λ (B : List Atom). is_consistent v B) (take-append-le (first + k) A (a ∷ []) (omega (arith, S.few, h))) ∙ S.levels k h;
    }

pub consistent_back : (v : View) (A : List Atom) (first consistent low : ℕ) → ConsistentShows v A first consistent → first < length A → low ≤ consistent → low ≤ length A - first → ConsistentShows v (take (length A - 1) A) first low
consistent_back v A first consistent low S some h l =
    record {
      few = omega (arith, some, l, length-take (length A - 1) A);
      levels = λ k g. ap (λ (B : List Atom). is_consistent v B) (take_less (length A - 1) (first + k) A (omega (arith, g, l, some))) ∙ S.levels k (omega (arith, g, h));
    }
  where
    take_less : (n m : ℕ) (xs : List Atom) → m ≤ n → take m (take n xs) ≡ take m xs
    take_less n zero xs h = refl
    take_less zero (suc m) xs h = absurd (omega arith)
    take_less (suc n) (suc m) [] h = refl
    take_less (suc n) (suc m) (x ∷ xs) h = ap (λ ys. x ∷ ys) (take_less n m xs (omega arith))

pub consistent_top : (v : View) (A : List Atom) (first consistent : ℕ) → ConsistentShows v A first consistent → first ≤ length A → length A - first < consistent → is_consistent v A ≡ true
consistent_top v A first consistent S low h = ap (λ (B : List Atom). is_consistent v B) (sym (take_all (first + (length A - first)) A (omega (arith, low)))) ∙ S.levels (length A - first) h

-- if all numbers of `ns` are the design's, a list whose numbers are all in `ns` has only numbers of the design
pub all_kept : (ns live : List ℕ) (f : ℕ → Bool) → ((q : ℕ) → mem ns q ≡ true → mem live q ≡ true) → (xs : List ℕ) → list_all (λ p. mem ns p && f p) xs ≡ true → list_all (λ p. mem live p && f p) xs ≡ true
all_kept ns live f among [] h = refl
all_kept ns live f among (x ∷ xs) h =
    let hs = and_parts (mem ns x && f x) (list_all (λ p. mem ns p && f p) xs) h in
    let here = and_parts (mem ns x) (f x) hs.0 in
    and_from _ _ (and_from _ _ (among x here.0) here.1) (all_kept ns live f among xs hs.1)

-- what `item_fits` says
fit_parts : (v : View) (A : List Atom) (i : Item) → item_fits v A i ≡ true → (count v (base v A) i ≤ most_at v A i) × (is_piece i ≡ false → count v (base v A) i ≤ 1)
fit_parts v A i e =
    let two = and_parts (leb (count v (base v A) i) (most_at v A i)) _ e in (
      leb-true _ _ two.0,
      λ n. elim (or_cases (is_piece i) (leb (count v (base v A) i) 1) two.1) [
        | inl p ↦ absurd (both_ways _ n p)
        | inr o ↦ leb-true _ _ o
      ],
    )

-- the items of a member that is not ruled out fit
free_fits : (v : View) (A : List Atom) (p : ℕ) → In p (base v A) → Free v A p → (i : Item) → In i (items v p) → item_fits v A i ≡ true
free_fits v A p j f i k =
    let few = others_one v p i (base v A) (ascending_distinct (base v A) (base_up v A)) in
    and_from (leb (count v (base v A) i) (most_at v A i)) _ (le-leb _ _ (omega (arith, few, f.below i k))) (alone i k)
  where
    alone : (i : Item) → In i (items v p) → (is_piece i || leb (count v (base v A) i) 1) ≡ true
    alone (Piece n) k = refl
    alone (Cell s) k =
        let T = base v A in
        let few = others_one v p (Cell s) T (ascending_distinct T (base_up v A)) in
        elim (cases_Bool (list_any (λ r. has_item v r (Cell s) && not (eqb r p)) T)) [
          | inl y ↦
              let r = any_in (λ r. has_item v r (Cell s) && not (eqb r p)) T y in
              let two = and_parts (has_item v r.0 (Cell s)) (not (eqb r.0 p)) r.2 in
              let apart : eqb p r.0 ≡ false = ne_eqb p r.0 (λ e. both_ways (eqb r.0 p) (not-true _ two.1) (eq-eqb r.0 p (sym e))) in
              let share = sharing (slice_get v.placements p) (slice_get v.placements r.0) s k (has_in v r.0 (Cell s) two.0) in
              absurd (both_ways (list_any (λ r. conflicts v p r) T) f.apart (any_from (λ r. conflicts v p r) T r.0 r.1 (and_from (not (eqb p r.0)) _ (not_from_false _ apart) share)))
          | inr n ↦ le-leb _ _ (omega (arith, few, tally_none (λ r. has_item v r (Cell s) && not (eqb r p)) T (λ r l. false_from_ne_true _ (λ e. both_ways _ n (any_from (λ r. has_item v r (Cell s) && not (eqb r p)) T r l e)))))
        ]

-- a member is a placement of the design that is not ruled out if and only if its items fit and it is not dead
pub right_counted : (v : View) (A : List Atom) (p : ℕ) → mem (base v A) p ≡ true → (items_fit v A p && not (dead v A p)) ≡ (mem v.live p && not (ruled_out v A p))
right_counted v A p m =
    let j = mem_in (base v A) p m in
    same_truth _ _
    (λ e.
    let two = and_parts (items_fit v A p) (not (dead v A p)) e in
    let alive = or_parts (not (mem v.live p)) (list_any (λ a. lacks a p) A) (not-true _ two.1) in
    let f = few_free v A p j alive.1 (λ i k. fit_parts v A i (all_in (λ i. item_fits v A i) (items v p) two.0 i k)) in
    and_from (mem v.live p) _ (yes_from (mem v.live p) alive.0) (not_from_false _ (ruled_by v A p f)))
    (λ e.
    let two = and_parts (mem v.live p) (not (ruled_out v A p)) e in
    let f = free_of v A p (not-true _ two.1) in
    and_from (items_fit v A p) _ (all_from (λ i. item_fits v A i) (items v p) (λ i k. free_fits v A p j f i k)) (not_from_false _ (ap (λ b. not b || list_any (λ a. lacks a p) A) two.0 ∙ f.named)))
  where
    yes_from : (b : Bool) → not b ≡ false → b ≡ true
    yes_from true e = refl
    yes_from false e = sym e

-- in a consistent base, each member is that
pub member_right : (v : View) (A : List Atom) (p : ℕ) → is_consistent v A ≡ true → mem (base v A) p ≡ true → (mem v.live p && not (ruled_out v A p)) ≡ true
member_right v A p s m = all_in (λ q. mem v.live q && not (ruled_out v A q)) (base v A) s p (mem_in (base v A) p m)

-- a placement that is neither open nor a member isn't that
pub outside_wrong : (v : View) (A : List Atom) (p : ℕ) → mem (base v A) p ≡ false → (mem v.live p ≡ true → open_in v A p ≡ false) → false ≡ (mem v.live p && not (ruled_out v A p))
outside_wrong v A p m closed = sym (false_from_ne_true _ (λ e.
    let two = and_parts (mem v.live p) (not (ruled_out v A p)) e in
    both_ways (open_in v A p) (closed two.0) (and_from (not (mem (base v A) p)) _ (not_from_false _ m) two.1)))
