-- Which tilings have no number that is gone, seen by flags.
use Rattle.std.proofs.Common.{Bool, List, [], ap, arith, eqb, false, filter, get_or, inl, inr, leb, length, not, refl, set, subst, sym, take, true, ℕ, ◌&&◌, ◌||◌, ◌+◌, ◌<◌, ◌∙◌, ◌∷◌, ◌≡◌}
use Rattle.std.proofs.lemmas.Bool.{and_from, and_parts, both_ways, cases_eq, eq-eqb, false_from_ne_true, le-leb, leb-true, ltb-true, ne_eqb, not-true, not_from_false}
use Rattle.std.proofs.lemmas.List.{get_or-set_other, get_or-set_same, length-set, take_more}
use Rattle.std.specs.List.{list_all}
use Rattle.std.specs.Prelude.{nat_lt}
use Rattle.poly_tiling.specs.Lists.{mem, one, tally}
use Rattle.poly_tiling.specs.Puzzle.{View, is_tiling}
use Rattle.poly_tiling.proofs.Lists.{In, all_in, any_append, any_from, any_none, in_mem, mem_in, same_truth, tally_none}
use Rattle.poly_tiling.proofs.Named.{tally_same_in}
use Rattle.poly_place.specs.declared.delta.Delta.{Delta}
use Rattle.poly_catalogue.specs.Catalogued.{HasFlags}
use Rattle.poly_catalogue.specs.Flags.{flagged, within}
use Rattle.poly_catalogue.specs.Listed.{AreOfEither}
use Rattle.poly_catalogue.specs.Stays.{has_gone, meets, passes}
use Rattle.poly_catalogue.proofs.Counted.{stay}
use Rattle.poly_catalogue.proofs.Sums.{length_filter}

or_none : (a : Bool) → a ≡ (a || false)
or_none true = refl
or_none false = refl

or_yes : (a b : Bool) → b ≡ true → (a || b) ≡ true
or_yes true b h = refl
or_yes false b h = h

-- if the first numbers are flagged and no others are, and one more is flagged
pub numbers_step : (ns : List ℕ) (i : ℕ) (old new : List Bool) → i < length ns → ((p : ℕ) → p < length old → get_or old p false ≡ mem (take i ns) p) → new ≡ set old (get_or ns i 0) true →
    (p : ℕ) → p < length new → get_or new p false ≡ mem (take (i + 1) ns) p
numbers_step ns i old new l h is p low =
    let q = get_or ns i 0 in
    let long : length new ≡ length old = ap length is ∙ length-set old q true in
    let more : mem (take (i + 1) ns) p ≡ (mem (take i ns) p || (eqb q p || false)) = ap (λ z. mem z p) (take_more ns i 0 l) ∙ any_append (λ y. eqb y p) (take i ns) (q ∷ []) in
    elim (cases_eq p q) [
      | inl e ↦
          ap (λ z. get_or z p false) is ∙ ap (λ z. get_or (set old q true) z false) e ∙ get_or-set_same old q true false (omega (arith, e, low, long))
          ∙ sym (more ∙ or_yes (mem (take i ns) p) (eqb q p || false) (ap (λ z. z || false) (eq-eqb q p (sym e))))
      | inr n ↦
          ap (λ z. get_or z p false) is ∙ get_or-set_other old q p true false n ∙ h p (omega (arith, low, long))
          ∙ or_none (mem (take i ns) p) ∙ ap (λ z. mem (take i ns) p || z) (sym (ap (λ z. z || false) (ne_eqb q p (λ e. n (sym e))))) ∙ sym more
    ]

-- a number that passes is counted
pub counted : (f : ℕ → Bool) (T : List ℕ) (p : ℕ) → In p T → f p ≡ true → 0 < tally f T
counted f [] p i h = absurd i
counted f (q ∷ T) p (inl e) h = omega (arith, ap one (ap f e ∙ h))
counted f (q ∷ T) p (inr i) h = omega (arith, counted f T p i h)

-- no number is flagged exactly if none is gone
unflagged : (x : Delta) (flags : List Bool) (T : List ℕ) → ((p : ℕ) → p < length flags → get_or flags p false ≡ mem x.gone.items p) → list_all (λ p. nat_lt p (length flags)) T ≡ true → within flags 0 0 T ≡ not (has_gone x T)
unflagged x flags T exact low =
    let f = λ (p : ℕ). mem x.gone.items p in
    let e : flagged flags T ≡ tally f T = tally_same_in (λ p. get_or flags p false) f T (λ p j. exact p (ltb-true p (length flags) (all_in (λ q. nat_lt q (length flags)) T low p j))) in
    same_truth (within flags 0 0 T) (not (has_gone x T))
    (λ h.
    let none = leb-true (flagged flags T) 0 (and_parts (leb 0 (flagged flags T)) (leb (flagged flags T) 0) h).1 in
    not_from_false (has_gone x T) (any_none (λ p. mem T p) x.gone.items (λ p i m. let c : 0 < tally f T = counted f T p (mem_in T p m) (in_mem x.gone.items p i) in let z : ⊥ = absurd (omega (arith, c, e, none)) in z)))
    (λ h.
    let n : tally f T ≡ 0 = tally_none f T (λ p i. false_from_ne_true (f p) (λ g. both_ways (has_gone x T) (not-true (has_gone x T) h) (any_from (λ q. mem T q) x.gone.items p (mem_in x.gone.items p g) (in_mem T p i)))) in
    and_from (leb 0 (flagged flags T)) (leb (flagged flags T) 0) (le-leb 0 (flagged flags T) (omega arith)) (le-leb (flagged flags T) 0 (omega (arith, n, e))))

-- the listed tilings that pass are the tilings of the view
pub passing : (w : View) (x : Delta) (flags : List Bool) (n : ℕ) (a : List (List ℕ)) → AreOfEither w x a → HasFlags a n → n ≡ length flags → ((p : ℕ) → p < length flags → get_or flags p false ≡ mem x.gone.items p) →
    tally (passes flags w x) a ≡ length (filter (is_tiling w) a)
passing w x flags n a of has en exact =
    tally_same_in (passes flags w x) (is_tiling w) a (λ T i.
    let low = subst (λ z. list_all (λ p. nat_lt p z) T ≡ true) en (all_in (λ U. list_all (λ p. nat_lt p n) U) a has.low T i) in
    ap (λ z. z && meets w x T) (unflagged x flags T exact low) ∙ sym (stay w x a of T i))
    ∙ sym (length_filter (is_tiling w) a)
