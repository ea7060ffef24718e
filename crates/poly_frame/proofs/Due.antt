-- What holds if no item is due.
use Rattle.std.proofs.Common.{Bool, List, [], arith, false, inl, inr, max, nat_lt, not, subst, true, ℕ, ◌∙◌, ◌∷◌, ◌≡◌}
use Rattle.std.proofs.lemmas.Bool.{cases_Bool, cond-false, false_from_ne_true, ltb-true, not-true, or_parts}
use Rattle.std.specs.List.{list_all, list_any}
use Rattle.poly_tiling.specs.declared.item.Item.{Item}
use Rattle.poly_tiling.specs.Puzzle.{View, count, same_item}
use Rattle.poly_tiling.proofs.Lists.{all_in, any_in}
use Rattle.poly_tiling.proofs.Tilings.{bound_none, same_item_is}
use Rattle.poly_atom.specs.declared.atom.Atom.{Atom}
use Rattle.poly_atom.specs.declared.atom.Atom.TheVariants.{AtLeast, AtMost, Has, Lacks}
use Rattle.poly_frame.specs.Open.{least_at}
use Rattle.poly_frame.specs.Plain.{least_for, of_asked}

-- if an item isn't in the view and no atom asks for it, no member has to have the item
pub least_none : (v : View) (A : List Atom) (i : Item) → list_any (λ b. same_item b.item i) v.bounds ≡ false → list_any (least_for i) A ≡ false → least_at v A i ≡ 0
least_none v [] i n m = bound_none v.bounds i (λ b. b.least) n
least_none v (Has p ∷ A) i n m = least_none v A i n m
least_none v (Lacks p ∷ A) i n m = least_none v A i n m
least_none v (AtLeast j k ∷ A) i n m =
    let ms = or_parts (same_item j i) (list_any (least_for i) A) m in
    cond-false (same_item j i) (max k (least_at v A i)) (least_at v A i) ms.0 ∙ least_none v A i n ms.1
least_none v (AtMost j k ∷ A) i n m = least_none v A i n m

pub leasts_one : (f : Item → Bool) (i : Item) (a : Atom) → least_for i a ≡ true → of_asked f a ≡ true → f i ≡ true
leasts_one f i (Has p) s h = absurd (cc)
leasts_one f i (Lacks p) s h = absurd (cc)
leasts_one f i (AtLeast j n) s h = subst (λ k. f k ≡ true) (same_item_is j i s) h
leasts_one f i (AtMost j n) s h = absurd (cc)

-- if neither an item of the view nor an item that an atom asks for is due, no item is due
pub none_due : (v : View) (A : List Atom) (T : List ℕ) →
    list_all (λ b. not (nat_lt (count v T b.item) (least_at v A b.item))) v.bounds ≡ true →
    list_all (of_asked (λ i. not (nat_lt (count v T i) (least_at v A i)))) A ≡ true →
    (i : Item) → nat_lt (count v T i) (least_at v A i) ≡ false
none_due v A T bounds atoms i =
    let free = λ (k : Item). not (nat_lt (count v T k) (least_at v A k)) in
    elim (cases_Bool (list_any (λ b. same_item b.item i) v.bounds)) [
      | inl y ↦ let x = any_in (λ b. same_item b.item i) v.bounds y in not-true _ (subst (λ k. free k ≡ true) (same_item_is x.0.item i x.2) (all_in (λ b. free b.item) v.bounds bounds x.0 x.1))
      | inr n ↦ elim (cases_Bool (list_any (least_for i) A)) [
        | inl y ↦ let x = any_in (least_for i) A y in not-true _ (leasts_one free i x.0 x.2 (all_in (of_asked free) A atoms x.0 x.1))
        | inr m ↦ let e = least_none v A i n m in false_from_ne_true (nat_lt (count v T i) (least_at v A i)) (λ h. let l = ltb-true _ _ h in omega arith)
      ]
    ]
