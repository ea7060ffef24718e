-- An index after a tiling was added or removed.
use Rattle.std.proofs.Common.{Bool, List, None, Option, Some, [], ap, arith, drop, get_or, inl, inr, length, refl, set, slice_get, subst, sym, take, true, ℕ, ◌++◌, ◌+◌, ◌-◌, ◌^◌, ◌<◌, ◌∙◌, ◌∷◌, ◌≡◌, ◌≤◌}
use Rattle.std.specs.Prelude.{nat_lt}
use Rattle.std.proofs.lemmas.Bool.{cases_eq, lt-ltb}
use Rattle.std.proofs.lemmas.Bool.Decides.{nat_tests}
use Rattle.std.proofs.lemmas.Option.{get_or_from_slice_get}
use Rattle.std.proofs.lemmas.List.{get_or-take, get_or_default, get_or_past, length-take-le, length_push, take_at, take-set-le, take-take}
use Rattle.std.proofs.lemmas.List.Sums.{sum_by-cons, sum_by-swap_remove}
use Rattle.std.specs.List.{list_all, sum_by, swap_remove}
use Rattle.poly_tiling.specs.Lists.{ascending, one, tally}
use Rattle.poly_tiling.proofs.Contained.{get_low}
use Rattle.poly_tiling.proofs.Lists.{all_from, in_mem}
use Rattle.poly_catalogue.specs.Index.{Agree, IsIndex, Once}
use Rattle.poly_catalogue.specs.Rows.{at, moved, row, span}
use Rattle.poly_catalogue.proofs.Agreed.{respects}
use Rattle.poly_catalogue.proofs.Sought.{ascending_once, last_greatest}
use Rattle.poly_catalogue.proofs.Swaps.{last_at, length_swap_remove, swapped_at, swapped_once}
use Rattle.poly_catalogue.proofs.Written.{row_before, row_pushed, some_low}

none_some : {X : Type 0} (x : X) (o : Option X) → o ≡ None → o ≡ Some x → ⊥
none_some x o a b = cc

-- a Vec that was lent as a slice
pub lent : {X : Type 0} (xs ys : List X) (n : ℕ) → length xs ≡ n → take n (xs ++ drop (length xs) ys) ≡ xs
lent xs ys n e = take_at xs (drop (length xs) ys) n e

pub pushed_once : (ts : List (List ℕ)) (T : List ℕ) → Once (at ts) → ascending T ≡ true → Once (at (ts ++ T ∷ []))
pushed_once ts T once up t k l p a b = elim (cases_eq t (length ts)) [
  | inl e ↦
      let is : row (ts ++ T ∷ []) t ≡ T = ap (λ z. row (ts ++ T ∷ []) z) e ∙ row_pushed ts T in
      ascending_once T up k l p (sym (ap (λ r. slice_get r k) is) ∙ a) (sym (ap (λ r. slice_get r l) is) ∙ b)
  | inr n ↦
      let is : row (ts ++ T ∷ []) t ≡ row ts t = row_before ts T t n in
      once t k l p (sym (ap (λ r. slice_get r k) is) ∙ a) (sym (ap (λ r. slice_get r l) is) ∙ b)
]

span_at : (ts : List (List ℕ)) (T : List ℕ) (a b : ℕ) → span (at (ts ++ T ∷ [])) (length ts) 0 0 a b ≡ at ts a b
span_at ts T a b = elim (cases_eq a (length ts)) [
  | inl e ↦ none (ts ++ T ∷ []) a b e ∙ sym (ap (λ r. slice_get r b) (get_or_past ts a [] (omega arith)))
  | inr n ↦ other (ts ++ T ∷ []) a b n ∙ ap (λ r. slice_get r b) (row_before ts T a n)
]
  where
    none : (us : List (List ℕ)) (a b : ℕ) → a ≡ length ts → span (at us) (length ts) 0 0 a b ≡ None
    none us a b e = grind (arith, nat_tests)

    other : (us : List (List ℕ)) (a b : ℕ) → (a ≡ length ts → ⊥) → span (at us) (length ts) 0 0 a b ≡ at us a b
    other us a b n = grind (arith, nat_tests)

-- a tiling is added, without entries yet
pub pushed_agree : (ts bs bs1 rs rs1 : List (List ℕ)) (T : List ℕ) (n : ℕ) → n ≡ length ts → Agree (at ts) (at bs) (at rs) → ((a b p : ℕ) → at bs a b ≡ Some p → at bs1 a b ≡ Some p) → ((a b : ℕ) → at rs1 a b ≡ at rs a b) → Agree (span (at (ts ++ T ∷ [])) n 0 0) (at bs1) (at rs1)
pushed_agree ts bs bs1 rs rs1 T n e g kept same = respects (at ts) (at bs) (at rs) (span (at (ts ++ T ∷ [])) n 0 0) (at bs1) (at rs1) g
    (λ a b. ap (λ z. span (at (ts ++ T ∷ [])) z 0 0 a b) e ∙ span_at ts T a b) (λ a b p h. let r = g.entered a b p h in kept a b r.0 r.1 ∙ sym r.1) same

-- an index stays one if empty rows and further positions are added
pub same_index : (ts bs bs1 rs rs1 : List (List ℕ)) → IsIndex ts bs rs → length bs1 ≡ length bs → ((a b p : ℕ) → at bs a b ≡ Some p → at bs1 a b ≡ Some p) → ((a b : ℕ) → at rs1 a b ≡ at rs a b) → IsIndex ts bs1 rs1
same_index ts bs bs1 rs rs1 x even kept same = record {
  few = x.few;
  even = even ∙ x.even;
  once = x.once;
  agree = respects (at ts) (at bs) (at rs) (at ts) (at bs1) (at rs1) x.agree (λ a b. refl) (λ a b p h. let r = x.agree.entered a b p h in kept a b r.0 r.1 ∙ sym r.1) same;
}

-- once the new tiling has its entries, there is an index of the longer list
pub pushed_index : (ts bs bs1 rs : List (List ℕ)) (T : List ℕ) → length ts + 1 < 2 ^ 32 → Once (at ts) → ascending T ≡ true → length bs1 ≡ length ts + 1 → Agree (at (ts ++ T ∷ [])) (at bs1) (at rs) → IsIndex (ts ++ T ∷ []) bs1 rs
pushed_index ts bs bs1 rs T few once up even g = record {
  few = omega (arith, length_push ts T);
  even = even ∙ sym (length_push ts T);
  once = pushed_once ts T once up;
  agree = g;
}

-- the new tiling, which has no entries, is removed again
pub taken_back : (ts bs1 rs : List (List ℕ)) (T : List ℕ) (n : ℕ) → n ≡ length ts → n < 2 ^ 32 → Once (at ts) → n ≤ length bs1 → Agree (span (at (ts ++ T ∷ [])) n 0 0) (at bs1) (at rs) → IsIndex (take n (ts ++ T ∷ [])) (take n bs1) rs
taken_back ts bs1 rs T n e few once even g =
    let is : take n (ts ++ T ∷ []) ≡ ts = take_at ts (T ∷ []) n (sym e) in
    subst (λ us. IsIndex us (take n bs1) rs) (sym is) (record {
      few = omega arith;
      even = length-take-le n bs1 even ∙ e;
      once = once;
      agree = respects (span (at (ts ++ T ∷ [])) n 0 0) (at bs1) (at rs) (at ts) (at (take n bs1)) (at rs) g
          (λ a b. sym (ap (λ z. span (at (ts ++ T ∷ [])) z 0 0 a b) e ∙ span_at ts T a b))
          (λ a b p h.
          let low = (some_low ts a b p (sym (ap (λ z. span (at (ts ++ T ∷ [])) z 0 0 a b) e ∙ span_at ts T a b) ∙ h)).0 in
          ap (λ r. slice_get r b) (get_or-take n bs1 a [] (omega arith)))
          (λ a b. refl);
    })

-- if the last number of an ascending list is below m, so are all its numbers
pub all_below : (xs : List ℕ) (n m : ℕ) → ascending xs ≡ true → slice_get xs (length xs - 1) ≡ Some n → n < m → list_all (λ p. nat_lt p m) xs ≡ true
all_below xs n m up last low = all_from (λ p. nat_lt p m) xs (λ x i.
    let l = get_low xs (length xs - 1) n last in
    let g = last_greatest xs up (length xs - 1) x (omega arith) (in_mem xs x i) in
    let e = get_or_from_slice_get xs (length xs - 1) n 0 last in
    lt-ltb x m (omega arith))

swap_default : (xs : List (List ℕ)) (t : ℕ) (d e : List ℕ) → t < length xs → swap_remove xs t d ≡ swap_remove xs t e
swap_default xs t d e l = ap (λ z. take (length xs - 1) (set xs t z)) (get_or_default xs (length xs - 1) d e (omega arith))

-- the last tiling takes the index of another
pub renamed_index : (ts bs bs1 rs : List (List ℕ)) (t : ℕ) (T : List ℕ) → t < length ts → length ts < 2 ^ 32 → Once (at ts) → length bs ≡ length ts → length bs1 + 1 ≡ length bs → ((a b : ℕ) → at bs1 a b ≡ at (swap_remove bs t []) a b) →
    Agree (at (swap_remove ts t [])) (at (swap_remove bs t [])) (at rs) → IsIndex (swap_remove ts t T) bs1 rs
renamed_index ts bs bs1 rs t T l few once even less same g = record {
  few = omega (arith, length_swap_remove ts t T l);
  even = omega (arith, length_swap_remove ts t T l, even, less);
  once = swapped_once ts t T l once;
  agree =
      let a : swap_remove ts t T ≡ swap_remove ts t [] = swap_default ts t T [] l in
      subst (λ us. Agree (at us) (at bs1) (at rs)) (sym a)
      (respects (at (swap_remove ts t [])) (at (swap_remove bs t [])) (at rs) (at (swap_remove ts t [])) (at bs1) (at rs) g (λ a b. refl) (λ a b p h. same a b) (λ a b. refl));
}

pub last_stays : (ts bs rs : List (List ℕ)) (t : ℕ) → t + 1 ≡ length ts → length bs ≡ length ts → Agree (span (at ts) t 0 0) (at bs) (at rs) → Agree (at (swap_remove ts t [])) (at (swap_remove bs t [])) (at rs)
last_stays ts bs rs t e even g = respects (span (at ts) t 0 0) (at bs) (at rs) (at (swap_remove ts t [])) (at (swap_remove bs t [])) (at rs) g
    (λ a b. last_at ts t [] e a b)
    (λ a b p h. last_at bs t [] (omega arith) a b ∙ other a b p h)
    (λ a b. refl)
  where
    other : (a b p : ℕ) → span (at ts) t 0 0 a b ≡ Some p → span (at bs) t 0 0 a b ≡ at bs a b
    other a b p h = both (at ts) (at bs) a b p h
      where
        both : (f h : ℕ → ℕ → Option ℕ) (a b p : ℕ) → span f t 0 0 a b ≡ Some p → span h t 0 0 a b ≡ h a b
        both f h a b p e = grind (arith, nat_tests)

pub last_renamed : (ts bs rs : List (List ℕ)) (n t : ℕ) → n + 1 ≡ length ts → t < n → length bs ≡ length ts → Agree (moved (at ts) n t) (moved (at bs) n t) (at rs) → Agree (at (swap_remove ts t [])) (at (swap_remove bs t [])) (at rs)
last_renamed ts bs rs n t e l even g = respects (moved (at ts) n t) (moved (at bs) n t) (at rs) (at (swap_remove ts t [])) (at (swap_remove bs t [])) (at rs) g
    (λ a b. swapped_at ts t [] n e l a b) (λ a b p h. swapped_at bs t [] n (omega arith) l a b) (λ a b. refl)

-- a count is a sum; with this, the removal of a tiling lowers a count by one if the tiling passes, and else by nothing
tally_sum : {X : Type 0} (f : X → Bool) (xs : List X) → tally f xs ≡ sum_by (λ x. one (f x)) xs
tally_sum f [] = refl
tally_sum f (x ∷ xs) = ap (λ n. one (f x) + n) (tally_sum f xs) ∙ sym (sum_by-cons (λ x. one (f x)) x xs)

pub swap_tally : (f : List ℕ → Bool) (xs : List (List ℕ)) (t : ℕ) (d : List ℕ) → t < length xs → tally f (swap_remove xs t d) + one (f (row xs t)) ≡ tally f xs
swap_tally f xs t d l =
    let e : one (f (get_or xs t d)) ≡ one (f (row xs t)) = ap (λ z. one (f z)) (get_or_default xs t d [] l) in
    omega (arith, tally_sum f (swap_remove xs t d), tally_sum f xs, sum_by-swap_remove (λ x. one (f x)) xs t d l)

pub swap_before : (xs : List (List ℕ)) (t : ℕ) (d : List ℕ) → t < length xs → take t (swap_remove xs t d) ≡ take t xs
swap_before xs t d l = take-take t (length xs - 1) (set xs t (get_or xs (length xs - 1) d)) (omega arith) ∙ take-set-le t xs t (get_or xs (length xs - 1) d) (omega arith)

-- what holds for the three lists of an index holds for lists that are equal to them
pub agree_as : (F : List (List ℕ) → ℕ → ℕ → Option ℕ) (ts ts1 bs bs1 rs rs1 : List (List ℕ)) → ts1 ≡ ts → bs1 ≡ bs → rs1 ≡ rs → Agree (F ts) (at bs) (at rs) → Agree (F ts1) (at bs1) (at rs1)
agree_as F ts ts1 bs bs1 rs rs1 a b c g = subst (λ us. Agree (F us) (at bs1) (at rs1)) (sym a) (subst (λ us. Agree (F ts) (at us) (at rs1)) (sym b) (subst (λ us. Agree (F ts) (at bs) (at us)) (sym c) g))

pub index_as : (ts ts1 bs bs1 rs rs1 : List (List ℕ)) → ts1 ≡ ts → bs1 ≡ bs → rs1 ≡ rs → IsIndex ts bs rs → IsIndex ts1 bs1 rs1
index_as ts ts1 bs bs1 rs rs1 a b c g = subst (λ us. IsIndex us bs1 rs1) (sym a) (subst (λ us. IsIndex ts us rs1) (sym b) (subst (λ us. IsIndex ts bs us) (sym c) g))
