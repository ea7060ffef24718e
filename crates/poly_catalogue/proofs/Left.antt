-- Steps of the loops over the entries of a tiling, and what the index says about a number.
use Rattle.std.proofs.Common.{Bool, List, None, Option, Some, ap, arith, cond, eqb, false, get_or, inl, inr, leb, length, ltb, refl, slice_get, subst, sym, true, ℕ, ◌&&◌, ◌||◌, ◌+◌, ◌-◌, ◌<◌, ◌∙◌, ◌≡◌, ◌≤◌}
use Rattle.std.proofs.lemmas.Bool.{and_right, cases_lt, cond-false, le-ltb, lt-leb, or_from}
use Rattle.std.proofs.lemmas.Bool.Decides.{nat_tests}
use Rattle.std.proofs.lemmas.Option.{slice_get-get_or, slice_get_past}
use Rattle.poly_tiling.specs.Lists.{mem}
use Rattle.poly_tiling.proofs.Contained.{get_in, in_get}
use Rattle.poly_tiling.proofs.Lists.{in_mem, mem_in, same_truth}
use Rattle.poly_catalogue.specs.Index.{Agree, HasEntry, HasPart, IsIndex, IsPart, Once, TakesOver}
use Rattle.poly_catalogue.specs.Listed.{AreIndicesWith}
use Rattle.poly_catalogue.specs.Rows.{Puts, at, but, half, moved, over, row, span}
use Rattle.poly_catalogue.proofs.Agreed.{but_else, but_here, given, part_once, respects, taken, taken_over}
use Rattle.poly_catalogue.proofs.Single.{distinct_from, once_tally}
use Rattle.poly_catalogue.proofs.Spans.{half_all, half_none, over_moved, span_empty, span_grows, span_more, span_whole}

some_is : {X : Type 0} (x y : X) (o : Option X) → o ≡ Some x → o ≡ Some y → x ≡ y
some_is x y o a b = cc

none_some : {X : Type 0} (x : X) (o : Option X) → o ≡ None → o ≡ Some x → ⊥
none_some x o a b = cc

-- each tiling in a number's row has the number
pub has_number : (ts bs rs : List (List ℕ)) (p j t : ℕ) → HasPart ts bs rs → at rs p j ≡ Some t → mem (row ts t) p ≡ true
has_number ts bs rs p j t h e = let b = h.agree.backed p j t e in in_mem (row ts t) p (get_in (row ts t) b.0 p (h.part t b.0 p b.1))

-- the removal of an entry that is the last of its row
pub left_last : (ts bs rs new : List (List ℕ)) (t k p j n : ℕ) → Once (at ts) → at ts t k ≡ Some p → at bs t k ≡ Some j → n ≡ length (row rs p) → j + 1 ≡ n → Puts rs p (length (row rs p) - 1) None new →
    (numbers : ℕ → ℕ → Option ℕ) (q : ℕ) → IsPart numbers (at ts) → Agree numbers (at bs) (at rs) → numbers t k ≡ Some q → Agree (but numbers t k None) (at bs) (at new)
left_last ts bs rs new t k p j n once has back long last put numbers q part g here =
    let same : q ≡ p = some_is q p (at ts t k) (part t k q here) has in
    let e : length (row rs p) - 1 ≡ j = omega arith in
    respects (but numbers t k None) (at bs) (but (at rs) p j None) (but numbers t k None) (at bs) (at new)
    (taken numbers (at bs) (at rs) g (part_once numbers (at ts) part once) t k p j (subst (λ z. numbers t k ≡ Some z) same here) back)
    (λ a b. refl) (λ a b r h. refl) (λ a b. put a b ∙ ap (λ z. but (at rs) p z None a b) e)

-- the removal of an entry that isn't the last of its row
pub left_other : (ts bs rs bs1 rs1 rs2 : List (List ℕ)) (t k p j n : ℕ) → Once (at ts) → at ts t k ≡ Some p → at bs t k ≡ Some j → n ≡ length (row rs p) → (j + 1 ≡ n → ⊥) → TakesOver ts bs rs p j bs1 rs1 → Puts rs1 p (length (row rs1 p) - 1) None rs2 →
    (numbers : ℕ → ℕ → Option ℕ) (q : ℕ) → IsPart numbers (at ts) → Agree numbers (at bs) (at rs) → numbers t k ≡ Some q → Agree (but numbers t k None) (at bs1) (at rs2)
left_other ts bs rs bs1 rs1 rs2 t k p j n once has back long other takes put numbers q part g here =
    let same : q ≡ p = some_is q p (at ts t k) (part t k q here) has in
    let here1 : numbers t k ≡ Some p = subst (λ z. numbers t k ≡ Some z) same here in
    let e = g.entered t k p here1 in
    let le : j < length (row rs p) = low (row rs p) e.0 t e.2 (some_is e.0 j (at bs t k) e.1 back) in
    taken_over numbers (at ts) (at bs) (at rs) (at bs1) (at rs2) part once g t k p j (length (row rs p) - 1) takes.tiling takes.nth here1 back (λ z. other (omega arith)) takes.last takes.has takes.told
    (λ a b. put a b ∙ ap (λ z. but (at rs1) p (z - 1) None a b) takes.long ∙ inner a b)
  where
    low : (xs : List ℕ) (i x : ℕ) → slice_get xs i ≡ Some x → i ≡ j → j < length xs
    low xs i x s z = elim (cases_lt j (length xs)) [ inl l ↦ l | inr m ↦ absurd (none_some x (slice_get xs i) (slice_get_past xs i (omega arith)) s) ]

    inner : (a b : ℕ) → but (at rs1) p (length (row rs p) - 1) None a b ≡ but (but (at rs) p j (Some takes.tiling)) p (length (row rs p) - 1) None a b
    inner a b = ap (λ (z : Option ℕ). cond (eqb a p && eqb b (length (row rs p) - 1)) None z) (takes.put a b)

pub span_part : (f : ℕ → ℕ → Option ℕ) (i first end : ℕ) → IsPart (span f i first end) f
span_part f i first end a b p h = out (eqb a i && (ltb b first || leb end b)) h
  where
    out : (c : Bool) → cond c None (f a b) ≡ Some p → f a b ≡ Some p
    out true e = cc
    out false e = e

pub span_here : (f : ℕ → ℕ → Option ℕ) (i n end : ℕ) → n < end → span f i n end i n ≡ f i n
span_here f i n end l = cond-false (eqb i i && (ltb n n || leb end n)) None (f i n) (and_right (eqb i i) _ (or_from (ltb n n) (leb end n) (le-ltb n n (omega arith)) (lt-leb end n l)))

pub span_number : (ts : List (List ℕ)) (t n end : ℕ) → n < end → end ≤ length (row ts t) → span (at ts) t n end t n ≡ Some (get_or (row ts t) n 0)
span_number ts t n end l m = span_here (at ts) t n end l ∙ slice_get-get_or (row ts t) n 0 (omega arith)

pub has_entry : (ts bs rs : List (List ℕ)) (t n end : ℕ) → n < end → end ≤ length (row ts t) → Agree (span (at ts) t n end) (at bs) (at rs) → HasEntry ts bs rs t n
has_entry ts bs rs t n end l m g = record {
  numbers = span (at ts) t n end;
  part = span_part (at ts) t n end;
  agree = g;
  number = get_or (row ts t) n 0;
  here = span_number ts t n end l m;
}

pub left_more : (f B R : ℕ → ℕ → Option ℕ) (t n end : ℕ) → n < end → Agree (but (span f t n end) t n None) B R → Agree (span f t (n + 1) end) B R
left_more f B R t n end l g = respects (but (span f t n end) t n None) B R (span f t (n + 1) end) B R g (span_more f t n end l) (λ a b p h. refl) (λ a b. refl)

pub left_all : (f B R : ℕ → ℕ → Option ℕ) (t n end : ℕ) → n ≡ end → Agree (span f t n end) B R → Agree (span f t 0 0) B R
left_all f B R t n end e g = respects (span f t end end) B R (span f t 0 0) B R (subst (λ z. Agree (span f t z end) B R) e g) (λ a b. sym (span_empty f t end a b)) (λ a b p h. refl) (λ a b. refl)

pub span_next : (f : ℕ → ℕ → Option ℕ) (t n : ℕ) → span f t 0 n t n ≡ None
span_next f t n = grind (arith, nat_tests)

-- a new entry at the end of a number's row
pub entered : (ts bs rs bs1 rs1 : List (List ℕ)) (t k p j : ℕ) → at ts t k ≡ Some p → j ≡ length (row rs p) → Puts bs t k (Some j) bs1 → Puts rs p (length (row rs p)) (Some t) rs1 →
    (numbers : ℕ → ℕ → Option ℕ) → Agree numbers (at bs) (at rs) → numbers t k ≡ None → Agree (but numbers t k (at ts t k)) (at bs1) (at rs1)
entered ts bs rs bs1 rs1 t k p j has index told put numbers g lack =
    let g1 = respects numbers (at bs) (at rs) numbers (at bs1) (at rs) g (λ a b. refl) (λ a b q h. told a b ∙ but_else (at bs) t k (Some j) a b (λ z. none_some q (numbers a b) (let x : numbers a b ≡ numbers t k = λ i. numbers (z.0 i) (z.1 i) in x ∙ lack) h)) (λ a b. refl) in
    let g2 = given numbers (at bs1) (at rs) g1 t k p j lack (told t k ∙ but_here (at bs) t k (Some j) t k refl refl) (slice_get_past (row rs p) j (omega arith)) in
    respects (but numbers t k (Some p)) (at bs1) (but (at rs) p j (Some t)) (but numbers t k (at ts t k)) (at bs1) (at rs1) g2
    (λ a b. ap (λ o. but numbers t k o a b) has) (λ a b q h. refl) (λ a b. put a b ∙ ap (λ z. but (at rs) p z (Some t) a b) (sym index))

-- the position of a number that has no entry may be anything
pub told_only : (bs rs bs1 : List (List ℕ)) (t k : ℕ) (o : Option ℕ) → Puts bs t k o bs1 →
    (numbers : ℕ → ℕ → Option ℕ) → Agree numbers (at bs) (at rs) → numbers t k ≡ None → Agree numbers (at bs1) (at rs)
told_only bs rs bs1 t k o told numbers g lack =
    respects numbers (at bs) (at rs) numbers (at bs1) (at rs) g (λ a b. refl)
    (λ a b q h. told a b ∙ but_else (at bs) t k o a b (λ z. none_some q (numbers a b) (let x : numbers a b ≡ numbers t k = λ i. numbers (z.0 i) (z.1 i) in x ∙ lack) h))
    (λ a b. refl)

pub entered_more : (f B R : ℕ → ℕ → Option ℕ) (t n : ℕ) → Agree (but (span f t 0 n) t n (f t n)) B R → Agree (span f t 0 (n + 1)) B R
entered_more f B R t n g = respects (but (span f t 0 n) t n (f t n)) B R (span f t 0 (n + 1)) B R g (span_grows f t n) (λ a b p h. refl) (λ a b. refl)

pub entered_all : (ts : List (List ℕ)) (B R : ℕ → ℕ → Option ℕ) (t n : ℕ) → n ≡ length (row ts t) → Agree (span (at ts) t 0 n) B R → Agree (at ts) B R
entered_all ts B R t n e g = respects (span (at ts) t 0 n) B R (at ts) B R g (λ a b. sym (span_whole ts t n e a b)) (λ a b p h. refl) (λ a b. refl)

pub whole_span : (ts : List (List ℕ)) (B R : ℕ → ℕ → Option ℕ) (t n : ℕ) → n ≡ length (row ts t) → Agree (at ts) B R → Agree (span (at ts) t 0 n) B R
whole_span ts B R t n e g = respects (at ts) B R (span (at ts) t 0 n) B R g (λ a b. span_whole ts t n e a b) (λ a b p h. refl) (λ a b. refl)

over_else : (f B : ℕ → ℕ → Option ℕ) (from to a b p : ℕ) → span f to 0 0 a b ≡ Some p → over B from to a b ≡ B a b
over_else f B from to a b p h = grind (arith, nat_tests)

pub moves_first : (f B R : ℕ → ℕ → Option ℕ) (from to : ℕ) → Agree (span f to 0 0) B R → Agree (half f from to 0) (over B from to) R
moves_first f B R from to g = respects (span f to 0 0) B R (half f from to 0) (over B from to) R g (half_none f from to) (λ a b p h. over_else f B from to a b p h) (λ a b. refl)

pub moves_all : (ts : List (List ℕ)) (B R : ℕ → ℕ → Option ℕ) (from to n : ℕ) → length (row ts from) ≤ n → Agree (half (at ts) from to n) (over B from to) R → Agree (moved (at ts) from to) (moved B from to) R
moves_all ts B R from to n l g = respects (half (at ts) from to n) (over B from to) R (moved (at ts) from to) (moved B from to) R g (λ a b. sym (half_all ts from to n l a b))
    (λ a b p h. over_moved B (at ts) from to a b p (sym (half_all ts from to n l a b) ∙ h)) (λ a b. refl)

-- a number's row has the indices of the tilings that have the number
pub indices_with : (ts bs rs : List (List ℕ)) (p : ℕ) → IsIndex ts bs rs → AreIndicesWith ts p (row rs p)
indices_with ts bs rs p x = record {
  exact = λ t. same_truth (mem (row rs p) t) (mem (row ts t) p)
      (λ h. let i = in_get (row rs p) t (mem_in (row rs p) t h) in let b = x.agree.backed p i.0 t i.1 in in_mem (row ts t) p (get_in (row ts t) b.0 p b.1))
      (λ h. let i = in_get (row ts t) p (mem_in (row ts t) p h) in let e = x.agree.entered t i.0 p i.1 in in_mem (row rs p) t (get_in (row rs p) e.0 t e.2));
  apart = distinct_from (row rs p) (λ i j t a b.
      let u = x.agree.backed p i t a in
      let v = x.agree.backed p j t b in
      let k : u.0 ≡ v.0 = x.once t u.0 v.0 p u.1 v.1 in
      some_is i j (at bs t v.0) (sym (ap (λ z. at bs t z) k) ∙ u.2) v.2);
  once = λ t. once_tally (row ts t) p (λ k l a b. x.once t k l p a b);
}
