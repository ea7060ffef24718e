-- The base: steps put members in, and undoing the steps takes them out.
use Rattle.std.proofs.Common.{◌≡◌, ℕ, zero, suc, ◌+◌, ◌-◌, ◌<◌, ◌≤◌, Bool, true, false, cond, ◌||◌, eqb, ltb, List, [], ◌∷◌, ◌++◌, inl, inr, refl, sym, ap, ◌∙◌, arith, length, get_or, take, drop, length-append, length-take, get_or-set_other, get_or-set_same}
use Rattle.std.proofs.lemmas.Bool.{both_ways, cases_Bool, cases_eq, cases_lt, eq-eqb, ne_eqb}
use Rattle.std.proofs.Math.ListN.{set}
use Rattle.std.proofs.Math.Seq.{get_or-append_seam}
use Rattle.std.proofs.lemmas.List.{ext_get_or, get_or-append-add, get_or-drop, get_or-take, get_or_append_left, length-drop, length-set, take-append-le, take_all, take_more}
use Rattle.poly_tiling.specs.Lists.{mem, put, put_all}
use Rattle.poly_tiling.specs.Puzzle.{View}
use Rattle.poly_atom.specs.declared.atom.Atom.{Atom}
use Rattle.poly_atom.specs.declared.atom.Atom.TheVariants.{AtLeast, AtMost, Has, Lacks}
use Rattle.poly_atom.specs.Hopeless.{asked, base}
use Rattle.poly_frame.specs.FrameMembers.{SizesShow, without}
use Rattle.poly_frame.proofs.Steps.{base_leave, base_pick}
use Rattle.poly_frame.proofs.FramePicks.{base_again}

set_apart : (ys : List ℕ) (k p i : ℕ) → (i ≡ k → ⊥) → get_or (set ys k p) i 0 ≡ get_or ys i 0
set_apart ys k p i ne = rw get_or-set_other refl

set_there : (ys : List ℕ) (k p i : ℕ) → k < length ys → i ≡ k → get_or (set ys k p) i 0 ≡ p
set_there ys k p i h e = ap (λ m. get_or (set ys k p) m 0) e ∙ rw get_or-set_same refl

-- the later numbers move up by one, into a place that was added, and p stands where they began
pub inserted : (xs ys : List ℕ) (k n p : ℕ) → n ≡ length xs → k ≤ n → length ys ≡ n + 1 → ((i : ℕ) → i < k → get_or ys i 0 ≡ get_or (xs ++ p ∷ []) i 0) →
    ((i : ℕ) → k + 1 ≤ i → i < k + 1 + (n - k) → get_or ys i 0 ≡ get_or (xs ++ p ∷ []) (k + (i - (k + 1))) 0) → set ys k p ≡ take k xs ++ p ∷ drop k xs
inserted xs ys k n p whole inside same below above =
    let front : length (take k xs) ≡ k = omega (arith, length-take k xs, whole, inside) in
    let size : length (set ys k p) ≡ n + 1 = length-set ys k p ∙ same in
    let all = take k xs ++ p ∷ drop k xs in
    ext_get_or 0 (set ys k p) all (omega (arith, size, front, length-append (take k xs) (p ∷ drop k xs), length-drop k xs, whole, inside)) (λ i h. elim (cases_lt i k) [
      | inl l ↦
          set_apart ys k p i (λ e. absurd (omega (arith, l, e))) ∙ below i l ∙ get_or_append_left xs (p ∷ []) 0 i (omega (arith, l, inside, whole))
          ∙ sym (get_or_append_left (take k xs) (p ∷ drop k xs) 0 i (omega (arith, l, front)) ∙ get_or-take k xs i 0 l)
      | inr g ↦ elim (cases_eq i k) [
        | inl e ↦
            set_there ys k p i (omega (arith, same, inside)) e
            ∙ sym (ap (λ m. get_or all m 0) (e ∙ sym front) ∙ get_or-append_seam (take k xs) p (drop k xs) 0)
        | inr ne ↦
            let m = i - (k + 1) in
            let on : k + suc m ≡ i = omega (arith, g, ne) in
            set_apart ys k p i ne ∙ above i (omega (arith, g, ne)) (omega (arith, h, size, inside)) ∙ get_or_append_left xs (p ∷ []) 0 (k + m) (omega (arith, on, h, size, whole))
            ∙ sym (ap (λ x. get_or all x 0) (sym on) ∙ ap (λ x. get_or all (x + suc m) 0) (sym front) ∙ get_or-append-add (take k xs) (p ∷ drop k xs) (suc m) 0 ∙ get_or-drop k xs m 0)
      ]
    ])

-- removing the first occurrence of a number leaves what is before and after its index
where_it_stands : (p : ℕ) (xs : List ℕ) (k : ℕ) → k < length xs → ((j : ℕ) → j < k → eqb p (get_or xs j 0) ≡ false) → eqb p (get_or xs k 0) ≡ true → without p xs ≡ take k xs ++ drop (suc k) xs
where_it_stands p [] k h out e = absurd (omega arith)
where_it_stands p (x ∷ xs) zero h out e = ap (λ b. cond b xs (x ∷ without p xs)) e
where_it_stands p (x ∷ xs) (suc k) h out e =
    ap (λ b. cond b xs (x ∷ without p xs)) (out zero (omega arith)) ∙ ap (λ ys. x ∷ ys) (where_it_stands p xs k (omega arith) (λ j l. out (suc j) (omega arith)) e)

pub without_at : (p : ℕ) (xs : List ℕ) (k : ℕ) → k < length xs → ((j : ℕ) → j < k → eqb p (get_or xs j 0) ≡ false) → eqb p (get_or xs k 0) ≡ true → without p xs ≡ take k xs ++ drop (k + 1) xs
without_at p xs k h out e = where_it_stands p xs k h out e ∙ ap (λ n. take k xs ++ drop n xs) next
  where
    next : suc k ≡ k + 1
    next = omega arith

pub without_none : (p : ℕ) (xs : List ℕ) → ((j : ℕ) → j < length xs → eqb p (get_or xs j 0) ≡ false) → without p xs ≡ xs
without_none p [] out = refl
without_none p (x ∷ xs) out = ap (λ b. cond b xs (x ∷ without p xs)) (out zero (omega arith)) ∙ ap (λ ys. x ∷ ys) (without_none p xs (λ j l. out (suc j) (omega arith)))

or_parts : (a b : Bool) → (a || b) ≡ false → (a ≡ false) × (b ≡ false)
or_parts true b e = absurd (both_ways true e refl)
or_parts false b e = (refl, e)

turned : (p q : ℕ) → eqb q p ≡ false → eqb p q ≡ false
turned p q n = ne_eqb p q (λ e. both_ways (eqb q p) n (eq-eqb q p (sym e)))

-- if a list doesn't have a number, putting the number in and removing it gives the same list
pub without_put : (p : ℕ) (xs : List ℕ) → mem xs p ≡ false → without p (put p xs) ≡ xs
without_put p [] m = ap (λ b. cond b [] (p ∷ [])) (eq-eqb p p refl)
without_put p (x ∷ xs) m =
    let two = or_parts (eqb x p) (mem xs p) m in
    let apart : eqb p x ≡ false = turned p x two.0 in
    ap (λ b. without p (cond b (x ∷ xs) (cond (ltb p x) (p ∷ (x ∷ xs)) (x ∷ put p xs)))) apart ∙ placed (ltb p x) apart (without_put p xs two.1)
  where
    placed : (b : Bool) → eqb p x ≡ false → without p (put p xs) ≡ xs → without p (cond b (p ∷ (x ∷ xs)) (x ∷ put p xs)) ≡ x ∷ xs
    placed true apart rest = ap (λ b. cond b (x ∷ xs) (p ∷ without p (x ∷ xs))) (eq-eqb p p refl)
    placed false apart rest = ap (λ b. cond b (put p xs) (x ∷ without p (put p xs))) apart ∙ ap (λ ys. x ∷ ys) rest

longer : (p : ℕ) (xs : List ℕ) → mem xs p ≡ false → length (put p xs) ≡ length xs + 1
longer p [] m = refl
longer p (x ∷ xs) m =
    let two = or_parts (eqb x p) (mem xs p) m in
    ap (λ b. length (cond b (x ∷ xs) (cond (ltb p x) (p ∷ (x ∷ xs)) (x ∷ put p xs)))) (turned p x two.0) ∙ placed (ltb p x) (longer p xs two.1)
  where
    placed : (b : Bool) → length (put p xs) ≡ length xs + 1 → length (cond b (p ∷ (x ∷ xs)) (x ∷ put p xs)) ≡ length (x ∷ xs) + 1
    placed true rest = omega arith
    placed false rest = omega (arith, rest)

put_few : (p : ℕ) (xs : List ℕ) → length (put p xs) ≤ length xs + 1
put_few p [] = omega arith
put_few p (x ∷ xs) = which (eqb p x) (ltb p x) (put_few p xs)
  where
    which : (a b : Bool) → length (put p xs) ≤ length xs + 1 → length (cond a (x ∷ xs) (cond b (p ∷ (x ∷ xs)) (x ∷ put p xs))) ≤ length (x ∷ xs) + 1
    which true b h = omega arith
    which false true h = omega arith
    which false false h = omega (arith, h)

put_all_few : (ps xs : List ℕ) → length (put_all ps xs) ≤ length ps + length xs
put_all_few [] xs = omega arith
put_all_few (p ∷ ps) xs = omega (arith, put_few p (put_all ps xs), put_all_few ps xs)

asked_few : (A : List Atom) → length (asked A) ≤ length A
asked_few [] = omega arith
asked_few (Has p ∷ A) = omega (arith, asked_few A)
asked_few (Lacks p ∷ A) = omega (arith, asked_few A)
asked_few (AtLeast i n ∷ A) = omega (arith, asked_few A)
asked_few (AtMost i n ∷ A) = omega (arith, asked_few A)

pub base_few : (v : View) (A : List Atom) → length (base v A) ≤ length v.pins + length A
base_few v A = omega (arith, put_all_few (asked A) (put_all v.pins []), put_all_few v.pins [], asked_few A)

asked_other : (a : Atom) → ((p : ℕ) → a ≡ Has p → ⊥) → (A : List Atom) → asked (A ++ a ∷ []) ≡ asked A
asked_other (Has p) n A = absurd (n p refl)
asked_other (Lacks p) n A = still A
  where
    still : (A : List Atom) → asked (A ++ Lacks p ∷ []) ≡ asked A
    still [] = refl
    still (Has q ∷ A) = ap (λ xs. q ∷ xs) (still A)
    still (Lacks q ∷ A) = still A
    still (AtLeast i n ∷ A) = still A
    still (AtMost i n ∷ A) = still A
asked_other (AtLeast j m) n A = still A
  where
    still : (A : List Atom) → asked (A ++ AtLeast j m ∷ []) ≡ asked A
    still [] = refl
    still (Has q ∷ A) = ap (λ xs. q ∷ xs) (still A)
    still (Lacks q ∷ A) = still A
    still (AtLeast i n ∷ A) = still A
    still (AtMost i n ∷ A) = still A
asked_other (AtMost j m) n A = still A
  where
    still : (A : List Atom) → asked (A ++ AtMost j m ∷ []) ≡ asked A
    still [] = refl
    still (Has q ∷ A) = ap (λ xs. q ∷ xs) (still A)
    still (Lacks q ∷ A) = still A
    still (AtLeast i n ∷ A) = still A
    still (AtMost i n ∷ A) = still A

base_other : (v : View) (B : List Atom) (a : Atom) → ((p : ℕ) → a ≡ Has p → ⊥) → base v (B ++ a ∷ []) ≡ base v B
base_other v B a n = ap (λ xs. put_all xs (put_all v.pins [])) (asked_other a n B)

pub base_stays : (v : View) (A : List Atom) (p : ℕ) → base v A ≡ base v (A ++ Lacks p ∷ [])
base_stays v A p = sym (ap (λ xs. put_all xs (put_all v.pins [])) (base_leave v A p))

gone : (v : View) (B : List Atom) (p : ℕ) → (length (base v B) ≡ length (base v (B ++ Has p ∷ [])) → ⊥) → without p (base v (B ++ Has p ∷ [])) ≡ base v B
gone v B p n = elim (cases_Bool (mem (base v B) p)) [
  | inl m ↦ absurd (n (ap length (sym (base_again v B p m))))
  | inr m ↦ ap (λ xs. without p xs) (base_pick v B p) ∙ without_put p (base v B) m
]

same_size : (v : View) (B : List Atom) (a : Atom) → length (base v B) ≡ length (base v (B ++ a ∷ [])) → base v (B ++ a ∷ []) ≡ base v B
same_size v B (Has p) e = elim (cases_Bool (mem (base v B) p)) [
  | inl m ↦ base_again v B p m
  | inr m ↦ absurd (omega (arith, e, ap length (base_pick v B p), longer p (base v B) m))
]
same_size v B (Lacks p) e = base_other v B (Lacks p) (λ q f. cc)
same_size v B (AtLeast i n) e = base_other v B (AtLeast i n) (λ q f. cc)
same_size v B (AtMost i n) e = base_other v B (AtMost i n) (λ q f. cc)

-- the atoms, split at the last one
pub last_of : (A : List Atom) (a : Atom) → 0 < length A → a ≡ get_or A (length A - 1) a → A ≡ take (length A - 1) A ++ a ∷ []
last_of A a h e =
    let n = length A - 1 in
    let more : n + 1 ≡ length A = omega arith in
    sym (take_all (length A) A (omega arith)) ∙ ap (λ k. take k A) (sym more) ∙ take_more A n a (omega arith) ∙ ap (λ x. take n A ++ x ∷ []) (sym e)

-- the base before the last step
module _ (v : View) (A : List Atom) (first : ℕ) (sizes : List ℕ) (S : SizesShow v A first sizes) (some : first < length A) where
  last_size : get_or sizes (length sizes - 1) 0 ≡ length (base v (take (length A - 1) A))
  last_size = S.before (length sizes - 1) (omega (arith, S.steps)) ∙ ap (λ n. length (base v (take n A))) (omega (arith, S.steps))

  pub back_same : get_or sizes (length sizes - 1) 0 ≡ length (base v A) → base v A ≡ base v (take (length A - 1) A)
  back_same e =
      let n = length A - 1 in
      let a = get_or A n (Has 0) in
      let more : length A ≡ n + 1 = omega arith in
      let parts : A ≡ take n A ++ a ∷ [] = sym (take_all (length A) A (omega arith)) ∙ ap (λ k. take k A) more ∙ take_more A n (Has 0) (omega arith) in
      ap (λ (X : List Atom). base v X) parts ∙ same_size v (take n A) a (sym last_size ∙ e ∙ ap (λ (X : List Atom). length (base v X)) parts)

  back_gone : (p : ℕ) → Has p ≡ get_or A (length A - 1) (Has p) → (get_or sizes (length sizes - 1) 0 ≡ length (base v A) → ⊥) → without p (base v A) ≡ base v (take (length A - 1) A)
  back_gone p at n =
      let B = take (length A - 1) A in
      let parts = last_of A (Has p) (omega arith) at in
      ap (λ (X : List Atom). without p (base v X)) parts ∙ gone v B p (λ e. n (sym (sym e ∙ sym last_size) ∙ sym (ap (λ (X : List Atom). length (base v X)) parts)))

  back_other : (a : Atom) → a ≡ get_or A (length A - 1) a → ((p : ℕ) → a ≡ Has p → ⊥) → base v A ≡ base v (take (length A - 1) A)
  back_other a at n = ap (λ (X : List Atom). base v X) (last_of A a (omega arith) at) ∙ base_other v (take (length A - 1) A) a n

  -- if the last step changed the base, the base without the last atom's placement is the base before that step
  pub back_left : (a : Atom) → a ≡ get_or A (length A - 1) a → (get_or sizes (length sizes - 1) 0 ≡ length (base v A) → ⊥) → (old new : List ℕ) → old ≡ base v A →
      ((p : ℕ) → a ≡ Has p → new ≡ without p old) → (((p : ℕ) → a ≡ Has p → ⊥) → new ≡ old) → new ≡ base v (take (length A - 1) A)
  back_left (Has p) at n old new is asked other = asked p refl ∙ ap (λ xs. without p xs) is ∙ back_gone p at n
  back_left (Lacks p) at n old new is asked other = other (λ q f. cc) ∙ is ∙ back_other (Lacks p) at (λ q f. cc)
  back_left (AtLeast i m) at n old new is asked other = other (λ q f. cc) ∙ is ∙ back_other (AtLeast i m) at (λ q f. cc)
  back_left (AtMost i m) at n old new is asked other = other (λ q f. cc) ∙ is ∙ back_other (AtMost i m) at (λ q f. cc)

  pub back_sizes : SizesShow v (take (length A - 1) A) first (take (length sizes - 1) sizes)
  back_sizes =
      let shorter : length (take (length A - 1) A) ≡ length A - 1 = omega (arith, length-take (length A - 1) A) in
      let fewer : length (take (length sizes - 1) sizes) ≡ length sizes - 1 = omega (arith, length-take (length sizes - 1) sizes) in
      record {
        steps = omega (arith, shorter, fewer, S.steps);
        before = λ k h.
            get_take (length sizes - 1) sizes k (omega (arith, fewer)) ∙ S.before k (omega (arith, fewer))
            ∙ ap (λ (X : List Atom). length (base v X)) (sym (take_less (length A - 1) (first + k) A (omega (arith, fewer, S.steps))));
      }
    where
      get_take : (n : ℕ) (xs : List ℕ) (k : ℕ) → k < n → get_or (take n xs) k 0 ≡ get_or xs k 0
      get_take zero xs k h = absurd (omega arith)
      get_take (suc n) [] k h = refl
      get_take (suc n) (x ∷ xs) zero h = refl
      get_take (suc n) (x ∷ xs) (suc k) h = get_take n xs k (omega arith)

      take_less : (n m : ℕ) (xs : List Atom) → m ≤ n → take m (take n xs) ≡ take m xs
      take_less n zero xs h = refl
      take_less zero (suc m) xs h = absurd (omega arith)
      take_less (suc n) (suc m) [] h = refl
      take_less (suc n) (suc m) (x ∷ xs) h = ap (λ ys. x ∷ ys) (take_less n m xs (omega arith))

-- the sizes after one more step
pub sizes_more : (v : View) (A : List Atom) (first : ℕ) (sizes : List ℕ) (a : Atom) (n : ℕ) → SizesShow v A first sizes → n ≡ length (base v A) → SizesShow v (A ++ a ∷ []) first (sizes ++ n ∷ [])
sizes_more v A first sizes a n S e =
    record {
      steps = omega (arith, length-append A (a ∷ []), length-append sizes (n ∷ []), S.steps);
      before = λ k h. elim (cases_lt k (length sizes)) [
        | inl l ↦
            before_end sizes k l ∙ S.before k l
            ∙ ap (λ (X : List Atom). length (base v X)) (sym (take-append-le (first + k) A (a ∷ []) (omega (arith, S.steps))))
        | inr l ↦
            let top : k ≡ length sizes = omega (arith, h, l, length-append sizes (n ∷ [])) in
            ap (λ j. get_or (sizes ++ n ∷ []) j 0) top ∙ at_end sizes ∙ e
            ∙ ap (λ (X : List Atom). length (base v X)) (sym (take-append-le (first + k) A (a ∷ []) (omega (arith, S.steps, top)) ∙ take_all (first + k) A (omega (arith, S.steps, top))))
      ];
    }
  where
    at_end : (xs : List ℕ) → get_or (xs ++ n ∷ []) (length xs) 0 ≡ n
    at_end [] = refl
    at_end (x ∷ xs) = at_end xs

    before_end : (xs : List ℕ) (k : ℕ) → k < length xs → get_or (xs ++ n ∷ []) k 0 ≡ get_or xs k 0
    before_end [] k h = absurd (omega arith)
    before_end (x ∷ xs) zero h = refl
    before_end (x ∷ xs) (suc k) h = before_end xs k (omega arith)
