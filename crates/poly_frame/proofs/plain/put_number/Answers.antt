use Rattle.std.proofs.Common.{Vec, Global, List, [], append_assoc, arith, ap, cond, drop, drop-cons, get_or, length, ltb, refl, subst, suc, sym, take, vec_capacity, vec_len, ℕ, ◌++◌, ◌+◌, ◌<◌, ◌∙◌, ◌∷◌, ◌≡◌, ◌≤◌}
use Rattle.std.proofs.Math.ListN.{drop_of_length-le}
use Rattle.std.proofs.Math.Seq.{take-suc}
use Rattle.std.proofs.lemmas.Bool.{eq-eqb, le-ltb, lt-ltb, ne_eqb}
use Rattle.std.proofs.lemmas.Grind.{get_or_default_zero}
use Rattle.std.proofs.lemmas.List.{take-append-drop, take_all}
use Rattle.poly_tiling.specs.Lists.{put}
use Rattle.poly_frame.proofs.plain.put_number.Goals as goal

put_same : (p : ℕ) (qs : List ℕ) → put p (p ∷ qs) ≡ p ∷ qs
put_same p qs = ap (λ b. cond b (p ∷ qs) (cond (ltb p p) (p ∷ (p ∷ qs)) (p ∷ put p qs))) (eq-eqb p p refl)

put_before : (p x : ℕ) (qs : List ℕ) → p < x → put p (x ∷ qs) ≡ p ∷ (x ∷ qs)
put_before p x qs h =
    ap (λ b. cond b (x ∷ qs) (cond (ltb p x) (p ∷ (x ∷ qs)) (x ∷ put p qs))) (ne_eqb p x (λ e. absurd (omega (arith, h, e))))
    ∙ ap (λ b. cond b (p ∷ (x ∷ qs)) (x ∷ put p qs)) (lt-ltb p x h)

put_after : (p x : ℕ) (qs : List ℕ) → x < p → put p (x ∷ qs) ≡ x ∷ put p qs
put_after p x qs h =
    ap (λ b. cond b (x ∷ qs) (cond (ltb p x) (p ∷ (x ∷ qs)) (x ∷ put p qs))) (ne_eqb p x (λ e. absurd (omega (arith, h, e))))
    ∙ ap (λ b. cond b (p ∷ (x ∷ qs)) (x ∷ put p qs)) (le-ltb p x (omega (arith, h)))

-- putting a number into the entries from k on, if the number is entry k, is below it, is above it, or if there is none
module _ (p : ℕ) (xs : List ℕ) (k : ℕ) where
  from_next : k < length xs → take k xs ++ put p (drop k xs) ≡ take k xs ++ put p (get_or xs k 0 ∷ drop (suc k) xs)
  from_next h = ap (λ (ys : List ℕ). take k xs ++ put p ys) (drop-cons xs k 0 h)

  here : k < length xs → p ≡ get_or xs k 0 → take k xs ++ put p (drop k xs) ≡ xs
  here h e =
      from_next h
      ∙ ap (λ (y : ℕ). take k xs ++ put p (y ∷ drop (suc k) xs)) (sym e)
      ∙ ap (λ (ys : List ℕ). take k xs ++ ys) (put_same p (drop (suc k) xs))
      ∙ ap (λ (y : ℕ). take k xs ++ (y ∷ drop (suc k) xs)) e
      ∙ ap (λ (ys : List ℕ). take k xs ++ ys) (sym (drop-cons xs k 0 h))
      ∙ take-append-drop k xs

  lower : k < length xs → p < get_or xs k 0 → take k xs ++ put p (drop k xs) ≡ take k xs ++ (p ∷ drop k xs)
  lower h l =
      from_next h
      ∙ ap (λ (ys : List ℕ). take k xs ++ ys) (put_before p (get_or xs k 0) (drop (suc k) xs) l)
      ∙ ap (λ (ys : List ℕ). take k xs ++ (p ∷ ys)) (sym (drop-cons xs k 0 h))

  higher : k < length xs → get_or xs k 0 < p → take k xs ++ put p (drop k xs) ≡ take (k + 1) xs ++ put p (drop (k + 1) xs)
  higher h g =
      let next : suc k ≡ k + 1 = omega arith in
      from_next h
      ∙ ap (λ (ys : List ℕ). take k xs ++ ys) (put_after p (get_or xs k 0) (drop (suc k) xs) g)
      ∙ sym (append_assoc (take k xs) (get_or xs k 0 ∷ []) (put p (drop (suc k) xs)))
      ∙ ap (λ (ys : List ℕ). ys ++ put p (drop (suc k) xs)) (sym (take-suc xs k 0 h))
      ∙ ap (λ (n : ℕ). take n xs ++ put p (drop n xs)) next

  ended : length xs ≤ k → take k xs ++ put p (drop k xs) ≡ xs ++ (p ∷ [])
  ended h =
      ap (λ (ys : List ℕ). ys ++ put p (drop k xs)) (take_all k xs h)
      ∙ ap (λ (ys : List ℕ). xs ++ put p ys) (drop_of_length-le xs h)

pub loop-k-init : goal.loop-k-init
loop-k-init c = record {
  same = refl;
  rest = refl;
}

pub index-requires : goal.index-requires
index-requires c = omega (arith, c.loop-k-test.true, c.len-k-end.ensures, ap (λ (v : Vec ℕ Global). vec_len v) c.loop-k.invariant.same)

pub index-requires-in-loop-k : goal.index-requires-in-loop-k
index-requires-in-loop-k c = omega (arith, c.loop-k-test.true, c.len-k-end.ensures, ap (λ (v : Vec ℕ Global). vec_len v) c.loop-k.invariant.same)

pub returns-then-number-index-clause-items : goal.returns-then-number-index-clause-items
returns-then-number-index-clause-items c =
    let p = c.args.number in
    let xs = c.loop-k.numbers.items in
    let k = c.loop-k.k in
    let same = c.loop-k.invariant.same in
    let h : k < length xs = omega (arith, c.loop-k-test.true, c.len-k-end.ensures ∙ c.args.numbers.now.ok.0 ∙ sym (ap (λ (v : Vec ℕ Global). length v.items) same)) in
    let one = c.index.ensures ∙ get_or_default_zero xs k c.index.result.now h in
    sym (c.loop-k.invariant.rest ∙ here p xs k h (c.if-number-index.true ∙ one)) ∙ ap (λ (v : Vec ℕ Global). put p v.items) same

pub returns-then-number-index-clause-len : goal.returns-then-number-index-clause-len
returns-then-number-index-clause-len c = omega (arith, ap (λ (v : Vec ℕ Global). vec_len v) c.loop-k.invariant.same)

pub returns-then-number-index-clause-room : goal.returns-then-number-index-clause-room
returns-then-number-index-clause-room c = omega (arith, ap (λ (v : Vec ℕ Global). vec_capacity v) c.loop-k.invariant.same)

pub insert_at-requires-clause-inside : goal.insert_at-requires-clause-inside
insert_at-requires-clause-inside c = omega (arith, c.loop-k-test.true, c.len-k-end.ensures ∙ c.args.numbers.now.ok.0 ∙ sym (ap (λ (v : Vec ℕ Global). length v.items) c.loop-k.invariant.same))

pub insert_at-requires-clause-room : goal.insert_at-requires-clause-room
insert_at-requires-clause-room c = subst (λ (v : Vec ℕ Global). vec_len v < vec_capacity v) (sym c.loop-k.invariant.same) c.requires

pub push_reserved-requires : goal.push_reserved-requires
push_reserved-requires c = subst (λ (v : Vec ℕ Global). vec_len v < vec_capacity v) (sym c.loop-k.invariant.same) c.requires

pub returns-then-number-index-2-clause-items : goal.returns-then-number-index-2-clause-items
returns-then-number-index-2-clause-items c =
    let p = c.args.number in
    let xs = c.loop-k.numbers.items in
    let k = c.loop-k.k in
    let same = c.loop-k.invariant.same in
    let h : k < length xs = omega (arith, c.loop-k-test.true, c.len-k-end.ensures ∙ c.args.numbers.now.ok.0 ∙ sym (ap (λ (v : Vec ℕ Global). length v.items) same)) in
    let one = c.index.ensures ∙ get_or_default_zero xs k c.index.result.now h in
    let two = c.index-in-loop-k.ensures ∙ get_or_default_zero xs k c.index-in-loop-k.result.now h in
    c.insert_at.ensures.items ∙ sym (c.loop-k.invariant.rest ∙ lower p xs k h (omega (arith, two, c.if-number-index-2.true))) ∙ ap (λ (v : Vec ℕ Global). put p v.items) same

pub returns-then-number-index-2-clause-len : goal.returns-then-number-index-2-clause-len
returns-then-number-index-2-clause-len c = omega (arith, c.insert_at.ensures.len, ap (λ (v : Vec ℕ Global). vec_len v) c.loop-k.invariant.same)

pub returns-then-number-index-2-clause-room : goal.returns-then-number-index-2-clause-room
returns-then-number-index-2-clause-room c = omega (arith, c.insert_at.ensures.room, ap (λ (v : Vec ℕ Global). vec_capacity v) c.loop-k.invariant.same)

pub loop-k-preserved : goal.loop-k-preserved
loop-k-preserved c =
    let p = c.args.number in
    let xs = c.loop-k.numbers.items in
    let k = c.loop-k.k in
    let same = c.loop-k.invariant.same in
    let h : k < length xs = omega (arith, c.loop-k-test.true, c.len-k-end.ensures ∙ c.args.numbers.now.ok.0 ∙ sym (ap (λ (v : Vec ℕ Global). length v.items) same)) in
    let one = c.index.ensures ∙ get_or_default_zero xs k c.index.result.now h in
    let two = c.index-in-loop-k.ensures ∙ get_or_default_zero xs k c.index-in-loop-k.result.now h in
    record {
      same = same;
      rest = c.loop-k.invariant.rest ∙ higher p xs k h (omega (arith, one, two, c.if-number-index.false, c.if-number-index-2.false));
    }

pub returns-clause-items : goal.returns-clause-items
returns-clause-items c =
    let p = c.args.number in
    let xs = c.loop-k.numbers.items in
    let k = c.loop-k.k in
    let same = c.loop-k.invariant.same in
    let h : length xs ≤ k = omega (arith, c.loop-k-test.false, c.len-k-end.ensures ∙ c.args.numbers.now.ok.0 ∙ sym (ap (λ (v : Vec ℕ Global). length v.items) same)) in
    c.push_reserved.ensures.items ∙ sym (c.loop-k.invariant.rest ∙ ended p xs k h) ∙ ap (λ (v : Vec ℕ Global). put p v.items) same

pub returns-clause-len : goal.returns-clause-len
returns-clause-len c = omega (arith, c.push_reserved.ensures.len, ap (λ (v : Vec ℕ Global). vec_len v) c.loop-k.invariant.same)

pub returns-clause-room : goal.returns-clause-room
returns-clause-room c = omega (arith, c.push_reserved.ensures.capacity, ap (λ (v : Vec ℕ Global). vec_capacity v) c.loop-k.invariant.same)
