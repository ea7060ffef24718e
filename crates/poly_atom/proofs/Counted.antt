-- Tests and counts over the base of a list of atoms, without building the base.
use Rattle.std.proofs.lemmas.List.{at_drop_more}
use Rattle.std.proofs.Common.{Bool, List, [], ap, arith, cond, drop, eqb, false, get_or, inl, inr, length, ltb, not, refl, sym, true, ℕ, ◌&&◌, ◌+◌, ◌<◌, ◌||◌, ◌∙◌, ◌∷◌, ◌≡◌}
use Rattle.std.proofs.lemmas.Bool.{eqb-false, eqb-true, false_from_ne_true, ltb-true, or_cases, or_left, or_right}
use Rattle.std.specs.List.{list_any}
use Rattle.poly_tiling.specs.Lists.{ascending, distinct, mem, one, put, put_all, tally}
use Rattle.poly_tiling.specs.declared.item.Item.{Item}
use Rattle.poly_tiling.specs.Puzzle.{View, count, has_item}
use Rattle.poly_tiling.specs.Names.{WellNamed}
use Rattle.poly_tiling.proofs.Lists.{In, any_from, any_in, in_mem, mem_in, same_truth}
use Rattle.poly_tiling.proofs.Ascending.{ascending_rest, below_all, distinct_rest, in_put_all_left, in_put_all_right, not_head, put_all_in, put_all_up}
use Rattle.poly_tiling.proofs.Orders.{pins_once}
use Rattle.poly_atom.specs.declared.atom.Atom.{Atom}
use Rattle.poly_atom.specs.declared.atom.Atom.TheVariants.{AtLeast, AtMost, Has, Lacks}
use Rattle.poly_atom.specs.Hopeless.{asked, base}
use Rattle.poly_atom.specs.Counted.{adds, extra}

pub or_no : (b : Bool) → (b || false) ≡ b
or_no true = refl
or_no false = refl

-- whether some placement that is asked for passes a test can be seen atom by atom
pub any_asked : (f : ℕ → Bool) (A : List Atom) → list_any (λ a. list_any f (asked (a ∷ []))) A ≡ list_any f (asked A)
any_asked f [] = refl
any_asked f (Has p ∷ A) = ap (λ b. b || list_any (λ a. list_any f (asked (a ∷ []))) A) (or_no (f p)) ∙ ap (λ b. f p || b) (any_asked f A)
any_asked f (Lacks p ∷ A) = any_asked f A
any_asked f (AtLeast i n ∷ A) = any_asked f A
any_asked f (AtMost i n ∷ A) = any_asked f A

-- some member of the base passes a test exactly if some placement that is asked for or some pin passes it
pub any_base : (v : View) (A : List Atom) (f : ℕ → Bool) → list_any f (base v A) ≡ (list_any f (asked A) || list_any f v.pins)
any_base v A f = same_truth (list_any f (base v A)) (list_any f (asked A) || list_any f v.pins)
    (λ e. let x = any_in f (base v A) e in elim (put_all_in (asked A) (put_all v.pins []) x.0 x.1) [
      | inl j ↦ or_left (list_any f (asked A)) (list_any f v.pins) (any_from f (asked A) x.0 j x.2)
      | inr j ↦ elim (put_all_in v.pins [] x.0 j) [ inl k ↦ or_right (list_any f (asked A)) (list_any f v.pins) (any_from f v.pins x.0 k x.2) | inr k ↦ absurd k ]
    ])
    (λ e. elim (or_cases (list_any f (asked A)) (list_any f v.pins) e) [
      | inl a ↦ let x = any_in f (asked A) a in any_from f (base v A) x.0 (in_put_all_left (asked A) (put_all v.pins []) x.0 x.1) x.2
      | inr b ↦ let x = any_in f v.pins b in any_from f (base v A) x.0 (in_put_all_right (asked A) (put_all v.pins []) x.0 (in_put_all_left v.pins [] x.0 x.1)) x.2
    ])

one_no : (a : Bool) → one (a && false) ≡ 0
one_no true = refl
one_no false = refl

one_yes : (a : Bool) → one (a && true) ≡ one a
one_yes true = refl
one_yes false = refl

not_there : (p : ℕ) (qs : List ℕ) → ((q : ℕ) → In q qs → p < q) → mem qs p ≡ false
not_there p qs h = false_from_ne_true (mem qs p) (λ e. let l = h p (mem_in qs p e) in absurd (omega arith))

put_tally_at : (f : ℕ → Bool) (p q : ℕ) (qs : List ℕ) → ascending (q ∷ qs) ≡ true → tally f (put p qs) ≡ one (f p && not (mem qs p)) + tally f qs →
    (b c : Bool) → eqb p q ≡ b → ltb p q ≡ c → tally f (cond b (q ∷ qs) (cond c (p ∷ (q ∷ qs)) (q ∷ put p qs))) ≡ one (f p && not (mem (q ∷ qs) p)) + tally f (q ∷ qs)
put_tally_at f p q qs h ih true c e l =
    let here : mem (q ∷ qs) p ≡ true = in_mem (q ∷ qs) p (inl (sym (eqb-true p q e))) in
    omega (arith, ap (λ b. one (f p && not b)) here, one_no (f p))
put_tally_at f p q qs h ih false true e l =
    let a = ltb-true p q l in
    let none : mem (q ∷ qs) p ≡ false = not_there p (q ∷ qs) (λ r i. first r i) in
    omega (arith, ap (λ b. one (f p && not b)) none, one_yes (f p))
  where
    first : (r : ℕ) → In r (q ∷ qs) → p < r
    first r (inl k) = let a = ltb-true p q l in omega arith
    first r (inr j) = let a = ltb-true p q l in let b = below_all q qs h r j in omega arith
put_tally_at f p q qs h ih false false e l =
    let other : mem (q ∷ qs) p ≡ mem qs p = ap (λ b. b || mem qs p) (false_from_ne_true (eqb q p) (λ k. eqb-false p q e (sym (eqb-true q p k)))) in
    omega (arith, ih, ap (λ b. one (f p && not b)) other)

-- putting a number into an ascending list raises the count by one if the number passes the test and is new, else by nothing
pub put_tally : (f : ℕ → Bool) (p : ℕ) (qs : List ℕ) → ascending qs ≡ true → tally f (put p qs) ≡ one (f p && not (mem qs p)) + tally f qs
put_tally f p [] h = omega (arith, one_yes (f p))
put_tally f p (q ∷ qs) h = put_tally_at f p q qs h (put_tally f p qs (ascending_rest q qs h)) (eqb p q) (ltb p q) refl refl

pub mem_put_all : (ps qs : List ℕ) (x : ℕ) → mem (put_all ps qs) x ≡ (mem ps x || mem qs x)
mem_put_all ps qs x = same_truth (mem (put_all ps qs) x) (mem ps x || mem qs x)
    (λ e. elim (put_all_in ps qs x (mem_in (put_all ps qs) x e)) [ inl i ↦ or_left (mem ps x) (mem qs x) (in_mem ps x i) | inr i ↦ or_right (mem ps x) (mem qs x) (in_mem qs x i) ])
    (λ e. elim (or_cases (mem ps x) (mem qs x) e) [
      | inl a ↦ in_mem (put_all ps qs) x (in_put_all_left ps qs x (mem_in ps x a))
      | inr b ↦ in_mem (put_all ps qs) x (in_put_all_right ps qs x (mem_in qs x b))
    ])

-- if a list has no repeats, putting its numbers into an ascending list doesn't change how many of them pass a test
once_tally : (f : ℕ → Bool) (ps : List ℕ) → distinct ps ≡ true → tally f (put_all ps []) ≡ tally f ps
once_tally f [] d = refl
once_tally f (p ∷ ps) d =
    let fresh : mem (put_all ps []) p ≡ false = mem_put_all ps [] p ∙ or_no (mem ps p) ∙ false_from_ne_true (mem ps p) (λ e. not_head p ps d (mem_in ps p e)) in
    omega (arith, put_tally f p (put_all ps []) (put_all_up ps [] refl), ap (λ b. one (f p && not b)) fresh, one_yes (f p), once_tally f ps (distinct_rest p ps d))

neither : (a b c : Bool) → (a && not (b || c)) ≡ (a && not b && not c)
neither true true c = refl
neither true false c = refl
neither false b c = refl

-- the count over the base is the count over the pins plus what the atoms add
pub count_base : (v : View) (A : List Atom) (i : Item) → WellNamed v → count v v.pins i + extra v A i ≡ count v (base v A) i
count_base v [] i w = omega (arith, once_tally (λ p. has_item v p i) v.pins (pins_once v w))
count_base v (Has p ∷ A) i w =
    let known : mem (base v A) p ≡ (mem (asked A) p || mem v.pins p) = mem_put_all (asked A) (put_all v.pins []) p ∙ ap (λ b. mem (asked A) p || b) (mem_put_all v.pins [] p ∙ or_no (mem v.pins p)) in
    let new = ap (λ b. one (has_item v p i && not b)) known ∙ ap one (neither (has_item v p i) (mem (asked A) p) (mem v.pins p)) in
    omega (arith, put_tally (λ q. has_item v q i) p (base v A) (put_all_up (asked A) (put_all v.pins []) (put_all_up v.pins [] refl)), new, count_base v A i w)
count_base v (Lacks p ∷ A) i w = omega (arith, count_base v A i w)
count_base v (AtLeast j n ∷ A) i w = omega (arith, count_base v A i w)
count_base v (AtMost j n ∷ A) i w = omega (arith, count_base v A i w)

-- what the atoms from index n on add is what atom n adds plus what the later atoms add
pub extra_more : (v : View) (A : List Atom) (n : ℕ) (i : Item) (a : Atom) (rest : List Atom) → n < length A → a ≡ get_or A n a → rest ≡ drop (n + 1) A →
    extra v (drop n A) i ≡ one (adds v a rest i) + extra v (drop (n + 1) A) i
extra_more v A n i a rest h is e =
    at_drop_more (λ t. extra v t i) A n a h ∙ ap (λ b. one (adds v b (drop (n + 1) A) i) + extra v (drop (n + 1) A) i) (sym is) ∙ ap (λ t. one (adds v a t i) + extra v (drop (n + 1) A) i) (sym e)
