-- What Lacks atoms do to a list: they make it hopeless only by what it asks for, and by pins.
use Rattle.std.proofs.Common.{Bool, List, [], ap, append_assoc, arith, drop, false, get_or, inl, inr, length, map, not, refl, subst, suc, sym, take, true, zero, ℕ, ◌&&◌, ◌++◌, ◌+◌, ◌-◌, ◌<◌, ◌==◌, ◌∙◌, ◌∷◌, ◌≡◌, ◌≤◌, ◌||◌, ◌⊎◌}
use Rattle.std.proofs.lemmas.Bool.{and_from, and_parts, both_ways, cases_lt, eq-eqb, not-false, not-true, or_cases, or_left, or_right, true≢false}
use Rattle.std.proofs.Math.Seq.{get_or-append_seam}
use Rattle.std.proofs.lemmas.List.{append-nil, get_or_append_left, length-append, length-take-le, take-take, take_more}
use Rattle.std.proofs.lemmas.List.Elements.{filter-append}
use Rattle.std.specs.List.{filter, list_all, list_any}
use Rattle.std.specs.Prelude.{cond, nat_lt}
use Rattle.poly_tiling.specs.Lists.{distinct, mem, put_all}
use Rattle.poly_tiling.specs.Names.{WellNamed}
use Rattle.poly_tiling.specs.Puzzle.{View, conflicts, count, is_piece, items, least, most}
use Rattle.poly_tiling.proofs.Contained.{at_in}
use Rattle.poly_tiling.proofs.Listings.{distinct_filter}
use Rattle.poly_tiling.proofs.Lists.{In, all_append, all_from, all_in, any_append, any_from, any_in, any_none, in_append_cases, in_append_left, in_append_right, in_mem, map_in, mem_in, same_truth}
use Rattle.poly_tiling.proofs.Orders.{live_once}
use Rattle.poly_atom.specs.declared.atom.Atom.{Atom}
use Rattle.poly_atom.specs.declared.atom.Atom.TheVariants.{AtLeast, AtMost, Has, Lacks}
use Rattle.poly_atom.specs.Atoms.{negated}
use Rattle.poly_atom.specs.Guards.{guards, guards_least, guards_most, guards_pins}
use Rattle.poly_atom.specs.Hopeless.{asked, beyond, hopeless, lacks, lost}
use Rattle.poly_atom.specs.Logs.{IsStairOf, stair_of}
use Rattle.poly_atom.specs.Stairs.{stairs}
use Rattle.poly_atom.specs.declared.stair.Stair.{Stair}
use Rattle.poly_atom.proofs.Asked.{asked_append, found_is}
use Rattle.poly_atom.proofs.Bases.{asked_in, in_asked}
use Rattle.poly_atom.proofs.Walks.{stairs_at}
use Rattle.poly_lists.specs.Words.{is_other}
use Rattle.poly_tasks.specs.Judged.{AreAlone, AreCalm, AreJudged, AreLacks, AreRuledOut, IsSpoiler, LackOnce}
use Rattle.poly_tasks.proofs.Judging.{hopeless_within, judged_at, stair_next}

-- which atoms are lost or beyond depends only on what a list asks for
lost_same : (w : View) (A B : List Atom) (a : Atom) → asked A ≡ asked B → lost w A a ≡ lost w B a
lost_same w A B (Has p) e =
    ap (λ ps. not (mem w.live p) || list_any (λ q. conflicts w p q) (put_all ps (put_all w.pins [])) || list_any (λ i. is_piece i && nat_lt (most w i) (count w (put_all ps (put_all w.pins [])) i)) (items w p)) e
lost_same w A B (Lacks p) e = refl
lost_same w A B (AtLeast i n) e = refl
lost_same w A B (AtMost i n) e = refl

beyond_same : (w : View) (A B : List Atom) (a : Atom) → asked A ≡ asked B → beyond w A a ≡ beyond w B a
beyond_same w A B (Has p) e = refl
beyond_same w A B (Lacks p) e = ap (λ ps. mem w.pins p || mem ps p) e
beyond_same w A B (AtLeast i n) e = refl
beyond_same w A B (AtMost i n) e = refl

pub by_lost : (w : View) (A B : List Atom) (a : Atom) → asked A ≡ asked B → In a B → lost w A a ≡ true → hopeless w B ≡ true
by_lost w A B a e i h = sym (found_is w B B (λ p. refl)) ∙ or_left (list_any (λ b. lost w B b) B) (list_any (λ b. beyond w B b) B) (any_from (λ b. lost w B b) B a i (sym (lost_same w A B a e) ∙ h))

pub by_beyond : (w : View) (A B : List Atom) (a : Atom) → asked A ≡ asked B → In a B → beyond w A a ≡ true → hopeless w B ≡ true
by_beyond w A B a e i h = sym (found_is w B B (λ p. refl)) ∙ or_right (list_any (λ b. lost w B b) B) (list_any (λ b. beyond w B b) B) (any_from (λ b. beyond w B b) B a i (sym (beyond_same w A B a e) ∙ h))

-- without each Lacks, a list asks for the same
pub filter_asks : (A : List Atom) → asked (filter is_other A) ≡ asked A
filter_asks [] = refl
filter_asks (Has p ∷ A) = ap (λ ps. p ∷ ps) (filter_asks A)
filter_asks (Lacks p ∷ A) = filter_asks A
filter_asks (AtLeast i n ∷ A) = filter_asks A
filter_asks (AtMost i n ∷ A) = filter_asks A

-- an atom is another one, or a Lacks
pub other_or : (a : Atom) → (is_other a ≡ true) ⊎ ((p : ℕ) × (a ≡ Lacks p))
other_or (Has p) = inl refl
other_or (Lacks p) = inr (p, refl)
other_or (AtLeast i n) = inl refl
other_or (AtMost i n) = inl refl

none_asked : (B : List Atom) → AreLacks B → asked B ≡ []
none_asked [] h = refl
none_asked (Has p ∷ B) h = absurd (true≢false (sym h))
none_asked (Lacks p ∷ B) h = none_asked B h
none_asked (AtLeast i n ∷ B) h = absurd (true≢false (sym h))
none_asked (AtMost i n ∷ B) h = absurd (true≢false (sym h))

not_lost : (w : View) (D : List Atom) (a : Atom) → not (is_other a) ≡ true → lost w D a ≡ true → ⊥
not_lost w D (Has p) n h = true≢false (sym n)
not_lost w D (Lacks p) n h = true≢false (sym h)
not_lost w D (AtLeast i k) n h = true≢false (sym n)
not_lost w D (AtMost i k) n h = true≢false (sym n)

pub one_in : {X : Type 0} (x y : X) → In x (y ∷ []) → y ≡ x
one_in x y (inl e) = e
one_in x y (inr i) = absurd i

-- if a Lacks is beyond a list D, it is beyond each list that asks for its placement if D does
spoiled : (w : View) (A D : List Atom) (a : Atom) → not (is_other a) ≡ true → ((q : ℕ) → lacks a q ≡ true → In q (asked D) → In q (asked A)) → beyond w D a ≡ true → hopeless w (A ++ a ∷ []) ≡ true
spoiled w A D (Has q) n within h = absurd (true≢false (sym n))
spoiled w A D (AtLeast i k) n within h = absurd (true≢false (sym n))
spoiled w A D (AtMost i k) n within h = absurd (true≢false (sym n))
spoiled w A D (Lacks q) n within h =
    let E : List Atom = A ++ Lacks q ∷ [] in
    let there : mem (asked D) q ≡ true → mem (asked E) q ≡ true =
    λ m. in_mem (asked E) q (subst (λ ps. In q ps) (sym (asked_append A (Lacks q ∷ []))) (in_append_left q (asked A) [] (within q (eq-eqb q q refl) (mem_in (asked D) q m)))) in
    by_beyond w E E (Lacks q) refl (in_append_right (Lacks q) A (Lacks q ∷ []) (inl refl)) (elim (or_cases (mem w.pins q) (mem (asked D) q) h) [
      | inl k ↦ or_left (mem w.pins q) (mem (asked E) q) k
      | inr k ↦ or_right (mem w.pins q) (mem (asked E) q) (there k)
    ])

-- atoms that ask for p are hopeless after Lacks of other placements only if they are so without these, or if one of these alone
-- makes the atoms before it hopeless
alone_or : (w : View) (A B : List Atom) (p : ℕ) → AreLacks B → list_any (λ b. lacks b p) B ≡ false → hopeless w ((A ++ B) ++ Has p ∷ []) ≡ true →
    (hopeless w (A ++ Has p ∷ []) ≡ true) ⊎ (list_any (λ b. hopeless w (A ++ b ∷ [])) B ≡ true)
alone_or w A B p ls once h =
    let full : List Atom = (A ++ B) ++ Has p ∷ [] in
    let short : List Atom = A ++ Has p ∷ [] in
    let asks : asked full ≡ asked A ++ p ∷ [] = asked_append (A ++ B) (Has p ∷ []) ∙ ap (λ ps. ps ++ p ∷ []) (asked_append A B ∙ ap (λ qs. asked A ++ qs) (none_asked B ls) ∙ append-nil (asked A)) in
    let same : asked full ≡ asked short = asks ∙ sym (asked_append A (Has p ∷ [])) in
    elim (or_cases (list_any (λ a. lost w full a) full) (list_any (λ a. beyond w full a) full) (found_is w full full (λ q. refl) ∙ h)) [
      | inl l ↦ let x = any_in (λ a. lost w full a) full l in elim (where_is A B p x.0 x.1) [
        | inl i ↦ inl (by_lost w full short x.0 same i x.2)
        | inr i ↦ absurd (not_lost w full x.0 (all_in (λ b. not (is_other b)) B ls x.0 i) x.2)
      ]
      | inr l ↦ let x = any_in (λ a. beyond w full a) full l in elim (where_is A B p x.0 x.1) [
        | inl i ↦ inl (by_beyond w full short x.0 same i x.2)
        | inr i ↦ inr (any_from (λ b. hopeless w (A ++ b ∷ [])) B x.0 i
            (spoiled w A full x.0 (all_in (λ b. not (is_other b)) B ls x.0 i) (λ q k m. not_last A B p q x.0 i once k (subst (λ ps. In q ps) asks m)) x.2))
      ]
    ]
  where
    where_is : (A B : List Atom) (p : ℕ) (a : Atom) → In a ((A ++ B) ++ Has p ∷ []) → In a (A ++ Has p ∷ []) ⊎ In a B
    where_is A B p a i = elim (in_append_cases a (A ++ B) (Has p ∷ []) i) [
      | inl j ↦ elim (in_append_cases a A B j) [ inl k ↦ inl (in_append_left a A (Has p ∷ []) k) | inr k ↦ inr k ]
      | inr j ↦ inl (in_append_right a A (Has p ∷ []) j)
    ]

    not_last : (A B : List Atom) (p q : ℕ) (b : Atom) → In b B → list_any (λ a. lacks a p) B ≡ false → lacks b q ≡ true → In q (asked A ++ p ∷ []) → In q (asked A)
    not_last A B p q b i once k m = elim (in_append_cases q (asked A) (p ∷ []) m) [
      | inl j ↦ j
      | inr j ↦ absurd (both_ways (list_any (λ a. lacks a p) B) once (any_from (λ a. lacks a p) B b i (subst (λ r. lacks b r ≡ true) (sym (one_in q p j)) k)))
    ]

-- a Lacks makes a list hopeless that isn't so without it only if it makes a shorter list hopeless that asks for the same
spoils : (w : View) (brief A : List Atom) (b : Atom) → not (is_other b) ≡ true → ((q : ℕ) → In (Has q) A → In (Has q) brief) → hopeless w (A ++ b ∷ []) ≡ true → (hopeless w A ≡ true) ⊎ (hopeless w (brief ++ b ∷ []) ≡ true)
spoils w brief A b n has h =
    let E : List Atom = A ++ b ∷ [] in
    let same : asked E ≡ asked A = asked_append A (b ∷ []) ∙ ap (λ ps. asked A ++ ps) (none_asked (b ∷ []) (and_from (not (is_other b)) true n refl)) ∙ append-nil (asked A) in
    elim (or_cases (list_any (λ a. lost w E a) E) (list_any (λ a. beyond w E a) E) (found_is w E E (λ q. refl) ∙ h)) [
      | inl l ↦ let x = any_in (λ a. lost w E a) E l in elim (in_append_cases x.0 A (b ∷ []) x.1) [
        | inl i ↦ inl (by_lost w E A x.0 same i x.2)
        | inr i ↦ absurd (not_lost w E x.0 (subst (λ a. not (is_other a) ≡ true) (one_in x.0 b i) n) x.2)
      ]
      | inr l ↦ let x = any_in (λ a. beyond w E a) E l in elim (in_append_cases x.0 A (b ∷ []) x.1) [
        | inl i ↦ inl (by_beyond w E A x.0 same i x.2)
        | inr i ↦ inr (spoiled w brief E b n (λ q k m. in_asked brief q (has q (asked_in A q (subst (λ ps. In q ps) same m)))) (subst (λ a. beyond w E a ≡ true) (sym (one_in x.0 b i)) x.2))
      ]
    ]

-- the first atoms of a list of Lacks, and each of them
lacks_first : (g : List Atom) (n i : ℕ) → AreLacks (take n g) → i ≤ n → AreLacks (take i g)
lacks_first g n zero h l = refl
lacks_first g zero (suc i) h l = absurd (omega (arith, l))
lacks_first [] (suc n) (suc i) h l = refl
lacks_first (a ∷ g) (suc n) (suc i) h l = let hs = and_parts (not (is_other a)) (list_all (λ b. not (is_other b)) (take n g)) h in and_from (not (is_other a)) (list_all (λ b. not (is_other b)) (take i g)) hs.0 (lacks_first g n i hs.1 (omega (arith, l)))

lacks_at : (g : List Atom) (n i : ℕ) (d : Atom) → AreLacks (take n g) → i < n → i < length g → not (is_other (get_or g i d)) ≡ true
lacks_at [] n i d h l k = absurd (omega (arith, k))
lacks_at (a ∷ g) zero i d h l k = absurd (omega (arith, l))
lacks_at (a ∷ g) (suc n) zero d h l k = (and_parts (not (is_other a)) (list_all (λ b. not (is_other b)) (take n g)) h).0
lacks_at (a ∷ g) (suc n) (suc i) d h l k = lacks_at g n i d (and_parts (not (is_other a)) (list_all (λ b. not (is_other b)) (take n g)) h).1 (omega (arith, l)) (omega (arith, k))

as_lacks : (a : Atom) → not (is_other a) ≡ true → (p : ℕ) × (a ≡ Lacks p)
as_lacks (Has p) n = absurd (true≢false (sym n))
as_lacks (Lacks p) n = (p, refl)
as_lacks (AtLeast i k) n = absurd (true≢false (sym n))
as_lacks (AtMost i k) n = absurd (true≢false (sym n))

-- a stair is hopeless after a base if its last atom is, and if one of the guards before that is
last_alone : (w : View) (A g : List Atom) (i : ℕ) (d : Atom) → i < length g → hopeless w (A ++ negated (get_or g i d) ∷ []) ≡ true → hopeless w (A ++ get_or (stairs g) i []) ≡ true
last_alone w A g i d l h =
    let n = negated (get_or g i d) in
    subst (λ S. hopeless w S ≡ true) (stair_next A g i d l) (hopeless_within w (A ++ n ∷ []) ((A ++ take i g) ++ n ∷ [])
    (λ a k. elim (in_append_cases a A (n ∷ []) k) [ inl j ↦ in_append_left a (A ++ take i g) (n ∷ []) (in_append_left a A (take i g) j) | inr j ↦ in_append_right a (A ++ take i g) (n ∷ []) j ]) h)

one_alone : (w : View) (A g : List Atom) (i : ℕ) (d : Atom) → i < length g → list_any (λ b. hopeless w (A ++ b ∷ [])) (take i g) ≡ true → hopeless w (A ++ get_or (stairs g) i []) ≡ true
one_alone w A g i d l h =
    let n = negated (get_or g i d) in
    let x = any_in (λ b. hopeless w (A ++ b ∷ [])) (take i g) h in
    subst (λ S. hopeless w S ≡ true) (stair_next A g i d l) (hopeless_within w (A ++ x.0 ∷ []) ((A ++ take i g) ++ n ∷ [])
    (λ a k. in_append_left a (A ++ take i g) (n ∷ []) (elim (in_append_cases a A (x.0 ∷ []) k) [ inl j ↦ in_append_left a A (take i g) j | inr j ↦ in_append_right a A (take i g) (subst (λ b. In b (take i g)) (one_in a x.0 j) x.1) ])) x.2)

-- if no guard before a Lacks spoils the base, or this shows already by the last atom, the stair is judged by its last atom
judged_alone : (w : View) (A g : List Atom) (n i : ℕ) (d : Atom) → AreLacks (take n g) → LackOnce g → i < n → i < length g →
    (list_any (λ b. hopeless w (A ++ b ∷ [])) (take i g) ≡ true → hopeless w (A ++ negated (get_or g i d) ∷ []) ≡ true) →
    hopeless w (A ++ get_or (stairs g) i []) ≡ hopeless w (A ++ negated (get_or g i d) ∷ [])
judged_alone w A g n i d ls once l k spoilt =
    let x = as_lacks (get_or g i d) (lacks_at g n i d ls l k) in
    same_truth (hopeless w (A ++ get_or (stairs g) i [])) (hopeless w (A ++ negated (get_or g i d) ∷ []))
    (λ h. elim (alone_or w A (take i g) x.0 (lacks_first g n i ls (omega (arith, l))) (once i x.0 d k x.1)
    (subst (λ a. hopeless w ((A ++ take i g) ++ negated a ∷ []) ≡ true) x.1 (ap (λ S. hopeless w S) (stair_next A g i d k) ∙ h))) [
      | inl e ↦ subst (λ a. hopeless w (A ++ negated a ∷ []) ≡ true) (sym x.1) e
      | inr e ↦ spoilt e
    ])
    (last_alone w A g i d k)

calm_at : (w : View) (A g : List Atom) (n i : ℕ) (fs : List Bool) → n ≤ length g → AreCalm w A (take n g) fs → i < n → get_or fs i true ≡ not (list_any (λ a. hopeless w (A ++ a ∷ [])) (take i g))
calm_at w A g n i fs h c l = c.each i (omega (arith, l, h, length-take-le n g h)) ∙ ap (λ B. not (list_any (λ a. hopeless w (A ++ a ∷ [])) B)) (take-take i n g (omega (arith, l)))

-- the stairs of the first guards, all Lacks, by whether the base goes on with each guard before the last
pub calm_alone : (w : View) (A g : List Atom) (n : ℕ) (fs : List Bool) → AreLacks (take n g) → n ≤ length g → LackOnce g → AreCalm w A (take n g) fs → AreAlone w A g n fs
calm_alone w A g n fs ls h once c i d l so =
    let calm : list_any (λ b. hopeless w (A ++ b ∷ [])) (take i g) ≡ false = not-true _ (sym (calm_at w A g n i fs h c l) ∙ so) in
    judged_alone w A g n i d ls once l (omega (arith, l, h)) (λ e. absurd (both_ways _ calm e))

pub calm_out : (w : View) (A g : List Atom) (n : ℕ) (fs : List Bool) → n ≤ length g → AreCalm w A (take n g) fs → AreRuledOut w A (stairs g) fs
calm_out w A g n fs h c i l e =
    let low : i < n = omega (arith, l, c.long, length-take-le n g h) in
    one_alone w A g i (Has 0) (omega (arith, low, h)) (not-false _ (sym (calm_at w A g n i fs h c low) ∙ e))

-- the same by the flags of a shorter base that asks for as much
pub again_alone : (w : View) (brief A g : List Atom) (n : ℕ) (fs : List Bool) → AreLacks (take n g) → n ≤ length g → LackOnce g → ((q : ℕ) → In (Has q) A → In (Has q) brief) → AreJudged w brief (stairs g) fs → AreAlone w A g n fs
again_alone w brief A g n fs ls h once has judged i d l so =
    let k : i < length g = omega (arith, l, h) in
    let B = take i g in
    let hopes : hopeless w (brief ++ get_or (stairs g) i []) ≡ false = not-true _ (sym (judged_at w brief g fs i true judged k) ∙ so) in
    let more : hopeless w A ≡ true → hopeless w (A ++ negated (get_or g i d) ∷ []) ≡ true = λ e. hopeless_within w A (A ++ negated (get_or g i d) ∷ []) (λ a j. in_append_left a A (negated (get_or g i d) ∷ []) j) e in
    judged_alone w A g n i d ls once l k (λ e.
    let x = any_in (λ b. hopeless w (A ++ b ∷ [])) B e in
    elim (spoils w brief A x.0 (all_in (λ b. not (is_other b)) B (lacks_first g n i ls (omega (arith, l))) x.0 x.1) has x.2) [
      | inl j ↦ more j
      | inr j ↦ absurd (both_ways _ hopes (one_alone w brief g i d k (any_from (λ b. hopeless w (brief ++ b ∷ [])) B x.0 x.1 j)))
    ])

-- guards that are no Lacks
others_only : {X : Type 0} (f : X → Atom) (xs : List X) → ((x : X) → is_other (f x) ≡ true) → list_all is_other (map f xs) ≡ true
others_only f xs h = all_from is_other (map f xs) (λ a i. let r = map_in f xs a i in subst (λ b. is_other b ≡ true) r.2 (h r.0))

abbrev pub lacks_of : Atom → ℕ
lacks_of (Has p) = p
lacks_of (Lacks p) = p
lacks_of (AtLeast i n) = n
lacks_of (AtMost i n) = n

once_from : (ps : List ℕ) (rest : List Atom) → distinct ps ≡ true → list_all is_other rest ≡ true → LackOnce (map (λ p. Lacks p) ps ++ rest)
once_from [] rest u o i p d l e = absurd (true≢false (sym (subst (λ a. is_other a ≡ true) e (all_in is_other rest o (get_or rest i d) (at_in rest i d l)))))
once_from (q ∷ ps) rest u o zero p d l e = refl
once_from (q ∷ ps) rest u o (suc i) p d l e =
    let us = and_parts (list_all (λ y. cond (q == y) false true) ps) (distinct ps) u in
    let L : List Atom = map (λ r. Lacks r) ps ++ rest in
    let low : i < length L = omega (arith, l) in
    let here : In (Lacks p) L = subst (λ a. In a L) e (at_in L i d low) in
    let later : list_any (λ a. lacks a p) (take i L) ≡ false = once_from ps rest us.1 o i p d low e in
    let first : (q == p) ≡ false = elim (in_append_cases (Lacks p) (map (λ r. Lacks r) ps) rest here) [
      | inl j ↦ let r = map_in (λ r. Lacks r) ps (Lacks p) j in differs q p (all_in (λ y. cond (q == y) false true) ps us.0 p (subst (λ s. In s ps) (ap lacks_of r.2) r.1))
      | inr j ↦ absurd (true≢false (sym (all_in is_other rest o (Lacks p) j)))
    ] in
    subst (λ b. (b || list_any (λ a. lacks a p) (take i L)) ≡ false) (sym first) later
  where
    other : (b : Bool) → cond b false true ≡ true → b ≡ false
    other true h = absurd (true≢false (sym h))
    other false h = refl

    differs : (q p : ℕ) → cond (q == p) false true ≡ true → (q == p) ≡ false
    differs q p h = other (q == p) h

least_others : (v w : View) → list_all is_other (guards_least v w) ≡ true
least_others v w = others_only (λ b. AtLeast b.item (least v b.item)) (filter (λ b. nat_lt (least w b.item) (least v b.item)) v.bounds) (λ b. refl)

most_others : (v w : View) → list_all is_other (guards_most v w) ≡ true
most_others v w = others_only (λ b. AtMost b.item (most v b.item)) (filter (λ b. nat_lt (most v b.item) (most w b.item)) v.bounds) (λ b. refl)

pins_others : (v w : View) → list_all is_other (guards_pins v w) ≡ true
pins_others v w = others_only (λ p. Has p) (filter (λ p. not (mem w.pins p)) v.pins) (λ p. refl)

both_others : (A B : List Atom) → list_all is_other A ≡ true → list_all is_other B ≡ true → list_all is_other (A ++ B) ≡ true
both_others A B h k = all_append is_other A B ∙ and_from (list_all is_other A) (list_all is_other B) h k

-- after the guards of a change that lack its new placements, no other is a Lacks
pub guards_others : (v w : View) → list_all is_other (guards_least v w ++ (guards_most v w ++ guards_pins v w)) ≡ true
guards_others v w = both_others (guards_least v w) (guards_most v w ++ guards_pins v w) (least_others v w) (both_others (guards_most v w) (guards_pins v w) (most_others v w) (pins_others v w))

-- no two guards of a change lack the same placement
pub guards_once : (v w : View) → WellNamed w → LackOnce (guards v w)
guards_once v w well =
    once_from (filter (λ p. not (mem v.live p)) w.live) (guards_least v w ++ (guards_most v w ++ guards_pins v w)) (distinct_filter (λ p. not (mem v.live p)) w.live (live_once w well)) (guards_others v w)

any_next : (f : Atom → Bool) (g : List Atom) (i : ℕ) (d : Atom) → i < length g → list_any f (take (i + 1) g) ≡ (list_any f (take i g) || (f (get_or g i d) || false))
any_next f g i d l = ap (list_any f) (take_more g i d l) ∙ any_append f (take i g) (get_or g i d ∷ [])

-- the flags of the first guards, and that of the next one
pub calm_push : (f : Atom → Bool) (g : List Atom) (k : ℕ) (fs : List Bool) (b : Bool) (new : List Bool) → new ≡ fs ++ b ∷ [] → length fs ≡ k → b ≡ not (list_any f (take k g)) →
    ((i : ℕ) → i < k → get_or fs i true ≡ not (list_any f (take i g))) → (length new ≡ k + 1) × ((i : ℕ) → i < k + 1 → get_or new i true ≡ not (list_any f (take i g)))
calm_push f g k fs b new is long stays each = (
  omega (arith, ap length is, length-append fs (b ∷ []), long),
  λ i l. ap (λ bs. get_or bs i true) is ∙ elim (cases_lt i k) [
    | inl m ↦ get_or_append_left fs (b ∷ []) true i (omega (arith, m, long)) ∙ each i m
    | inr e ↦
        let same : i ≡ k = omega (arith, l, e) in
        ap (λ n. get_or (fs ++ b ∷ []) n true) (same ∙ sym long) ∙ get_or-append_seam fs b [] true ∙ stays ∙ ap (λ n. not (list_any f (take n g))) (sym same)
  ],
)

-- it stays so if it was so, and the next guard doesn't change it
pub calm_next : (f : Atom → Bool) (g : List Atom) (k : ℕ) (d : Atom) (b : Bool) → k < length g → b ≡ not (list_any f (take k g)) → (b && not (f (get_or g k d))) ≡ not (list_any f (take (k + 1) g))
calm_next f g k d b l e = ap (λ x. x && not (f (get_or g k d))) e ∙ neither (list_any f (take k g)) (f (get_or g k d)) ∙ ap not (sym (any_next f g k d l))
  where
    neither : (a b : Bool) → (not a && not b) ≡ not (a || (b || false))
    neither true b = refl
    neither false true = refl
    neither false false = refl

-- the last atom of a stair of the log
pub stair_alone : (w : View) (log : List (List Atom)) (s : Stair) (a d : Atom) → IsStairOf log s → a ≡ negated (get_or (get_or log s.edition []) s.index d) → hopeless w (a ∷ []) ≡ true → hopeless w (stair_of log s) ≡ true
stair_alone w log s a d h e t = last_alone w [] (get_or log s.edition []) s.index d h.index_in (subst (λ b. hopeless w (b ∷ []) ≡ true) e t)

-- those atoms of a stair that pass a test
pub stair_filter : (f : Atom → Bool) (g : List Atom) (j : ℕ) (d a : Atom) → j < length g → a ≡ negated (get_or g j d) → filter f (take j g) ++ filter f (a ∷ []) ≡ filter f (get_or (stairs g) j [])
stair_filter f g j d a l e = ap (λ b. filter f (take j g) ++ filter f (b ∷ [])) e ∙ sym (filter-append f (take j g) (negated (get_or g j d) ∷ [])) ∙ ap (filter f) (sym (stairs_at g j d l))

filter_past : (x : Atom) (A : List Atom) → is_other x ≡ false → filter is_other (x ∷ A) ≡ filter is_other A
filter_past x A e = ap (λ b. cond b (x ∷ filter is_other A) (filter is_other A)) e

take-nil : (k : ℕ) → ◌≡◌ {A = List Atom} (take k []) []
take-nil zero = refl
take-nil (suc k) = refl

-- of the first atoms of a list, those that are no Lacks come after the Lacks that the list begins with
pub lead_filter : (g : List Atom) (n m j : ℕ) → m ≤ n → m ≤ j → AreLacks (take n g) → filter is_other (take (j - m) (drop m g)) ≡ filter is_other (take j g)
lead_filter g n zero j h l a = ap (λ k. filter is_other (take k g)) (let e : j - 0 ≡ j = omega arith in e)
lead_filter [] n (suc m) j h l a = ap (filter is_other) (take-nil (j - suc m) ∙ sym (take-nil j))
lead_filter (x ∷ g) zero (suc m) j h l a = absurd (omega (arith, h))
lead_filter (x ∷ g) (suc n) (suc m) zero h l a = absurd (omega (arith, l))
lead_filter (x ∷ g) (suc n) (suc m) (suc j) h l a =
    let parts = and_parts (not (is_other x)) (list_all (λ b. not (is_other b)) (take n g)) a in
    ap (λ k. filter is_other (take k (drop m g))) (let e : suc j - suc m ≡ j - m = omega arith in e)
    ∙ lead_filter g n m j (omega (arith, h)) (omega (arith, l)) parts.1
    ∙ sym (filter_past x (take j g) (not-true _ parts.0))

-- the atoms so far that pass a test, and the next one if it does
pub filter_more : (f : Atom → Bool) (A : List Atom) (k : ℕ) (d : Atom) (old : List Atom) (b : Bool) → k < length A → d ≡ get_or A k d → b ≡ f d →
    (old ++ filter f (take k A)) ++ cond b (d ∷ []) [] ≡ old ++ filter f (take (k + 1) A)
filter_more f A k d old b l e h =
    append_assoc old (filter f (take k A)) (cond b (d ∷ []) [])
    ∙ ap (λ B. old ++ B)
    (ap (λ x. filter f (take k A) ++ cond x (d ∷ []) []) h ∙ sym (filter-append f (take k A) (d ∷ [])) ∙ ap (filter f) (sym (take_more A k d l ∙ ap (λ a. take k A ++ a ∷ []) (sym e))))

-- a list of length 0 has nothing
pub empty : (ps : List ℕ) → length ps ≡ 0 → ps ≡ []
empty [] e = refl
empty (p ∷ ps) e = absurd (omega (arith, e))

in_first : (g : List Atom) (k n : ℕ) (d : Atom) → k < n → k < length g → In (get_or g k d) (take n g)
in_first [] k n d l h = absurd (omega (arith, h))
in_first (a ∷ g) k zero d l h = absurd (omega (arith, l))
in_first (a ∷ g) zero (suc n) d l h = inl refl
in_first (a ∷ g) (suc k) (suc n) d l h = inr (in_first g k n d (omega (arith, l)) (omega (arith, h)))

-- a guard that is hopeless alone makes each later stair of its change hopeless
pub spoilt_stair : (w : View) (log : List (List Atom)) (s t : Stair) (own base : List Atom) → IsSpoiler w log s → IsStairOf log t → s.edition ≡ t.edition → s.index < t.index → own ≡ base ++ stair_of log t → hopeless w own ≡ true
spoilt_stair w log s t own base spoiler there e l is =
    let g = get_or log t.edition [] in
    let d : Atom = Has 0 in
    let a = get_or g s.index d in
    let h : hopeless w (a ∷ []) ≡ true = subst (λ n. hopeless w (get_or (get_or log n []) s.index d ∷ []) ≡ true) e (spoiler.spoils d) in
    let low : s.index < length g = omega (arith, l, there.index_in) in
    let stair : stair_of log t ≡ take t.index g ++ negated (get_or g t.index d) ∷ [] = stairs_at g t.index d there.index_in in
    let inside : In a own = subst (λ A. In a A) (sym (is ∙ ap (λ S. base ++ S) stair)) (in_append_right a base (take t.index g ++ negated (get_or g t.index d) ∷ []) (in_append_left a (take t.index g) (negated (get_or g t.index d) ∷ []) (in_first g s.index t.index d l low))) in
    hopeless_within w (a ∷ []) own (λ b i. subst (λ x. In x own) (one_in b a i) inside) h

-- a test that fails for the first i atoms and for the next one fails for the first i + 1
pub none_next : (f : Atom → Bool) (g : List Atom) (i : ℕ) (d : Atom) → i < length g → list_any f (take i g) ≡ false → f (get_or g i d) ≡ false → list_any f (take (i + 1) g) ≡ false
none_next f g i d l h k = any_next f g i d l ∙ (λ j. h j || (k j || false))

none_first : (f : Atom → Bool) (g : List Atom) (n i : ℕ) → list_any f (take n g) ≡ false → i ≤ n → list_any f (take i g) ≡ false
none_first f g n zero h l = refl
none_first f g zero (suc i) h l = absurd (omega (arith, l))
none_first f [] (suc n) (suc i) h l = refl
none_first f (a ∷ g) (suc n) (suc i) h l = any_none f (a ∷ take i g) (λ x k t. elim k [
  | inl e ↦ both_ways (list_any f (a ∷ take n g)) h (or_left (f a) (list_any f (take n g)) (ap f e ∙ t))
  | inr j ↦ both_ways (list_any f (take i g)) (none_first f g n i (not_right (f a) (list_any f (take n g)) h) (omega (arith, l))) (any_from f (take i g) x j t)
])
  where
    not_right : (a b : Bool) → (a || b) ≡ false → b ≡ false
    not_right true b h = absurd (true≢false h)
    not_right false b h = h

-- a test that fails for the first guards and for the last atom of a stair fails for all of its atoms
pub untouched_stair : (f : Atom → Bool) (log : List (List Atom)) (s : Stair) (n : ℕ) (a d : Atom) → IsStairOf log s → list_any f (take n (get_or log s.edition [])) ≡ false → s.index ≤ n → a ≡ negated (get_or (get_or log s.edition []) s.index d) → f a ≡ false → list_any f (stair_of log s) ≡ false
untouched_stair f log s n a d there first low is last =
    let g = get_or log s.edition [] in
    ap (list_any f) (stairs_at g s.index d there.index_in) ∙ any_append f (take s.index g) (negated (get_or g s.index d) ∷ [])
    ∙ (λ j. none_first f g n s.index first low j || (f (sym is j) || false)) ∙ ap (λ b. b || false) last
