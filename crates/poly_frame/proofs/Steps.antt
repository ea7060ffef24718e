-- What one more step closes: the rule by which a frame closes placements.
use Rattle.std.proofs.Common.{◌≡◌, ℕ, ◌+◌, Bool, true, false, cond, not, min, ltb, ◌&&◌, ◌||◌, eqb, leb, List, [], ◌∷◌, ◌++◌, inl, inr, refl, sym, ap, subst, ◌∙◌, arith}
use Rattle.std.specs.List.{list_any}
use Rattle.std.proofs.lemmas.Bool.{eqb-true, eq-eqb, or_left, or_right, or_cases, both_ways, false_from_ne_true, leb-true, le-leb}
use Rattle.poly_tiling.specs.declared.item.Item.{Item}
use Rattle.poly_atom.specs.declared.atom.Atom.{Atom}
use Rattle.poly_atom.specs.declared.atom.Atom.TheVariants.{Has, Lacks, AtLeast, AtMost}
use Rattle.poly_tiling.specs.Lists.{one, mem, tally, put, put_all}
use Rattle.poly_tiling.specs.Puzzle.{View, same_item, items, has_item, conflicts}
use Rattle.poly_atom.specs.Hopeless.{base, asked, lacks}
use Rattle.poly_frame.specs.Open.{most_at, others, ruled_out, open_in}
use Rattle.poly_tiling.proofs.Lists.{In, any_append, same_truth, in_append_left, in_append_right, in_append_cases}
use Rattle.poly_tiling.proofs.Ascending.{put_in, in_put, in_put_self, put_up, ascending_same}
use Rattle.poly_atom.proofs.Bases.{base_in, base_up, in_base_has, in_base_pin}
use Rattle.poly_frame.proofs.Walks.{or_false, and_false, and_true_right, or_again, or_turn, or_four}

pub base_leave : (v : View) (A : List Atom) (p : ℕ) → asked (A ++ Lacks p ∷ []) ≡ asked A
base_leave v [] p = refl
base_leave v (Has q ∷ A) p = ap (λ xs. q ∷ xs) (base_leave v A p)
base_leave v (Lacks q ∷ A) p = base_leave v A p
base_leave v (AtLeast i n ∷ A) p = base_leave v A p
base_leave v (AtMost i n ∷ A) p = base_leave v A p

pub most_leave : (v : View) (A : List Atom) (p : ℕ) (i : Item) → most_at v (A ++ Lacks p ∷ []) i ≡ most_at v A i
most_leave v [] p i = refl
most_leave v (Has q ∷ A) p i = most_leave v A p i
most_leave v (Lacks q ∷ A) p i = most_leave v A p i
most_leave v (AtLeast j n ∷ A) p i = most_leave v A p i
most_leave v (AtMost j n ∷ A) p i = ap (λ u. cond (same_item j i) (min n u) u) (most_leave v A p i)

pub most_pick : (v : View) (A : List Atom) (p : ℕ) (i : Item) → most_at v (A ++ Has p ∷ []) i ≡ most_at v A i
most_pick v [] p i = refl
most_pick v (Has q ∷ A) p i = most_pick v A p i
most_pick v (Lacks q ∷ A) p i = most_pick v A p i
most_pick v (AtLeast j n ∷ A) p i = most_pick v A p i
most_pick v (AtMost j n ∷ A) p i = ap (λ u. cond (same_item j i) (min n u) u) (most_pick v A p i)

any_same : {X : Type 0} (f g : X → Bool) (xs : List X) → ((x : X) → f x ≡ g x) → list_any f xs ≡ list_any g xs
any_same f g [] e = refl
any_same f g (x ∷ xs) e = ap (λ b. b || list_any f xs) (e x) ∙ ap (λ b. g x || b) (any_same f g xs e)

pub lacks_pick : (A : List Atom) (p q : ℕ) → list_any (λ a. lacks a q) (A ++ Has p ∷ []) ≡ list_any (λ a. lacks a q) A
lacks_pick A p q = any_append (λ a. lacks a q) A (Has p ∷ []) ∙ or_false (list_any (λ a. lacks a q) A)

pub lacks_leave : (A : List Atom) (p q : ℕ) → list_any (λ a. lacks a q) (A ++ Lacks p ∷ []) ≡ (list_any (λ a. lacks a q) A || eqb p q)
lacks_leave A p q = any_append (λ a. lacks a q) A (Lacks p ∷ []) ∙ ap (λ b. list_any (λ a. lacks a q) A || b) (or_false (eqb p q))

leave_at : (m l c f e : Bool) → (not m && not (((l || e) || c) || f)) ≡ ((not m && not ((l || c) || f)) && not e)
leave_at true l c f e = refl
leave_at false true c f e = refl
leave_at false false c f true = sym (and_false (not (c || f)))
leave_at false false c f false = sym (and_true_right (not (c || f)))

-- leaving p closes only p
pub open_leave : (v : View) (A : List Atom) (p q : ℕ) → open_in v (A ++ Lacks p ∷ []) q ≡ (open_in v A q && not (eqb p q))
open_leave v A p q =
    let b : base v (A ++ Lacks p ∷ []) ≡ base v A = ap (λ xs. put_all xs (put_all v.pins [])) (base_leave v A p) in
    let full = any_same (λ i. leb (most_at v (A ++ Lacks p ∷ []) i) (others v (base v (A ++ Lacks p ∷ [])) q i)) (λ i. leb (most_at v A i) (others v (base v A) q i)) (items v q)
    (λ i. ap (λ u. leb u (others v (base v (A ++ Lacks p ∷ [])) q i)) (most_leave v A p i) ∙ ap (λ xs. leb (most_at v A i) (others v xs q i)) b) in
    ap (λ xs. not (mem xs q) && not (ruled_out v (A ++ Lacks p ∷ []) q)) b
    ∙ ap (λ x. not (mem (base v A) q) && not ((x || list_any (λ r. conflicts v q r) (base v (A ++ Lacks p ∷ []))) || list_any (λ i. leb (most_at v (A ++ Lacks p ∷ []) i) (others v (base v (A ++ Lacks p ∷ [])) q i)) (items v q))) (lacks_leave A p q)
    ∙ ap (λ xs. not (mem (base v A) q) && not (((list_any (λ a. lacks a q) A || eqb p q) || list_any (λ r. conflicts v q r) xs) || list_any (λ i. leb (most_at v (A ++ Lacks p ∷ []) i) (others v (base v (A ++ Lacks p ∷ [])) q i)) (items v q))) b
    ∙ ap (λ x. not (mem (base v A) q) && not (((list_any (λ a. lacks a q) A || eqb p q) || list_any (λ r. conflicts v q r) (base v A)) || x)) full
    ∙ leave_at (mem (base v A) q) (list_any (λ a. lacks a q) A) (list_any (λ r. conflicts v q r) (base v A)) (list_any (λ i. leb (most_at v A i) (others v (base v A) q i)) (items v q)) (eqb p q)

-- taking p puts p into the base
pub base_pick : (v : View) (A : List Atom) (p : ℕ) → base v (A ++ Has p ∷ []) ≡ put p (base v A)
base_pick v A p = ascending_same (base v (A ++ Has p ∷ [])) (put p (base v A)) (base_up v (A ++ Has p ∷ [])) (put_up p (base v A) (base_up v A))
    (λ x i. elim (base_in v (A ++ Has p ∷ []) x i) [
      | inl j ↦ elim (in_append_cases (Has x) A (Has p ∷ []) j) [
        | inl k ↦ in_put p (base v A) x (in_base_has v A x k)
        | inr k ↦ elim k [ inl e ↦ let h : p ≡ x = cc in subst (λ z. In z (put p (base v A))) h (in_put_self p (base v A)) | inr n ↦ absurd n ]
      ]
      | inr j ↦ in_put p (base v A) x (in_base_pin v A x j)
    ])
    (λ x i. elim (put_in p (base v A) x i) [
      | inl e ↦ in_base_has v (A ++ Has p ∷ []) x (in_append_right (Has x) A (Has p ∷ []) (inl (ap (λ z. Has z) e)))
      | inr j ↦ elim (base_in v A x j) [ inl k ↦ in_base_has v (A ++ Has p ∷ []) x (in_append_left (Has x) A (Has p ∷ []) k) | inr k ↦ in_base_pin v (A ++ Has p ∷ []) x k ]
    ])

tally_put_at : (f : ℕ → Bool) (p q : ℕ) (qs : List ℕ) → (mem qs p ≡ false → tally f (put p qs) ≡ tally f qs + one (f p)) → (b c : Bool) → eqb p q ≡ b → mem (q ∷ qs) p ≡ false →
    tally f (cond b (q ∷ qs) (cond c (p ∷ (q ∷ qs)) (q ∷ put p qs))) ≡ tally f (q ∷ qs) + one (f p)
tally_put_at f p q qs ih true c e m = absurd (both_ways (mem (q ∷ qs) p) m (or_left (eqb q p) (mem qs p) (eq-eqb q p (sym (eqb-true p q e)))))
tally_put_at f p q qs ih false true e m = omega arith
tally_put_at f p q qs ih false false e m = let r = ih (false_from_ne_true (mem qs p) (λ y. both_ways (mem (q ∷ qs) p) m (or_right (eqb q p) (mem qs p) y))) in omega arith

-- putting a new number into a list raises the count by one if the number passes the test
pub tally_put : (f : ℕ → Bool) (p : ℕ) (qs : List ℕ) → mem qs p ≡ false → tally f (put p qs) ≡ tally f qs + one (f p)
tally_put f p [] m = omega arith
tally_put f p (q ∷ qs) m = tally_put_at f p q qs (tally_put f p qs) (eqb p q) (ltb p q) refl m

any_put_at : (f : ℕ → Bool) (p q : ℕ) (qs : List ℕ) → list_any f (put p qs) ≡ (f p || list_any f qs) → (b c : Bool) → eqb p q ≡ b →
    list_any f (cond b (q ∷ qs) (cond c (p ∷ (q ∷ qs)) (q ∷ put p qs))) ≡ (f p || list_any f (q ∷ qs))
any_put_at f p q qs ih true c e = or_again (f q) (list_any f qs) ∙ ap (λ z. f z || (f q || list_any f qs)) (sym (eqb-true p q e))
any_put_at f p q qs ih false true e = refl
any_put_at f p q qs ih false false e = ap (λ b. f q || b) ih ∙ or_turn (f q) (f p) (list_any f qs)

pub any_put : (f : ℕ → Bool) (p : ℕ) (qs : List ℕ) → list_any f (put p qs) ≡ (f p || list_any f qs)
any_put f p [] = refl
any_put f p (q ∷ qs) = any_put_at f p q qs (any_put f p qs) (eqb p q) (ltb p q) refl

any_or : {X : Type 0} (f g : X → Bool) (xs : List X) → list_any (λ x. f x || g x) xs ≡ (list_any f xs || list_any g xs)
any_or f g [] = refl
any_or f g (x ∷ xs) = ap (λ b. (f x || g x) || b) (any_or f g xs) ∙ or_four (f x) (g x) (list_any f xs) (list_any g xs)

le_one : (u o : ℕ) (h : Bool) → leb u (o + one h) ≡ (leb u o || (h && leb u (o + 1)))
le_one u o false = ap (λ x. leb u x) (omega arith) ∙ sym (or_false (leb u o))
le_one u o true = same_truth _ _
    (λ e. or_right (leb u o) _ e)
    (λ e. elim (or_cases (leb u o) (leb u (o + 1)) e) [ inl a ↦ let b = leb-true u o a in le-leb u (o + 1) (omega arith) | inr a ↦ a ])

pub others_put : (v : View) (xs : List ℕ) (p q : ℕ) (i : Item) → mem xs p ≡ false → eqb p q ≡ false → others v (put p xs) q i ≡ others v xs q i + one (has_item v p i)
others_put v xs p q i m n = tally_put (λ r. has_item v r i && not (eqb r q)) p xs m ∙ ap (λ b. others v xs q i + one (has_item v p i && not b)) n ∙ ap (λ b. others v xs q i + one b) (and_true_right (has_item v p i))

pick_at : (m l k c f g : Bool) → (not m && not ((l || (k || c)) || (f || g))) ≡ ((not m && not ((l || c) || f)) && (not k && not g))
pick_at true l k c f g = refl
pick_at false true k c f g = refl
pick_at false false true c f g = sym (and_false (not (c || f)))
pick_at false false false true f g = refl
pick_at false false false false true g = refl
pick_at false false false false false g = refl

-- if p is not in the base, taking p closes just those of the other open placements that are in conflict with p or have an item
-- that p fills
pub open_pick : (v : View) (A : List Atom) (p q : ℕ) → mem (base v A) p ≡ false → eqb p q ≡ false →
    open_in v (A ++ Has p ∷ []) q ≡ (open_in v A q && (not (conflicts v q p) && not (list_any (λ i. has_item v p i && leb (most_at v A i) (others v (base v A) q i + 1)) (items v q))))
open_pick v A p q m n =
    let b = base_pick v A p in
    let mq : mem (put p (base v A)) q ≡ mem (base v A) q = any_put (λ y. eqb y q) p (base v A) ∙ ap (λ x. x || mem (base v A) q) n in
    let full : list_any (λ i. leb (most_at v (A ++ Has p ∷ []) i) (others v (put p (base v A)) q i)) (items v q) ≡ (list_any (λ i. leb (most_at v A i) (others v (base v A) q i)) (items v q) || list_any (λ i. has_item v p i && leb (most_at v A i) (others v (base v A) q i + 1)) (items v q)) =
    any_same (λ i. leb (most_at v (A ++ Has p ∷ []) i) (others v (put p (base v A)) q i)) (λ i. leb (most_at v A i) (others v (base v A) q i) || (has_item v p i && leb (most_at v A i) (others v (base v A) q i + 1))) (items v q)
    (λ i. ap (λ u. leb u (others v (put p (base v A)) q i)) (most_pick v A p i) ∙ ap (λ x. leb (most_at v A i) x) (others_put v (base v A) p q i m n) ∙ le_one (most_at v A i) (others v (base v A) q i) (has_item v p i))
    ∙ any_or (λ i. leb (most_at v A i) (others v (base v A) q i)) (λ i. has_item v p i && leb (most_at v A i) (others v (base v A) q i + 1)) (items v q) in
    let far = λ (xs : List ℕ). list_any (λ r. conflicts v q r) xs in
    let fullish = λ (xs : List ℕ). list_any (λ i. leb (most_at v (A ++ Has p ∷ []) i) (others v xs q i)) (items v q) in
    let named = list_any (λ a. lacks a q) (A ++ Has p ∷ []) in
    ap (λ xs. not (mem xs q) && not ((named || far xs) || fullish xs)) b
    ∙ ap (λ x. not x && not ((named || far (put p (base v A))) || fullish (put p (base v A)))) mq
    ∙ ap (λ x. not (mem (base v A) q) && not ((x || far (put p (base v A))) || fullish (put p (base v A)))) (lacks_pick A p q)
    ∙ ap (λ x. not (mem (base v A) q) && not ((list_any (λ a. lacks a q) A || x) || fullish (put p (base v A)))) (any_put (λ r. conflicts v q r) p (base v A))
    ∙ ap (λ x. not (mem (base v A) q) && not ((list_any (λ a. lacks a q) A || (conflicts v q p || far (base v A))) || x)) full
    ∙ pick_at (mem (base v A) q) (list_any (λ a. lacks a q) A) (conflicts v q p) (far (base v A)) (list_any (λ i. leb (most_at v A i) (others v (base v A) q i)) (items v q)) (list_any (λ i. has_item v p i && leb (most_at v A i) (others v (base v A) q i + 1)) (items v q))
