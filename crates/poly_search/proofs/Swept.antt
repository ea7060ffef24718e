-- How a sweep shares out a family, arm by arm.
use Rattle.std.proofs.Common.{◌≡◌, ℕ, zero, suc, ◌<◌, ◌≤◌, ◌+◌, ◌^◌, Bool, true, false, cond, not, max, ◌&&◌, ◌||◌, eqb, nat_lt, List, [], ◌∷◌, ◌++◌, inl, inr, refl, sym, ap, subst, ◌∙◌, arith, map, append_assoc, length, take, get_or}
use Rattle.std.proofs.Math.Nat.{one-le-pow, pow-suc, pow-zero, mul-le-mul_left}
use Rattle.std.specs.List.{list_all}
use Rattle.std.proofs.lemmas.Bool.{and_parts, and_from, cases_lt}
use Rattle.std.proofs.lemmas.List.{append-nil, map-append, take_more}
use Rattle.poly_atom.specs.declared.atom.Atom.{Atom}
use Rattle.poly_atom.specs.declared.atom.Atom.TheVariants.{Has, Lacks, AtLeast, AtMost}
use Rattle.poly_tiling.specs.declared.item.Item.{Item}
use Rattle.poly_tiling.specs.Lists.{one, same_list, mem, distinct, ascending, put_all}
use Rattle.poly_tiling.specs.Puzzle.{View, is_tiling, has_item, same_item, count}
use Rattle.poly_atom.specs.Atoms.{meets_all, in_family}
use Rattle.poly_atom.specs.Hopeless.{base}
use Rattle.poly_report.specs.Trees.{Finds, Branches, NoArms}
use Rattle.poly_frame.specs.Open.{arms_fit, least_at, open_in}
use Rattle.poly_report.specs.Leaves.{tilings}
use Rattle.poly_frame.specs.Walk.{open_count, is_due}
use Rattle.poly_tiling.proofs.Lists.{all_in, all_append, tally_append, in_mem, in_append_right}
use Rattle.poly_tiling.proofs.Tilings.{parts}
use Rattle.poly_atom.proofs.Stairs.{meets_push, one_split}
use Rattle.poly_report.proofs.Trees.{trees_share_out_lem}
use Rattle.poly_report.proofs.Belong.{tree_tilings_belong_lem}
use Rattle.poly_frame.proofs.Steps.{base_leave, open_leave}
use Rattle.poly_search.proofs.Opens.{fewer_has, fewer_lacks, options_fit}
use Rattle.poly_search.proofs.Nodes.{in_at}
use Rattle.poly_search.specs.Sweeps.{weights, times, all_tilings, Swept, IsLighter, Partly}

pow_up : (k a n : ℕ) → 1 ≤ k → a ≤ n → k ^ a ≤ k ^ n
pow_up k a zero h l = let e : a ≡ 0 = omega arith in rw e (omega (arith, pow-zero k))
pow_up k a (suc n) h l = elim (cases_lt a (suc n)) [
  | inl b ↦ let r = pow_up k a n h (omega arith) in let m = mul-le-mul_left (k ^ n) h in omega (arith, pow-suc k n)
  | inr g ↦ let e : a ≡ suc n = omega arith in rw e (omega (arith, pow-zero k))
]

-- two families weigh less together than one family that has more open placements than each of them
two_weigh : (a b n : ℕ) → a < n → b < n → 3 ^ a + 3 ^ b < 3 ^ n
two_weigh a b zero h k = absurd (omega arith)
two_weigh a b (suc n) h k =
    let x = pow_up 3 a n (omega arith) (omega arith) in
    let y = pow_up 3 b n (omega arith) (omega arith) in
    let z = one-le-pow n 3 (omega arith) in
    omega (arith, pow-suc 3 n)

pub weights_append : (v : View) (As Bs : List (List Atom)) → weights v (As ++ Bs) ≡ weights v As + weights v Bs
weights_append v [] Bs = omega arith
weights_append v (A ∷ As) Bs = omega (arith, weights_append v As Bs)

times_left : (v : View) (T : List ℕ) (found : List (List ℕ)) (rests : List (List Atom)) (B : List Atom) → times v T found (rests ++ B ∷ []) ≡ times v T found rests + one (meets_all v T B)
times_left v T found rests B = omega (arith, tally_append (λ C. meets_all v T C) rests (B ∷ []))

-- a tiling of the family either has the placement or lacks it
with_or_without : (v : View) (T : List ℕ) (A : List Atom) (p : ℕ) → one (meets_all v T (A ++ Has p ∷ [])) + one (meets_all v T (A ++ Lacks p ∷ [])) ≡ one (meets_all v T A)
with_or_without v T A p = omega (arith, ap one (meets_push v T A (Has p)), ap one (meets_push v T A (Lacks p)), one_split (meets_all v T A) (mem T p))

-- nothing was swept yet
pub partly_none : (v : View) (A : List Atom) (found : List (List ℕ)) (rests : List (List Atom)) → Partly v A A found found rests rests
partly_none v A found rests = record { shared = λ T i. refl; only = λ h. h; less = omega arith }

-- a family is swept if its atoms are added to the rests
pub swept_rest : (v : View) (A : List Atom) (found found' : List (List ℕ)) (rests rests' : List (List Atom)) → found' ≡ found → rests' ≡ rests ++ A ∷ [] → Swept v A found found' rests rests'
swept_rest v A found found' rests rests' ef er = record {
  shared = λ T i. omega (arith, ap (λ x. times v T x rests') ef, ap (λ x. times v T found x) er, times_left v T found rests A);
  only = λ h. subst (all_tilings v) (sym ef) h;
  less = omega (arith, ap (weights v) er, weights_append v rests (A ∷ []));
}

-- a family that leaves no arm to a Branch on some item has no tilings, so there is nothing to sweep
pub starved_swept : (v : View) (A : List Atom) (i : Item) (found : List (List ℕ)) (rests : List (List Atom)) → arms_fit v A i [] ≡ true → Swept v A found found rests rests
starved_swept v A i found rests fit = record {
  shared = λ T h. omega (arith, trees_share_out_lem v A (Branches i NoArms) T h (and_from _ _ fit refl));
  only = λ h. h;
  less = omega arith;
}

-- the tilings with the placement were swept; those without it are still to be swept
pub arm_partly : (v : View) (A : List Atom) (p : ℕ) (found found' : List (List ℕ)) (rests rests' : List (List Atom)) → distinct v.live ≡ true → mem v.live p ≡ true → open_in v A p ≡ true →
    Swept v (A ++ Has p ∷ []) found found' rests rests' → Partly v A (A ++ Lacks p ∷ []) found found' rests rests'
arm_partly v A p found found' rests rests' d m o s = record {
  shared = λ T i. omega (arith, s.shared T i, with_or_without v T A p);
  only = s.only;
  less =
      let a = fewer_has v A (Has p ∷ []) p d m o (in_append_right (Has p) A (Has p ∷ []) (inl refl)) in
      let b = fewer_lacks v A (Lacks p ∷ []) p d m o (in_append_right (Lacks p) A (Lacks p ∷ []) (inl refl)) in
      let c = two_weigh (open_count v (A ++ Has p ∷ [])) (open_count v (A ++ Lacks p ∷ [])) (open_count v A) a b in
      let l = s.less in
      omega arith;
}

-- the tilings with the placement were swept, and the atoms of those without it are added to the rests
pub arm_swept : (v : View) (A : List Atom) (p : ℕ) (found found1 found2 : List (List ℕ)) (rests rests1 rests2 : List (List Atom)) → distinct v.live ≡ true → mem v.live p ≡ true → open_in v A p ≡ true →
    Swept v (A ++ Has p ∷ []) found found1 rests rests1 → found2 ≡ found1 → rests2 ≡ rests1 ++ (A ++ Lacks p ∷ []) ∷ [] → Swept v A found found2 rests rests2 × IsLighter v A rests rests2
arm_swept v A p found found1 found2 rests rests1 rests2 d m o s ef er =
    let k = swept_rest v (A ++ Lacks p ∷ []) found1 found2 rests1 rests2 ef er in
    let a = fewer_has v A (Has p ∷ []) p d m o (in_append_right (Has p) A (Has p ∷ []) (inl refl)) in
    let b = fewer_lacks v A (Lacks p ∷ []) p d m o (in_append_right (Lacks p) A (Lacks p ∷ []) (inl refl)) in
    let c = two_weigh (open_count v (A ++ Has p ∷ [])) (open_count v (A ++ Lacks p ∷ [])) (open_count v A) a b in
    let l = s.less in
    let j = k.less in
    let low : weights v rests2 < weights v rests + 3 ^ open_count v A = omega arith in
    (record { shared = λ T i. omega (arith, s.shared T i, k.shared T i, with_or_without v T A p); only = λ h. k.only (s.only h); less = omega arith }, low)

-- two parts of a sweep, one after the other
pub partly_more : (v : View) (A B C : List Atom) (found found1 found2 : List (List ℕ)) (rests rests1 rests2 : List (List Atom)) → Partly v A B found found1 rests rests1 → Partly v B C found1 found2 rests1 rests2 → Partly v A C found found2 rests rests2
partly_more v A B C found found1 found2 rests rests1 rests2 s k = record {
  shared = λ T i. omega (arith, s.shared T i, k.shared T i);
  only = λ h. k.only (s.only h);
  less = let a = s.less in let b = k.less in omega arith;
}

pub partly_swept : (v : View) (A B : List Atom) (found found1 found2 : List (List ℕ)) (rests rests1 rests2 : List (List Atom)) → Partly v A B found found1 rests rests1 → Swept v B found1 found2 rests1 rests2 → Swept v A found found2 rests rests2
partly_swept v A B found found1 found2 rests rests1 rests2 s k = record {
  shared = λ T i. omega (arith, s.shared T i, k.shared T i);
  only = λ h. k.only (s.only h);
  less = let a = s.less in let b = k.less in omega arith;
}

pub partly_lighter : (v : View) (A B : List Atom) (found found1 : List (List ℕ)) (rests rests1 rests2 : List (List Atom)) → Partly v A B found found1 rests rests1 → IsLighter v B rests1 rests2 → IsLighter v A rests rests2
partly_lighter v A B found found1 rests rests1 rests2 s k = let a = s.less in omega arith

-- no placement is open: the base is the only possible tiling
pub found_swept : (v : View) (A : List Atom) (found found' : List (List ℕ)) (rests rests' : List (List Atom)) → list_all (λ p. not (open_in v A p)) v.live ≡ true → found' ≡ found ++ tilings v A Finds → rests' ≡ rests →
    Swept v A found found' rests rests' × IsLighter v A rests rests'
found_swept v A found found' rests rests' h ef er =
    let z = one-le-pow (open_count v A) 3 (omega arith) in
    let same = ap (weights v) er in (
      record {
        shared = λ T i. omega (arith, ap (λ x. times v T x rests') ef, ap (λ x. times v T (found ++ tilings v A Finds) x) er, tally_append (λ U. same_list U T) found (tilings v A Finds), trees_share_out_lem v A Finds T i h);
        only = λ k. subst (all_tilings v) (sym ef) (all_append (λ U. is_tiling v U) found (tilings v A Finds) ∙ and_from _ _ k (members v A (tilings v A Finds) (tree_tilings_belong_lem v A Finds)));
        less = omega arith;
      },
      omega arith,
    )
  where
    members : (v : View) (A : List Atom) (Ts : List (List ℕ)) → list_all (λ T. in_family v A T) Ts ≡ true → list_all (λ U. is_tiling v U) Ts ≡ true
    members v A [] h = refl
    members v A (T ∷ Ts) h = let p = and_parts (in_family v A T) (list_all (λ T. in_family v A T) Ts) h in and_from _ _ (and_parts (is_tiling v T) (meets_all v T A) p.0).0 (members v A Ts p.1)

least_leave : (v : View) (A : List Atom) (p : ℕ) (i : Item) → least_at v (A ++ Lacks p ∷ []) i ≡ least_at v A i
least_leave v [] p i = refl
least_leave v (Has q ∷ A) p i = least_leave v A p i
least_leave v (Lacks q ∷ A) p i = least_leave v A p i
least_leave v (AtLeast j n ∷ A) p i = ap (λ u. cond (same_item j i) (max n u) u) (least_leave v A p i)
least_leave v (AtMost j n ∷ A) p i = least_leave v A p i

-- the atoms after some placements are left out
abbrev pub behind : List Atom → List ℕ → List Atom
behind A ps = A ++ map (λ q. Lacks q) ps

behind_next : (A : List Atom) (p : ℕ) (ps : List ℕ) → behind A (p ∷ ps) ≡ behind (A ++ Lacks p ∷ []) ps
behind_next A p ps = sym (append_assoc A (Lacks p ∷ []) (map (λ q. Lacks q) ps))

least_behind : (v : View) (A : List Atom) (ps : List ℕ) (i : Item) → least_at v (behind A ps) i ≡ least_at v A i
least_behind v A [] i = ap (λ B. least_at v B i) (append-nil A)
least_behind v A (p ∷ ps) i = ap (λ B. least_at v B i) (behind_next A p ps) ∙ least_behind v (A ++ Lacks p ∷ []) ps i ∙ least_leave v A p i

base_behind : (v : View) (A : List Atom) (ps : List ℕ) → base v (behind A ps) ≡ base v A
base_behind v A [] = ap (base v) (append-nil A)
base_behind v A (p ∷ ps) = ap (base v) (behind_next A p ps) ∙ base_behind v (A ++ Lacks p ∷ []) ps ∙ ap (λ xs. put_all xs (put_all v.pins [])) (base_leave v A p)

open_behind : (v : View) (A : List Atom) (ps : List ℕ) (q : ℕ) → open_in v (behind A ps) q ≡ (open_in v A q && not (mem ps q))
open_behind v A [] q = ap (λ B. open_in v B q) (append-nil A) ∙ sym (and_true_right (open_in v A q))
  where
    and_true_right : (b : Bool) → (b && true) ≡ b
    and_true_right true = refl
    and_true_right false = refl
open_behind v A (p ∷ ps) q = ap (λ B. open_in v B q) (behind_next A p ps) ∙ open_behind v (A ++ Lacks p ∷ []) ps q ∙ ap (λ b. b && not (mem ps q)) (open_leave v A p q) ∙ both_out (open_in v A q) (eqb p q) (mem ps q)
  where
    both_out : (a b c : Bool) → ((a && not b) && not c) ≡ (a && not (b || c))
    both_out true true c = refl
    both_out true false c = refl
    both_out false b c = refl

no_more : (l o h m : Bool) → m ≡ (l && (o && h)) → false ≡ (l && ((o && not m) && h))
no_more true true true m e = ap (λ b. not b && true) (sym e)
no_more true true false m e = sym (and_false (not m))
  where
    and_false : (b : Bool) → (b && false) ≡ false
    and_false true = refl
    and_false false = refl
no_more true false h m e = refl
no_more false o h m e = refl

-- no tiling of the family lacks all options of an item that is due, so nothing remains to be swept once they are left out
pub item_swept : (v : View) (A : List Atom) (i : Item) (ps : List ℕ) (found : List (List ℕ)) (rests : List (List Atom)) → distinct v.live ≡ true → is_due (record { scene = v; atoms = A; given = 0 }) i ≡ true →
    ((p : ℕ) → mem ps p ≡ (mem v.live p && (open_in v A p && has_item v p i))) → Swept v (behind A ps) found found rests rests × IsLighter v (behind A ps) rests rests
item_swept v A i ps found rests d due m =
    let B = behind A ps in
    let short = subst (λ n. nat_lt (count v (base v B) i) n ≡ true) (sym (least_behind v A ps i)) (subst (λ xs. nat_lt (count v xs i) (least_at v A i) ≡ true) (sym (base_behind v A ps)) due) in
    let none = λ (p : ℕ). no_more (mem v.live p) (open_in v A p) (has_item v p i) (mem ps p) (m p) ∙ ap (λ b. mem v.live p && (b && has_item v p i)) (sym (open_behind v A ps p)) in
    let fit = options_fit v B i [] d refl none short in
    let z = one-le-pow (open_count v B) 3 (omega arith) in (starved_swept v B i found rests fit, omega arith)

not_before : (ps : List ℕ) (j : ℕ) → distinct ps ≡ true → j < length ps → mem (take j ps) (get_or ps j 0) ≡ false
not_before ps zero d h = refl
not_before [] (suc j) d h = absurd (omega arith)
not_before (p ∷ ps) (suc j) d h =
    let hs = and_parts (list_all (λ y. cond (eqb p y) false true) ps) (distinct ps) d in
    let at = get_or ps j 0 in
    let other = all_in (λ y. cond (eqb p y) false true) ps hs.0 at (in_at ps j (omega arith)) in
    or_none (eqb p at) (mem (take j ps) at) (not_same (eqb p at) other) (not_before ps j hs.1 (omega arith))
  where
    or_none : (a b : Bool) → a ≡ false → b ≡ false → (a || b) ≡ false
    or_none true b e f = e
    or_none false b e f = f

    not_same : (b : Bool) → cond b false true ≡ true → b ≡ false
    not_same true e = sym e
    not_same false e = refl

-- an option is open after the options before it are left out
pub option_behind : (v : View) (A : List Atom) (i : Item) (ps : List ℕ) (j : ℕ) → j < length ps → distinct ps ≡ true → ((p : ℕ) → mem ps p ≡ (mem v.live p && (open_in v A p && has_item v p i))) →
    (mem v.live (get_or ps j 0) ≡ true) × (open_in v (behind A (take j ps)) (get_or ps j 0) ≡ true)
option_behind v A i ps j h d m =
    let p = get_or ps j 0 in
    let e = and_parts (mem v.live p) (open_in v A p && has_item v p i) (sym (m p) ∙ in_mem ps p (in_at ps j h)) in
    (e.0, open_behind v A (take j ps) p ∙ and_from _ _ (and_parts (open_in v A p) (has_item v p i) e.1).0 (ap not (not_before ps j d h)))

pub behind_more : (A : List Atom) (ps : List ℕ) (j : ℕ) → j < length ps → behind A (take (j + 1) ps) ≡ behind A (take j ps) ++ Lacks (get_or ps j 0) ∷ []
behind_more A ps j h =
    ap (behind A) (take_more ps j 0 h) ∙ ap (λ xs. A ++ xs) (map-append (λ q. Lacks q) (take j ps) (get_or ps j 0 ∷ [])) ∙ sym (append_assoc A (map (λ q. Lacks q) (take j ps)) (Lacks (get_or ps j 0) ∷ []))

pub family_ascends : (v : View) (A : List Atom) (T : List ℕ) → in_family v A T ≡ true → ascending T ≡ true
family_ascends v A T h = (parts v T (and_parts (is_tiling v T) (meets_all v T A) h).0).up
