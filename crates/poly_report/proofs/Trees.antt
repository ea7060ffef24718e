-- A tree that holds divides its family among its tilings and its rests.
use Rattle.std.proofs.Common.{◌≡◌, ℕ, ◌+◌, Bool, true, false, cond, not, ◌&&◌, ◌||◌, List, [], ◌∷◌, ◌++◌, inl, inr, refl, sym, ap, subst, ◌∙◌, arith, map, nat_lt}
use Rattle.std.proofs.lemmas.List.{map-append}
use Rattle.std.specs.List.{list_any, list_all}
use Rattle.std.proofs.lemmas.Bool.{ltb-true, and_parts, and_from, not-true, both_ways, not_from_false, false_from_ne_true, true≢false, cases_Bool}
use Rattle.poly_tiling.specs.Lists.{one, tally, mem, same_list}
use Rattle.poly_tiling.specs.Lists.{distinct}
use Rattle.poly_tiling.specs.declared.item.Item.{Item}
use Rattle.poly_tiling.specs.Puzzle.{View, has_item, is_tiling}
use Rattle.poly_atom.specs.declared.atom.Atom.{Atom}
use Rattle.poly_atom.specs.declared.atom.Atom.TheVariants.{Has, Lacks}
use Rattle.poly_atom.specs.Atoms.{meets, meets_all, in_family}
use Rattle.poly_atom.specs.Hopeless.{base}
use Rattle.poly_report.specs.Trees.{Plan, Rests, Finds, Branches, Splits, Arms, NoArms, OneArm, heads}
use Rattle.poly_frame.specs.Open.{ruled_out, open_in, dead, least_with_base, arms_fit}
use Rattle.poly_report.specs.Holds.{arm_atoms, holds, arms_hold}
use Rattle.poly_report.specs.Leaves.{tilings, arms_tilings, rests, arms_rests}
use Rattle.poly_report.specs.Laws.{TreesShareOut}
use Rattle.poly_tiling.proofs.Lists.{all_in, any_from, mem_in, in_mem, tally_append, all_append}
use Rattle.poly_tiling.proofs.Ascending.{ascending_same, same_list_self, same_list_is}
use Rattle.poly_tiling.proofs.Counts.{tally_within, ascending_distinct}
use Rattle.poly_atom.proofs.Stairs.{meets_push, one_split, and_true}
use Rattle.poly_tiling.proofs.Tilings.{IsTiling, parts}
use Rattle.poly_atom.proofs.Bases.{base_up, base_within, base_fewer}
use Rattle.poly_frame.proofs.Ruled.{not_ruled_out, dead_is_out, least_is}

-- if no placement is open, each tiling of the family is the base
found_same : (v : View) (T : List ℕ) (A : List Atom) → IsTiling v T → meets_all v T A ≡ true → holds v A Finds ≡ true → base v A ≡ T
found_same v T A t m h = ascending_same (base v A) T (base_up v A) t.up (base_within v T A t m)
    (λ p i. mem_in (base v A) p (elim (cases_Bool (mem (base v A) p)) [
      | inl y ↦ y
      | inr n ↦
          let closed = not-true _ (all_in (λ q. not (open_in v A q)) v.live h p (t.placed p i)) in
          absurd (both_ways (open_in v A p) closed (and_from _ _ (not_from_false _ n) (not_from_false _ (not_ruled_out v T A t m p i))))
    ]))

found_at : (v : View) (T : List ℕ) (A : List Atom) → is_tiling v T ≡ true → holds v A Finds ≡ true → (b : Bool) → in_family v A (base v A) ≡ b → (c : Bool) → meets_all v T A ≡ c →
    tally (λ U. same_list U T) (cond b (base v A ∷ []) []) ≡ one c
found_at v T A t h true f true m = omega (arith, ap one (ap (λ U. same_list U T) (found_same v T A (parts v T t) m h) ∙ same_list_self T))
found_at v T A t h true f false m = omega (
  arith,
  ap one (false_from_ne_true (same_list (base v A) T) (λ s.
      both_ways (meets_all v T A) m (subst (λ U. meets_all v U A ≡ true) (same_list_is (base v A) T s) (and_parts (is_tiling v (base v A)) (meets_all v (base v A) A) f).1))),
)
found_at v T A t h false f true m = absurd (both_ways (in_family v A T) (subst (λ U. in_family v A U ≡ false) (found_same v T A (parts v T t) m h) f) (and_from (is_tiling v T) (meets_all v T A) t m))
found_at v T A t h false f false m = refl

-- if the arms fit, each tiling of the family has the placement of some arm
some_arm : (v : View) (T : List ℕ) (A : List Atom) (i : Item) (ps : List ℕ) → IsTiling v T → meets_all v T A ≡ true → arms_fit v A i ps ≡ true → list_any (λ p. mem T p) ps ≡ true
some_arm v T A i ps t m f = elim (cases_Bool (list_any (λ p. mem T p) ps)) [
  | inl y ↦ y
  | inr n ↦
      let loose = λ (p : ℕ). has_item v p i && not (ruled_out v A p) && not (mem ps p) in
      let f1 = and_parts (distinct ps && list_all (λ p. has_item v p i) ps) (nat_lt (tally loose v.live) (least_with_base v A i)) f in
      let short = ltb-true (tally loose v.live) (least_with_base v A i) f1.1 in
      let many = tally_within (λ p. has_item v p i) loose T v.live (ascending_distinct T t.up)
      (λ p k e. (
        t.placed p k,
        and_from _ _ (and_from _ _ e (not_from_false _ (not_ruled_out v T A t m p k)))
            (not_from_false _ (false_from_ne_true (mem ps p) (λ q. both_ways (list_any (λ p. mem T p) ps) n (any_from (λ p. mem T p) ps p (mem_in ps p q) (in_mem T p k))))),
      )) in
      let a = least_is v T i (t.enough i) A m in
      let b = base_fewer v T A t m (λ p. has_item v p i) in
      absurd (omega arith)
]

-- the tiling has none of the placements of the earlier arms
none_of : View → List ℕ → List ℕ → Bool
none_of v T before = meets_all v T (map (λ q. Lacks q) before)

none_push : (v : View) (T before : List ℕ) (p : ℕ) → none_of v T (before ++ p ∷ []) ≡ (none_of v T before && not (mem T p))
unfolding none_of
none_push v T before p = ap (λ A. meets_all v T A) (map-append (λ q. Lacks q) before (p ∷ [])) ∙ meets_push v T (map (λ q. Lacks q) before) (Lacks p)

arm_split : (m n h a : Bool) → one (m && (h && n)) + one (m && ((n && not h) && a)) ≡ one (m && (n && (h || a)))
arm_split true true true a = refl
arm_split true true false a = omega arith
arm_split true false true a = refl
arm_split true false false a = refl
arm_split false n h a = refl

-- the leaves under one placement; a dead placement has none
child : (f : List ℕ → Bool) (g : List Atom → Bool) (d : Bool) (Us : List (List ℕ)) (Bs : List (List Atom)) (m : Bool) → (d ≡ true → m ≡ false) → (d ≡ false → tally f Us + tally g Bs ≡ one m) →
    tally f (cond d [] Us) + tally g (cond d [] Bs) ≡ one m
child f g true Us Bs m none some = sym (ap one (none refl))
child f g false Us Bs m none some = some refl

no_member : (v : View) (T : List ℕ) (A : List Atom) (p : ℕ) (b : Bool) → is_tiling v T ≡ true → dead v A p ≡ true → (meets_all v T A && (mem T p && b)) ≡ false
no_member v T A p b t d = false_from_ne_true _ (λ h. let e = and_parts _ _ h in both_ways (mem T p) (dead_is_out v T A (parts v T t) e.0 p d) (and_parts _ _ e.1).0)

live_child : (d h : Bool) → (d || h) ≡ true → d ≡ false → h ≡ true
live_child true h e f = absurd (true≢false f)
live_child false h e f = e

no_arm : (m n : Bool) → (m && (n && false)) ≡ false
no_arm true true = refl
no_arm true false = refl
no_arm false n = refl

turn : (m n : Bool) → (m && (n && true)) ≡ (n && m)
turn true true = refl
turn true false = refl
turn false true = refl
turn false false = refl

arm_met : (v : View) (T : List ℕ) (A : List Atom) (before : List ℕ) (p : ℕ) → (meets_all v T A && meets_all v T (arm_atoms before p)) ≡ (meets_all v T A && (mem T p && none_of v T before))
unfolding none_of
arm_met v T A before p = ap (λ b. meets_all v T A && b) (all_append (λ a. meets v T a) (map (λ q. Lacks q) before) (Has p ∷ []) ∙ turn (none_of v T before) (mem T p))

any_arm : (v : View) (T ps : List ℕ) (m : Bool) → (m ≡ true → list_any (λ p. mem T p) ps ≡ true) → one (m && (none_of v T [] && list_any (λ p. mem T p) ps)) ≡ one m
unfolding none_of
any_arm v T ps true h = ap one (h refl)
any_arm v T ps false h = refl

joined : {X Y : Type 0} (f : X → Bool) (g : Y → Bool) (xs ys : List X) (us vs : List Y) → tally f (xs ++ ys) + tally g (us ++ vs) ≡ (tally f xs + tally g us) + (tally f ys + tally g vs)
joined f g xs ys us vs = omega (arith, tally_append f xs ys, tally_append g us vs)

mutual
  shared : (v : View) (A : List Atom) (t : Plan) (T : List ℕ) → is_tiling v T ≡ true → holds v A t ≡ true →
      tally (λ U. same_list U T) (tilings v A t) + tally (λ B. meets_all v T B) (rests v A t) ≡ one (meets_all v T A)
  shared v A Rests T t h = omega arith
  shared v A Finds T t h = let e = found_at v T A t h _ refl _ refl in omega arith
  shared v A (Branches i arms) T t h =
      let fit = and_parts (arms_fit v A i (heads arms)) (arms_hold v A [] arms) h in
      arms_shared v A [] arms T t fit.1 ∙ any_arm v T (heads arms) (meets_all v T A) (λ m. some_arm v T A i (heads arms) (parts v T t) m fit.0)
  shared v A (Splits q taken left) T t h =
      let hs = and_parts (holds v (A ++ Lacks q ∷ []) left) (dead v A q || holds v (A ++ Has q ∷ []) taken) h in
      let with = child (λ U. same_list U T) (λ B. meets_all v T B) (dead v A q) (tilings v (A ++ Has q ∷ []) taken) (rests v (A ++ Has q ∷ []) taken) (meets_all v T A && (mem T q && true))
      (no_member v T A q true t)
      (λ n. shared v (A ++ Has q ∷ []) taken T t (live_child _ _ hs.1 n) ∙ ap one (all_append (λ a. meets v T a) A (Has q ∷ []))) in
      let without = shared v (A ++ Lacks q ∷ []) left T t hs.0 ∙ ap one (meets_push v T A (Lacks q)) in
      omega (arith, joined (λ U. same_list U T) (λ B. meets_all v T B) (cond (dead v A q) [] (tilings v (A ++ Has q ∷ []) taken)) (tilings v (A ++ Lacks q ∷ []) left) (cond (dead v A q) [] (rests v (A ++ Has q ∷ []) taken)) (rests v (A ++ Lacks q ∷ []) left), with, without, ap (λ b. one (meets_all v T A && b)) (and_true (mem T q)), one_split (meets_all v T A) (mem T q))

  arms_shared : (v : View) (A : List Atom) (before : List ℕ) (arms : Arms) (T : List ℕ) → is_tiling v T ≡ true → arms_hold v A before arms ≡ true →
      tally (λ U. same_list U T) (arms_tilings v A before arms) + tally (λ B. meets_all v T B) (arms_rests v A before arms)
      ≡ one (meets_all v T A && (none_of v T before && list_any (λ p. mem T p) (heads arms)))
  arms_shared v A before NoArms T t h = sym (ap one (no_arm (meets_all v T A) (none_of v T before)))
  arms_shared v A before (OneArm p u arms) T t h =
      let hs = and_parts (dead v A p || holds v (A ++ arm_atoms before p) u) (arms_hold v A (before ++ p ∷ []) arms) h in
      let here = child (λ U. same_list U T) (λ B. meets_all v T B) (dead v A p) (tilings v (A ++ arm_atoms before p) u) (rests v (A ++ arm_atoms before p) u) (meets_all v T A && (mem T p && none_of v T before))
      (no_member v T A p (none_of v T before) t)
      (λ n. shared v (A ++ arm_atoms before p) u T t (live_child _ _ hs.0 n) ∙ ap one (all_append (λ a. meets v T a) A (arm_atoms before p) ∙ arm_met v T A before p)) in
      let more = arms_shared v A (before ++ p ∷ []) arms T t hs.1 ∙ ap (λ b. one (meets_all v T A && (b && list_any (λ q. mem T q) (heads arms)))) (none_push v T before p) in
      omega (arith, joined (λ U. same_list U T) (λ B. meets_all v T B) (cond (dead v A p) [] (tilings v (A ++ arm_atoms before p) u)) (arms_tilings v A (before ++ p ∷ []) arms) (cond (dead v A p) [] (rests v (A ++ arm_atoms before p) u)) (arms_rests v A (before ++ p ∷ []) arms), here, more, arm_split (meets_all v T A) (none_of v T before) (mem T p) (list_any (λ q. mem T q) (heads arms)))

pub trees_share_out_lem : TreesShareOut
trees_share_out_lem = shared
