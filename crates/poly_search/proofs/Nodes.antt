-- How a tree that holds is grown, node by node.
use Rattle.std.proofs.Common.{◌≡◌, ℕ, ◌<◌, ◌≤◌, ◌+◌, Bool, true, false, cond, ◌&&◌, ◌||◌, List, [], ◌∷◌, ◌++◌, inl, inr, refl, sym, ap, subst, ◌∙◌, arith, nat_lt, map, append_assoc, length, take, get_or, zero, suc}
use Rattle.std.specs.List.{list_all}
use Rattle.std.proofs.lemmas.List.{append-nil, take_at, take_more, map-append}
use Rattle.std.proofs.lemmas.Bool.{and_parts, and_from, or_right, lt-ltb, ltb-true}
use Rattle.poly_tiling.specs.declared.item.Item.{Item}
use Rattle.poly_atom.specs.declared.atom.Atom.{Atom}
use Rattle.poly_atom.specs.declared.atom.Atom.TheVariants.{Has, Lacks}
use Rattle.poly_tiling.specs.Lists.{mem, distinct}
use Rattle.poly_tiling.specs.Puzzle.{View, has_item}
use Rattle.poly_report.specs.Trees.{Plan, Rests, Finds, Branches, Splits, Arms, NoArms, OneArm, heads}
use Rattle.poly_frame.specs.Open.{open_in, dead, arms_fit}
use Rattle.poly_report.specs.Holds.{arm_atoms, holds, arms_hold}
use Rattle.poly_report.specs.Leaves.{rests, arms_rests}
use Rattle.poly_frame.specs.Walk.{Walk, with_step, backtrack_to, is_open, is_option, open_count}
use Rattle.poly_tiling.proofs.Lists.{In, all_in, all_from, all_append, in_append_right, in_mem}
use Rattle.poly_report.specs.declared.tree.Arm.{Arm}
use Rattle.poly_report.specs.Shapes.{plan_of, arms_list}
use Rattle.poly_report.specs.Sizes.{total, arms_total, inner, arms_inner, deep, arms_deep, is_rest, all_fewer, Grown, ArmsGrown}
use Rattle.poly_search.specs.Grows.{snoc}
use Rattle.poly_search.specs.Walked.{past}
use Rattle.poly_search.proofs.Opens.{fewer_has, fewer_lacks}

pub list_snoc : (xs : List Arm) (a : Arm) → arms_list (xs ++ a ∷ []) ≡ snoc (arms_list xs) a.placement (plan_of a.tree)
list_snoc [] a = refl
list_snoc (x ∷ xs) a = ap (OneArm x.placement (plan_of x.tree)) (list_snoc xs a)

pub heads_snoc : (arms : Arms) (p : ℕ) (t : Plan) → heads (snoc arms p t) ≡ heads arms ++ p ∷ []
heads_snoc NoArms p t = refl
heads_snoc (OneArm q u arms) p t = ap (λ xs. q ∷ xs) (heads_snoc arms p t)

pub total_snoc : (arms : Arms) (p : ℕ) (t : Plan) → arms_total (snoc arms p t) ≡ arms_total arms + total t
total_snoc NoArms p t = omega arith
total_snoc (OneArm q u arms) p t = omega (arith, total_snoc arms p t)

pub inner_snoc : (arms : Arms) (p : ℕ) (t : Plan) → arms_inner (snoc arms p t) ≡ arms_inner arms + inner t
inner_snoc NoArms p t = omega arith
inner_snoc (OneArm q u arms) p t = omega (arith, inner_snoc arms p t)

deep_snoc : (arms : Arms) (p : ℕ) (t : Plan) (d : ℕ) → arms_deep arms ≤ d → deep t ≤ d → arms_deep (snoc arms p t) ≤ d
deep_snoc NoArms p t d h k = omega arith
deep_snoc (OneArm q u arms) p t d h k = omega (arith, deep_snoc arms p t d (omega arith) k)

hold_snoc : (v : View) (A : List Atom) (before : List ℕ) (arms : Arms) (p : ℕ) (t : Plan) → arms_hold v A before arms ≡ true → holds v (A ++ arm_atoms (before ++ heads arms) p) t ≡ true → arms_hold v A before (snoc arms p t) ≡ true
hold_snoc v A before NoArms p t h k = and_from _ _ (or_right (dead v A p) _ (subst (λ xs. holds v (A ++ arm_atoms xs p) t ≡ true) (append-nil before) k)) refl
hold_snoc v A before (OneArm q u arms) p t h k =
    let hs = and_parts (dead v A q || holds v (A ++ arm_atoms before q) u) (arms_hold v A (before ++ q ∷ []) arms) h in
    and_from _ _ hs.0 (hold_snoc v A (before ++ q ∷ []) arms p t hs.1 (subst (λ xs. holds v (A ++ arm_atoms xs p) t ≡ true) (sym (append_assoc before (q ∷ []) (heads arms))) k))

pub cut : (f : List Atom → Bool) (d : Bool) (xs : List (List Atom)) → list_all f xs ≡ true → list_all f (cond d [] xs) ≡ true
cut f true xs h = refl
cut f false xs h = h

cut_parts : (f : List Atom → Bool) (xs ys : List (List Atom)) → list_all f (xs ++ ys) ≡ true → (list_all f xs ≡ true) × (list_all f ys ≡ true)
cut_parts f xs ys h = and_parts (list_all f xs) (list_all f ys) (sym (all_append f xs ys) ∙ h)

pub both : (f : List Atom → Bool) (xs ys : List (List Atom)) → list_all f xs ≡ true → list_all f ys ≡ true → list_all f (xs ++ ys) ≡ true
both f xs ys h k = all_append f xs ys ∙ and_from _ _ h k

rests_snoc : (f : List Atom → Bool) (v : View) (A : List Atom) (before : List ℕ) (arms : Arms) (p : ℕ) (t : Plan) → list_all f (arms_rests v A before arms) ≡ true → list_all f (rests v (A ++ arm_atoms (before ++ heads arms) p) t) ≡ true → list_all f (arms_rests v A before (snoc arms p t)) ≡ true
rests_snoc f v A before NoArms p t h k =
    both f (cond (dead v A p) [] (rests v (A ++ arm_atoms before p) t)) [] (cut f (dead v A p) (rests v (A ++ arm_atoms before p) t) (subst (λ xs. list_all f (rests v (A ++ arm_atoms xs p) t) ≡ true) (append-nil before) k)) refl
rests_snoc f v A before (OneArm q u arms) p t h k =
    let hs = cut_parts f (cond (dead v A q) [] (rests v (A ++ arm_atoms before q) u)) (arms_rests v A (before ++ q ∷ []) arms) h in
    both f (cond (dead v A q) [] (rests v (A ++ arm_atoms before q) u)) (arms_rests v A (before ++ q ∷ []) (snoc arms p t)) hs.0
    (rests_snoc f v A (before ++ q ∷ []) arms p t hs.1 (subst (λ xs. list_all f (rests v (A ++ arm_atoms xs p) t) ≡ true) (sym (append_assoc before (q ∷ []) (heads arms))) k))

-- if fewer placements are open at a child, fewer are open at each rest of the child's tree too
pub child_at : (v : View) (A B : List Atom) (t : Plan) → open_count v B < open_count v A → (is_rest t || all_fewer v B (rests v B t)) ≡ true → all_fewer v A (rests v B t) ≡ true
child_at v A B Rests l h = and_from _ _ (lt-ltb (open_count v B) (open_count v A) l) refl
child_at v A B Finds l h = refl
child_at v A B (Branches i arms) l h = all_from (λ C. nat_lt (open_count v C) (open_count v A)) (rests v B (Branches i arms)) (λ C k. let a = ltb-true _ _ (all_in (λ C. nat_lt (open_count v C) (open_count v B)) (rests v B (Branches i arms)) h C k) in lt-ltb (open_count v C) (open_count v A) (omega arith))
child_at v A B (Splits q u w) l h = all_from (λ C. nat_lt (open_count v C) (open_count v A)) (rests v B (Splits q u w)) (λ C k. let a = ltb-true _ _ (all_in (λ C. nat_lt (open_count v C) (open_count v B)) (rests v B (Splits q u w)) h C k) in lt-ltb (open_count v C) (open_count v A) (omega arith))

pub split_grown : (v : View) (A : List Atom) (d : ℕ) (q : ℕ) (t u : Plan) → distinct v.live ≡ true → mem v.live q ≡ true → open_in v A q ≡ true →
    Grown v (A ++ Has q ∷ []) d t → Grown v (A ++ Lacks q ∷ []) d u → Grown v A (d + 1) (Splits q t u)
split_grown v A d q t u dis m o gt gu = record {
  right = and_from _ _ gu.right (or_right (dead v A q) _ gt.right);
  low = let a = gt.low in let b = gu.low in omega arith;
  less = both (λ B. nat_lt (open_count v B) (open_count v A)) (cond (dead v A q) [] (rests v (A ++ Has q ∷ []) t)) (rests v (A ++ Lacks q ∷ []) u)
      (cut (λ B. nat_lt (open_count v B) (open_count v A)) (dead v A q) (rests v (A ++ Has q ∷ []) t) (child_at v A (A ++ Has q ∷ []) t (fewer_has v A (Has q ∷ []) q dis m o (in_append_right (Has q) A (Has q ∷ []) (inl refl))) gt.less))
      (child_at v A (A ++ Lacks q ∷ []) u (fewer_lacks v A (Lacks q ∷ []) q dis m o (in_append_right (Lacks q) A (Lacks q ∷ []) (inl refl))) gu.less);
}

pub no_arms_grown : (v : View) (A : List Atom) (d : ℕ) → ArmsGrown v A d NoArms
no_arms_grown v A d = record { right = refl; low = omega arith; less = refl }

pub arm_grown : (v : View) (A : List Atom) (d : ℕ) (arms : Arms) (p : ℕ) (t : Plan) → distinct v.live ≡ true → mem v.live p ≡ true → open_in v A p ≡ true →
    ArmsGrown v A d arms → Grown v (A ++ arm_atoms (heads arms) p) d t → ArmsGrown v A d (snoc arms p t)
arm_grown v A d arms p t dis m o ga gt =
    let X = arm_atoms (heads arms) p in
    record {
      right = hold_snoc v A [] arms p t ga.right gt.right;
      low = deep_snoc arms p t d ga.low gt.low;
      less = rests_snoc (λ B. nat_lt (open_count v B) (open_count v A)) v A [] arms p t ga.less
          (child_at v A (A ++ X) t (fewer_has v A X p dis m o (in_append_right (Has p) A X (in_append_right (Has p) (map (λ q. Lacks q) (heads arms)) (Has p ∷ []) (inl refl)))) gt.less);
    }

pub branch_grown : (v : View) (A : List Atom) (d : ℕ) (i : Item) (arms : Arms) → arms_fit v A i (heads arms) ≡ true → ArmsGrown v A d arms → Grown v A (d + 1) (Branches i arms)
branch_grown v A d i arms f g = record { right = and_from _ _ f g.right; low = let a = g.low in omega arith; less = g.less }

pub past_next : (w wl wn : Walk) (ps : List ℕ) (j : ℕ) → j < length ps → wl ≡ past w (take j ps) → wn ≡ with_step wl (Lacks (get_or ps j 0)) → wn ≡ past w (take (j + 1) ps)
past_next w wl wn ps j h e n =
    let p = get_or ps j 0 in
    n ∙ ap (λ x. with_step x (Lacks p)) e ∙ ap (λ xs. record w { atoms = xs }) (append_assoc w.atoms (map (λ q. Lacks q) (take j ps)) (Lacks p ∷ []) ∙ ap (λ xs. w.atoms ++ xs) (sym (map-append (λ q. Lacks q) (take j ps) (p ∷ [])) ∙ ap (λ xs. map (λ q. Lacks q) xs) (sym (take_more ps j 0 h))))

-- undoing these steps leads back to the walk
pub past_back : (w wl : Walk) (ps : List ℕ) → wl ≡ past w ps → backtrack_to wl (length w.atoms) ≡ w
past_back w wl ps e = ap (λ x. backtrack_to x (length w.atoms)) e ∙ ap (λ xs. record w { atoms = xs }) (take_at w.atoms (map (λ q. Lacks q) ps) (length w.atoms) refl)

pub in_at : (xs : List ℕ) (j : ℕ) → j < length xs → In (get_or xs j 0) xs
in_at [] j h = absurd (omega arith)
in_at (x ∷ xs) zero h = inl refl
in_at (x ∷ xs) (suc j) h = inr (in_at xs j (omega arith))

-- each option is a placement of the design that is open
pub option_at : (w : Walk) (i : Item) (ps : List ℕ) (j : ℕ) → j < length ps → ((p : ℕ) → mem ps p ≡ (mem w.scene.live p && is_option w i p)) → (mem w.scene.live (get_or ps j 0) ≡ true) × (is_open w (get_or ps j 0) ≡ true)
option_at w i ps j h m =
    let p = get_or ps j 0 in
    let e = and_parts (mem w.scene.live p) (is_option w i p) (sym (m p) ∙ in_mem ps p (in_at ps j h)) in
    (e.0, (and_parts (is_open w p) (has_item w.scene p i) e.1).0)

pub total_some : (t : Plan) → 1 ≤ total t
total_some Rests = omega arith
total_some Finds = omega arith
total_some (Branches i arms) = omega arith
total_some (Splits q t u) = omega arith
