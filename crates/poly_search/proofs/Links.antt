-- A chain of Splits over arms, one arm after another.
use Rattle.std.proofs.Common.{◌≡◌, ℕ, ◌+◌, ◌-◌, ◌<◌, ◌≤◌, true, false, cond, List, [], ◌∷◌, ◌++◌, inl, refl, sym, ap, subst, ◌∙◌, arith, map, append_assoc, length, take, get_or, zero, suc}
use Rattle.std.specs.Prelude.{nat_lt}
use Rattle.std.proofs.lemmas.List.{append-nil, map-append}
use Rattle.std.proofs.lemmas.Bool.{and_from, or_right, lt-ltb}
use Rattle.poly_atom.specs.declared.atom.Atom.{Atom}
use Rattle.poly_atom.specs.declared.atom.Atom.TheVariants.{Has, Lacks}
use Rattle.poly_tiling.specs.Lists.{mem, distinct}
use Rattle.poly_tiling.specs.Puzzle.{View}
use Rattle.poly_tiling.proofs.Lists.{In, in_append_right, in_map}
use Rattle.poly_report.specs.declared.tree.Arm.{Arm}
use Rattle.poly_report.specs.Trees.{Plan, Rests, Splits, Arms, NoArms, OneArm, heads}
use Rattle.poly_report.specs.Shapes.{plan_of, arms_list}
use Rattle.poly_frame.specs.Open.{dead, open_in}
use Rattle.poly_report.specs.Holds.{holds, arm_atoms}
use Rattle.poly_report.specs.Leaves.{rests}
use Rattle.poly_report.specs.Sizes.{total, arms_total, inner, arms_inner, deep, is_rest, all_fewer, Grown}
use Rattle.poly_frame.specs.Walk.{Walk, open_count}
use Rattle.poly_tiling.specs.declared.item.Item.{Item}
use Rattle.poly_search.specs.Chains.{chain, Serves, Ends, Chains}
use Rattle.poly_search.specs.Grows.{snoc}
use Rattle.poly_search.proofs.Arms.{Options}
use Rattle.poly_search.proofs.Nodes.{list_snoc, heads_snoc, both, cut, child_at, option_at}
use Rattle.poly_search.proofs.Opens.{fewer_has, fewer_lacks}

pub chain_snoc : (arms : Arms) (p : ℕ) (t end : Plan) → chain (snoc arms p t) end ≡ chain arms (Splits p t end)
chain_snoc NoArms p t end = refl
chain_snoc (OneArm q u arms) p t end = ap (Splits q u) (chain_snoc arms p t end)

-- the chain over a list of arms is the chain over all but the last arm, ended by a Split on the last
pub chain_last : (arms : List Arm) (p : ℕ) (taken : Plan) (a : Arm) (end : Plan) → a.placement ≡ p → plan_of a.tree ≡ taken → chain (arms_list (arms ++ a ∷ [])) end ≡ chain (arms_list arms) (Splits p taken end)
chain_last arms p taken a end e t =
    ap (λ x. chain x end) (list_snoc arms a) ∙ chain_snoc (arms_list arms) a.placement (plan_of a.tree) end
    ∙ ap (λ n. chain (arms_list arms) (Splits n (plan_of a.tree) end)) e ∙ ap (λ x. chain (arms_list arms) (Splits p x end)) t

pub total_chain : (arms : Arms) (end : Plan) → total (chain arms end) ≡ arms_total arms + length (heads arms) + total end
total_chain NoArms end = omega arith
total_chain (OneArm p t arms) end = omega (arith, total_chain arms end)

pub inner_chain : (arms : Arms) (end : Plan) → inner (chain arms end) ≡ arms_inner arms + length (heads arms) + inner end
inner_chain NoArms end = omega arith
inner_chain (OneArm p t arms) end = omega (arith, inner_chain arms end)

-- a chain over an empty list of arms is its end alone, so `Chains` holds for the empty list
pub no_chain : (v : View) (A : List Atom) (d : ℕ) → Chains v A d NoArms
no_chain v A d end e =
    let path : A ++ [] ≡ A = append-nil A in
    record {
      right = subst (λ B. holds v B end ≡ true) path e.right;
      low = let l = e.low in omega arith;
      less = subst (λ B. all_fewer v A (rests v B end) ≡ true) path e.less;
    }

-- `Chains` holds for one more arm: if a tree may end the longer chain, the Split on the arm with this tree as its `left` may
-- end the shorter one
pub more_chain : (v : View) (A : List Atom) (d : ℕ) (arms : Arms) (p : ℕ) (t : Plan) → distinct v.live ≡ true → mem v.live p ≡ true → open_in v A p ≡ true →
    Chains v A d arms → Grown v (A ++ arm_atoms (heads arms) p) (d - 1 - length (heads arms)) t → length (heads arms) < d → Chains v A d (snoc arms p t)
more_chain v A d arms p t dis m o links g fits end e =
    let ps = heads arms in
    let L = map (λ q. Lacks q) ps in
    let names : heads (snoc arms p t) ≡ ps ++ p ∷ [] = heads_snoc arms p t in
    let left : A ++ map (λ q. Lacks q) (heads (snoc arms p t)) ≡ (A ++ L) ++ Lacks p ∷ [] =
    ap (λ xs. A ++ map (λ q. Lacks q) xs) names ∙ ap (λ xs. A ++ xs) (map-append (λ q. Lacks q) ps (p ∷ [])) ∙ sym (append_assoc A L (Lacks p ∷ [])) in
    let taken : A ++ arm_atoms ps p ≡ (A ++ L) ++ Has p ∷ [] = sym (append_assoc A L (Has p ∷ [])) in
    let count : length (heads (snoc arms p t)) ≡ length ps + 1 = ap length names ∙ more_length ps p in
    let under : Ends v A d ps (Splits p t end) = record {
      right = and_from _ _ (subst (λ B. holds v B end ≡ true) left e.right) (or_right (dead v (A ++ L) p) _ (subst (λ B. holds v B t ≡ true) taken g.right));
      low = let a = g.low in let b = e.low in omega arith;
      less = both (λ B. nat_lt (open_count v B) (open_count v A)) (cond (dead v (A ++ L) p) [] (rests v ((A ++ L) ++ Has p ∷ []) t)) (rests v ((A ++ L) ++ Lacks p ∷ []) end)
          (cut (λ B. nat_lt (open_count v B) (open_count v A)) (dead v (A ++ L) p) (rests v ((A ++ L) ++ Has p ∷ []) t)
          (subst (λ B. all_fewer v A (rests v B t) ≡ true) taken
          (child_at v A (A ++ arm_atoms ps p) t (fewer_has v A (arm_atoms ps p) p dis m o (in_append_right (Has p) A (arm_atoms ps p) (in_append_right (Has p) L (Has p ∷ []) (inl refl)))) g.less)))
          (subst (λ B. all_fewer v A (rests v B end) ≡ true) left e.less);
    } in
    subst (λ x. Serves v A d x) (sym (chain_snoc arms p t end)) (links (Splits p t end) under)
  where
    more_length : (xs : List ℕ) (x : ℕ) → length (xs ++ x ∷ []) ≡ length xs + 1
    more_length [] x = refl
    more_length (y ∷ ys) x = omega (arith, more_length ys x)

-- a Rest may end a chain if one of the chain's placements is open and the number of arms is less than the depth
pub rest_ends : (v : View) (A : List Atom) (d : ℕ) (ps : List ℕ) (p : ℕ) → In p ps → distinct v.live ≡ true → mem v.live p ≡ true → open_in v A p ≡ true → length ps < d → Ends v A d ps Rests
rest_ends v A d ps p i dis m o h = record {
  right = refl;
  low = omega arith;
  less = and_from _ _ (lt-ltb _ _ (fewer_lacks v A (map (λ q. Lacks q) ps) p dis m o (in_append_right (Lacks p) A (map (λ q. Lacks q) ps) (in_map (λ q. Lacks q) ps p i)))) refl;
}

in_front : (ps : List ℕ) (n : ℕ) → 1 ≤ n → n ≤ length ps → In (get_or ps 0 0) (take n ps)
in_front [] n a b = absurd (omega arith)
in_front (q ∷ qs) zero a b = absurd (omega arith)
in_front (q ∷ qs) (suc n) a b = inl refl

pub grown_deeper : (v : View) (A : List Atom) (d e : ℕ) (t : Plan) → d ≤ e → Grown v A d t → Grown v A e t
grown_deeper v A d e t h g = record { right = g.right; low = let l = g.low in omega arith; less = g.less }

-- a chain over the options that were walked, with Rest for the others, is grown for the atoms
pub chain_grown : (w : Walk) (d n : ℕ) (i : Item) (arms : Arms) (ps : List ℕ) → distinct w.scene.live ≡ true → Options w i ps → heads arms ≡ take n ps → length (heads arms) ≡ n → n ≤ length ps → 1 ≤ n → n < d → Chains w.scene w.atoms d arms →
    Grown w.scene w.atoms d (chain arms Rests)
chain_grown w d n i arms ps dis opts names len few some deep links =
    let o = option_at w i ps 0 (omega arith) opts.1 in
    let here = subst (λ xs. In (get_or ps 0 0) xs) (sym names) (in_front ps n some few) in
    let s = links Rests (rest_ends w.scene w.atoms d (heads arms) (get_or ps 0 0) here dis o.0 o.1 (omega (arith, len))) in
    record { right = s.right; low = s.low; less = or_right (is_rest (chain arms Rests)) _ s.less }

pub chain_no_rest : (arms : Arms) → 1 ≤ length (heads arms) → is_rest (chain arms Rests) ≡ false
chain_no_rest NoArms h = absurd (omega arith)
chain_no_rest (OneArm p t arms) h = refl

-- a walk that may become a chain still may after its next arm
pub linked_next : (w : Walk) (d j : ℕ) (i : Item) (arms : Arms) (t : Plan) (ps : List ℕ) → j < length ps → distinct w.scene.live ≡ true → Options w i ps → length (heads arms) ≡ j → j < d →
    Chains w.scene w.atoms d arms → Grown w.scene (w.atoms ++ arm_atoms (heads arms) (get_or ps j 0)) (d - 1 - j) t → Chains w.scene w.atoms d (snoc arms (get_or ps j 0) t)
linked_next w d j i arms t ps h dis opts len deep links g =
    let o = option_at w i ps j h opts.1 in
    let at : Grown w.scene (w.atoms ++ arm_atoms (heads arms) (get_or ps j 0)) (d - 1 - length (heads arms)) t = subst (λ k. Grown w.scene (w.atoms ++ arm_atoms (heads arms) (get_or ps j 0)) (d - 1 - k) t) (sym len) g in
    more_chain w.scene w.atoms d arms (get_or ps j 0) t dis o.0 o.1 links at (omega (arith, len))
