-- The leaves of a tree, gathered node by node.
use Rattle.std.proofs.Common.{Bool, List, [], ap, append_assoc, cond, drop, eqb, false, length, map, not, refl, subst, sym, take, true, ℕ, ◌++◌, ◌||◌, ◌∙◌, ◌∷◌, ◌≡◌}
use Rattle.std.proofs.lemmas.Bool.{and_from, and_parts, ne_eqb, not-true, true≢false}
use Rattle.std.proofs.lemmas.List.{append-nil, map-append, take-append-drop, take_at}
use Rattle.std.specs.List.{list_any}
use Rattle.poly_tiling.specs.Lists.{distinct, mem}
use Rattle.poly_tiling.specs.Puzzle.{View}
use Rattle.poly_tiling.proofs.Ascending.{distinct_rest, not_head}
use Rattle.poly_tiling.proofs.Lists.{In, all_from, in_append_left}
use Rattle.poly_atom.specs.declared.atom.Atom.{Atom}
use Rattle.poly_atom.specs.declared.atom.Atom.TheVariants.{Has, Lacks}
use Rattle.poly_atom.specs.Hopeless.{base, lacks}
use Rattle.poly_report.specs.Trees.{Arms, NoArms, OneArm, Plan, heads}
use Rattle.poly_report.specs.Holds.{arm_atoms}
use Rattle.poly_report.specs.Leaves.{arms_tilings, tilings}
use Rattle.poly_report.specs.Paths.{arms_paths, paths}
use Rattle.poly_frame.specs.Open.{dead, open_in, ruled_out}
use Rattle.poly_frame.specs.Walk.{Walk, with_step}
use Rattle.poly_report.proofs.Cuts.{apart_from, arm_paths, arm_tilings}
use Rattle.poly_search.specs.Chains.{chain}
use Rattle.poly_search.specs.Walked.{past}
use Rattle.poly_search.specs.Grows.{snoc}

first_false : (x y z : Bool) → (x || y || z) ≡ false → x ≡ false
first_false true y z h = absurd (true≢false h)
first_false false y z h = refl

-- an open placement isn't dead
pub open_alive : (v : View) (A : List Atom) (p : ℕ) → mem v.live p ≡ true → open_in v A p ≡ true → dead v A p ≡ false
open_alive v A p m o =
    let closed = not-true (ruled_out v A p) (and_parts (not (mem (base v A) p)) (not (ruled_out v A p)) o).1 in
    ap (λ b. not b || list_any (λ a. lacks a p) A) m ∙ first_false (list_any (λ a. lacks a p) A) _ _ closed

-- one more arm at the end adds its leaves at the end
pub snoc_tilings : (v : View) (A : List Atom) (before : List ℕ) (arms : Arms) (p : ℕ) (t : Plan) →
    arms_tilings v A before (snoc arms p t) ≡ arms_tilings v A before arms ++ cond (dead v A p) [] (tilings v (A ++ arm_atoms (before ++ heads arms) p) t)
snoc_tilings v A before NoArms p t =
    append-nil (cond (dead v A p) [] (tilings v (A ++ arm_atoms before p) t)) ∙ ap (λ xs. cond (dead v A p) [] (tilings v (A ++ arm_atoms xs p) t)) (sym (append-nil before))
snoc_tilings v A before (OneArm q u arms) p t =
    let first = cond (dead v A q) [] (tilings v (A ++ arm_atoms before q) u) in
    let more = arms_tilings v A (before ++ q ∷ []) arms in
    ap (λ xs. first ++ xs) (snoc_tilings v A (before ++ q ∷ []) arms p t)
    ∙ ap (λ ps. first ++ (more ++ cond (dead v A p) [] (tilings v (A ++ arm_atoms ps p) t))) (append_assoc before (q ∷ []) (heads arms))
    ∙ sym (append_assoc first more (cond (dead v A p) [] (tilings v (A ++ arm_atoms (before ++ q ∷ heads arms) p) t)))

pub snoc_paths : (g : ℕ) (v : View) (A : List Atom) (before : List ℕ) (arms : Arms) (p : ℕ) (t : Plan) →
    arms_paths g v A before (snoc arms p t) ≡ arms_paths g v A before arms ++ cond (dead v A p) [] (paths g v (A ++ arm_atoms (before ++ heads arms) p) t)
snoc_paths g v A before NoArms p t =
    append-nil (cond (dead v A p) [] (paths g v (A ++ arm_atoms before p) t)) ∙ ap (λ xs. cond (dead v A p) [] (paths g v (A ++ arm_atoms xs p) t)) (sym (append-nil before))
snoc_paths g v A before (OneArm q u arms) p t =
    let first = cond (dead v A q) [] (paths g v (A ++ arm_atoms before q) u) in
    let more = arms_paths g v A (before ++ q ∷ []) arms in
    ap (λ xs. first ++ xs) (snoc_paths g v A (before ++ q ∷ []) arms p t)
    ∙ ap (λ ps. first ++ (more ++ cond (dead v A p) [] (paths g v (A ++ arm_atoms ps p) t))) (append_assoc before (q ∷ []) (heads arms))
    ∙ sym (append_assoc first more (cond (dead v A p) [] (paths g v (A ++ arm_atoms (before ++ q ∷ heads arms) p) t)))

-- the atoms at an arm's tree
pub arm_path : (w wl wp : Walk) (ps hs : List ℕ) (p : ℕ) → wl ≡ past w ps → wp ≡ with_step wl (Has p) → hs ≡ ps → wp ≡ record w { atoms = w.atoms ++ arm_atoms hs p }
arm_path w wl wp ps hs p el ep e =
    ep ∙ ap (λ x. with_step x (Has p)) el ∙ ap (λ xs. record w { atoms = xs }) (append_assoc w.atoms (map (λ q. Lacks q) ps) (Has p ∷ []) ∙ ap (λ xs. w.atoms ++ arm_atoms xs p) (sym e))

-- if one more placement is left out, its atom comes after the atoms of those that were left out before; with this, the leaves
-- of a chain are those of its arms, followed by those of its end
pub behind_next : (A : List Atom) (before : List ℕ) (p : ℕ) → (A ++ map (λ q. Lacks q) before) ++ Lacks p ∷ [] ≡ A ++ map (λ q. Lacks q) (before ++ p ∷ [])
behind_next A before p = append_assoc A (map (λ q. Lacks q) before) (Lacks p ∷ []) ∙ ap (λ xs. A ++ xs) (sym (map-append (λ q. Lacks q) before (p ∷ [])))

pub chain_tilings : (v : View) (A : List Atom) (before : List ℕ) (arms : Arms) (end : Plan) → distinct (before ++ heads arms) ≡ true →
    tilings v (A ++ map (λ q. Lacks q) before) (chain arms end) ≡ arms_tilings v A before arms ++ tilings v (A ++ map (λ q. Lacks q) (before ++ heads arms)) end
chain_tilings v A before NoArms end d = ap (λ ps. tilings v (A ++ map (λ q. Lacks q) ps) end) (sym (append-nil before))
chain_tilings v A before (OneArm p t arms) end d =
    let names : (before ++ p ∷ []) ++ heads arms ≡ before ++ p ∷ heads arms = append_assoc before (p ∷ []) (heads arms) in
    let B = A ++ map (λ q. Lacks q) before in
    let first = cond (dead v A p) [] (tilings v (A ++ arm_atoms before p) t) in
    let more = arms_tilings v A (before ++ p ∷ []) arms in
    ap (λ xs. xs ++ tilings v (B ++ Lacks p ∷ []) (chain arms end)) (arm_tilings v A before p t (apart_from before p (heads arms) d))
    ∙ ap (λ C. first ++ tilings v C (chain arms end)) (behind_next A before p)
    ∙ ap (λ xs. first ++ xs) (chain_tilings v A (before ++ p ∷ []) arms end (subst (λ xs. distinct xs ≡ true) (sym names) d))
    ∙ ap (λ ps. first ++ (more ++ tilings v (A ++ map (λ q. Lacks q) ps) end)) names
    ∙ sym (append_assoc first more (tilings v (A ++ map (λ q. Lacks q) (before ++ p ∷ heads arms)) end))

pub chain_paths : (g : ℕ) (v : View) (A : List Atom) (before : List ℕ) (arms : Arms) (end : Plan) → distinct (before ++ heads arms) ≡ true →
    paths g v (A ++ map (λ q. Lacks q) before) (chain arms end) ≡ arms_paths g v A before arms ++ paths g v (A ++ map (λ q. Lacks q) (before ++ heads arms)) end
chain_paths g v A before NoArms end d = ap (λ ps. paths g v (A ++ map (λ q. Lacks q) ps) end) (sym (append-nil before))
chain_paths g v A before (OneArm p t arms) end d =
    let names : (before ++ p ∷ []) ++ heads arms ≡ before ++ p ∷ heads arms = append_assoc before (p ∷ []) (heads arms) in
    let B = A ++ map (λ q. Lacks q) before in
    let first = cond (dead v A p) [] (paths g v (A ++ arm_atoms before p) t) in
    let more = arms_paths g v A (before ++ p ∷ []) arms in
    ap (λ xs. xs ++ paths g v (B ++ Lacks p ∷ []) (chain arms end)) (arm_paths g v A before p t (apart_from before p (heads arms) d))
    ∙ ap (λ C. first ++ paths g v C (chain arms end)) (behind_next A before p)
    ∙ ap (λ xs. first ++ xs) (chain_paths g v A (before ++ p ∷ []) arms end (subst (λ xs. distinct xs ≡ true) (sym names) d))
    ∙ ap (λ ps. first ++ (more ++ paths g v (A ++ map (λ q. Lacks q) ps) end)) names
    ∙ sym (append_assoc first more (paths g v (A ++ map (λ q. Lacks q) (before ++ p ∷ heads arms)) end))

distinct_front : (xs ys : List ℕ) → distinct (xs ++ ys) ≡ true → distinct xs ≡ true
distinct_front [] ys d = refl
distinct_front (x ∷ xs) ys d =
    let apart = all_from (λ y. cond (eqb x y) false true) xs (λ y i. ap (λ b. cond b false true) (ne_eqb x y (λ e. not_head x (xs ++ ys) d (subst (λ z. In z (xs ++ ys)) (sym e) (in_append_left y xs ys i))))) in
    and_from _ _ apart (distinct_front xs ys (distinct_rest x (xs ++ ys) d))

-- no two arms have the same placement, since the arms that were walked are those of the first options
pub named_once : (ps names : List ℕ) (n : ℕ) → names ≡ take n ps → distinct ps ≡ true → distinct names ≡ true
named_once ps names n e d =
    subst (λ xs. distinct xs ≡ true) (sym e) (distinct_front (take n ps) (drop n ps) (subst (λ xs. distinct xs ≡ true) (sym (take-append-drop n ps)) d))

-- the leaves of a tree, removed again
pub leaves_cut : {X : Type 0} (old new short more : List X) (n : ℕ) → n ≡ length old → new ≡ old ++ more → short ≡ take n new → short ≡ old
leaves_cut old new short more n len e cut = cut ∙ ap (take n) e ∙ take_at old more n (sym len)
