-- One node of a tree, as the walk meets it.
use Rattle.std.proofs.Common.{Bool, List, [], ap, append_assoc, arith, cond, drop, eqb, false, get_or, inl, length, length-append, length-take, map, not, refl, subst, sym, take, true, ℕ, ◌&&◌, ◌+◌, ◌++◌, ◌<◌, ◌≤◌, ◌||◌, ◌∙◌, ◌∷◌, ◌≡◌}
use Rattle.std.proofs.lemmas.Bool.{and_parts, ne_eqb}
use Rattle.std.proofs.lemmas.List.{append-nil, at_drop_more, length-map, map-append, take-append-drop, take_more}
use Rattle.std.specs.List.{list_any}
use Rattle.poly_tiling.specs.Lists.{distinct, mem}
use Rattle.poly_tiling.specs.declared.item.Item.{Item}
use Rattle.poly_tiling.specs.Puzzle.{View}
use Rattle.poly_tiling.proofs.Lists.{any_append, in_append_right}
use Rattle.poly_tiling.proofs.Ascending.{distinct_rest, not_head}
use Rattle.poly_atom.specs.declared.atom.Atom.{Atom}
use Rattle.poly_atom.specs.declared.atom.Atom.TheVariants.{Has, Lacks}
use Rattle.poly_atom.specs.Hopeless.{lacks}
use Rattle.poly_report.specs.declared.tree.Arm.{Arm}
use Rattle.poly_report.specs.Shapes.{arms_list, plan_of}
use Rattle.poly_frame.specs.Walk.{Walk, with_step}
use Rattle.poly_report.specs.Trees.{Arms, Branches, NoArms, OneArm, Plan, heads}
use Rattle.poly_frame.specs.Open.{arms_fit, dead}
use Rattle.poly_report.specs.Holds.{arm_atoms, arms_hold, holds}
use Rattle.poly_report.specs.Leaves.{arms_tilings, tilings}
use Rattle.poly_report.specs.Paths.{arms_paths, paths}
use Rattle.poly_report.specs.Gather.{taken_holds, taken_paths, taken_tilings}
use Rattle.poly_frame.proofs.Walks.{or_false}

pub fit_once : (v : View) (A : List Atom) (i : Item) (ps : List ℕ) → arms_fit v A i ps ≡ true → distinct ps ≡ true
fit_once v A i ps h = (and_parts (distinct ps) _ (and_parts (distinct ps && _) _ h).0).0

-- the Lacks atoms of earlier arms lack exactly the placements of these arms
lacked_any : (before : List ℕ) (p : ℕ) → list_any (λ a. lacks a p) (map (λ q. Lacks q) before) ≡ mem before p
lacked_any [] p = refl
lacked_any (q ∷ before) p = ap (λ b. eqb q p || b) (lacked_any before p)

pub dead_behind : (v : View) (A : List Atom) (before : List ℕ) (p : ℕ) → mem before p ≡ false → dead v (A ++ map (λ q. Lacks q) before) p ≡ dead v A p
dead_behind v A before p n =
    ap (λ b. not (mem v.live p) || b)
    (any_append (λ a. lacks a p) A (map (λ q. Lacks q) before) ∙ ap (λ b. list_any (λ a. lacks a p) A || b) (lacked_any before p ∙ n) ∙ or_false (list_any (λ a. lacks a p) A))

atoms_behind : (A : List Atom) (before : List ℕ) (p : ℕ) → (A ++ map (λ q. Lacks q) before) ++ Has p ∷ [] ≡ A ++ arm_atoms before p
atoms_behind A before p = append_assoc A (map (λ q. Lacks q) before) (Has p ∷ [])

-- whether an arm's tree holds, and its leaves, once the placements of the arms before it are left out
pub arm_holds : (v : View) (A : List Atom) (before : List ℕ) (p : ℕ) (t : Plan) → mem before p ≡ false →
    taken_holds v (A ++ map (λ q. Lacks q) before) p t ≡ (dead v A p || holds v (A ++ arm_atoms before p) t)
arm_holds v A before p t n = ap (λ b. b || holds v ((A ++ map (λ q. Lacks q) before) ++ Has p ∷ []) t) (dead_behind v A before p n) ∙ ap (λ B. dead v A p || holds v B t) (atoms_behind A before p)

pub arm_tilings : (v : View) (A : List Atom) (before : List ℕ) (p : ℕ) (t : Plan) → mem before p ≡ false →
    taken_tilings v (A ++ map (λ q. Lacks q) before) p t ≡ cond (dead v A p) [] (tilings v (A ++ arm_atoms before p) t)
arm_tilings v A before p t n =
    ap (λ b. cond b [] (tilings v ((A ++ map (λ q. Lacks q) before) ++ Has p ∷ []) t)) (dead_behind v A before p n) ∙ ap (λ B. cond (dead v A p) [] (tilings v B t)) (atoms_behind A before p)

pub arm_paths : (g : ℕ) (v : View) (A : List Atom) (before : List ℕ) (p : ℕ) (t : Plan) → mem before p ≡ false →
    taken_paths g v (A ++ map (λ q. Lacks q) before) p t ≡ cond (dead v A p) [] (paths g v (A ++ arm_atoms before p) t)
arm_paths g v A before p t n =
    ap (λ b. cond b [] (paths g v ((A ++ map (λ q. Lacks q) before) ++ Has p ∷ []) t)) (dead_behind v A before p n) ∙ ap (λ B. cond (dead v A p) [] (paths g v B t)) (atoms_behind A before p)

-- in a list without repeats, p isn't among the numbers before it
pub apart_from : (xs : List ℕ) (p : ℕ) (ys : List ℕ) → distinct (xs ++ p ∷ ys) ≡ true → mem xs p ≡ false
apart_from [] p ys d = refl
apart_from (x ∷ xs) p ys d =
    let rest = apart_from xs p ys (distinct_rest x (xs ++ p ∷ ys) d) in
    let new : eqb x p ≡ false = ne_eqb x p (λ e. not_head x (xs ++ p ∷ ys) d (in_append_right x xs (p ∷ ys) (inl (sym e)))) in
    ap (λ b. b || mem xs p) new ∙ rest

-- the placements of the first k arms, which were walked, and the arms that are still to be walked
abbrev pub walked : List Arm → ℕ → List ℕ
walked arms k = map (λ a. a.placement) (take k arms)

abbrev pub unwalked : List Arm → ℕ → Arms
unwalked arms k = arms_list (drop k arms)

pub unwalked_at : (arms : List Arm) (k : ℕ) (a : Arm) → k < length arms → a ≡ get_or arms k a → unwalked arms k ≡ OneArm a.placement (plan_of a.tree) (unwalked arms (k + 1))
unwalked_at arms k a lt e = at_drop_more (λ xs. arms_list xs) arms k a lt ∙ ap (λ (x : Arm). arms_list (x ∷ drop (k + 1) arms)) (sym e)

pub walked_at : (arms : List Arm) (k : ℕ) (a : Arm) → k < length arms → a ≡ get_or arms k a → walked arms (k + 1) ≡ walked arms k ++ a.placement ∷ []
walked_at arms k a lt e =
    ap (λ (xs : List Arm). map (λ (b : Arm). b.placement) xs) (take_more arms k a lt ∙ ap (λ (x : Arm). take k arms ++ x ∷ []) (sym e))
    ∙ map-append (λ (b : Arm). b.placement) (take k arms) (a ∷ [])

heads_map : (arms : List Arm) → heads (arms_list arms) ≡ map (λ (b : Arm). b.placement) arms
heads_map [] = refl
heads_map (a ∷ arms) = ap (λ ps. a.placement ∷ ps) (heads_map arms)

heads_parts : (arms : List Arm) (k : ℕ) → heads (arms_list arms) ≡ walked arms k ++ heads (unwalked arms k)
heads_parts arms k =
    heads_map arms ∙ ap (λ (xs : List Arm). map (λ (b : Arm). b.placement) xs) (sym (take-append-drop k arms))
    ∙ map-append (λ (b : Arm). b.placement) (take k arms) (drop k arms)
    ∙ ap (λ ps. walked arms k ++ ps) (sym (heads_map (drop k arms)))

pub apart_at : (arms : List Arm) (k : ℕ) (a : Arm) → k < length arms → a ≡ get_or arms k a → distinct (heads (arms_list arms)) ≡ true → mem (walked arms k) a.placement ≡ false
apart_at arms k a lt e d =
    apart_from (walked arms k) a.placement (heads (unwalked arms (k + 1)))
    (subst (λ xs. distinct xs ≡ true) (heads_parts arms k ∙ ap (λ r. walked arms k ++ heads r) (unwalked_at arms k a lt e)) d)

-- the atoms at the k-th arm
abbrev pub at_arm : View → List Atom → ℕ → List Arm → ℕ → Walk
at_arm v A g arms k = record { scene = v; atoms = A ++ map (λ q. Lacks q) (walked arms k); given = g }

pub says_at : (v : View) (A : List Atom) (g : ℕ) (arms : List Arm) (k : ℕ) (a : Arm) → k < length arms → a ≡ get_or arms k a → distinct (heads (arms_list arms)) ≡ true →
    (w : Walk) → w ≡ at_arm v A g arms k → (b : Bool) → b ≡ taken_holds w.scene w.atoms a.placement (plan_of a.tree) →
    arms_hold v A (walked arms k) (unwalked arms k) ≡ (b && arms_hold v A (walked arms (k + 1)) (unwalked arms (k + 1)))
says_at v A g arms k a lt e d w here b says =
    let p = a.placement in
    let t = plan_of a.tree in
    let it = says ∙ ap (λ (x : Walk). taken_holds x.scene x.atoms p t) here ∙ arm_holds v A (walked arms k) p t (apart_at arms k a lt e d) in
    ap (λ r. arms_hold v A (walked arms k) r) (unwalked_at arms k a lt e)
    ∙ ap (λ h. h && arms_hold v A (walked arms k ++ p ∷ []) (unwalked arms (k + 1))) (sym it)
    ∙ ap (λ xs. b && arms_hold v A xs (unwalked arms (k + 1))) (sym (walked_at arms k a lt e))

pub tilings_at : (v : View) (A : List Atom) (g : ℕ) (arms : List Arm) (k : ℕ) (a : Arm) → k < length arms → a ≡ get_or arms k a → distinct (heads (arms_list arms)) ≡ true →
    (w : Walk) → w ≡ at_arm v A g arms k → (old new : List (List ℕ)) → new ≡ old ++ taken_tilings w.scene w.atoms a.placement (plan_of a.tree) →
    new ++ arms_tilings v A (walked arms (k + 1)) (unwalked arms (k + 1)) ≡ old ++ arms_tilings v A (walked arms k) (unwalked arms k)
tilings_at v A g arms k a lt e d w here old new more =
    let p = a.placement in
    let t = plan_of a.tree in
    let it = ap (λ (x : Walk). taken_tilings x.scene x.atoms p t) here ∙ arm_tilings v A (walked arms k) p t (apart_at arms k a lt e d) in
    let first = cond (dead v A p) [] (tilings v (A ++ arm_atoms (walked arms k) p) t) in
    let rest = arms_tilings v A (walked arms k ++ p ∷ []) (unwalked arms (k + 1)) in
    ap (λ xs. new ++ arms_tilings v A xs (unwalked arms (k + 1))) (walked_at arms k a lt e)
    ∙ ap (λ xs. xs ++ rest) (more ∙ ap (λ xs. old ++ xs) it) ∙ append_assoc old first rest
    ∙ ap (λ r. old ++ arms_tilings v A (walked arms k) r) (sym (unwalked_at arms k a lt e))

pub paths_at : (v : View) (A : List Atom) (g : ℕ) (arms : List Arm) (k : ℕ) (a : Arm) → k < length arms → a ≡ get_or arms k a → distinct (heads (arms_list arms)) ≡ true →
    (w : Walk) → w ≡ at_arm v A g arms k → (old new : List (List Atom)) → new ≡ old ++ taken_paths w.given w.scene w.atoms a.placement (plan_of a.tree) →
    new ++ arms_paths g v A (walked arms (k + 1)) (unwalked arms (k + 1)) ≡ old ++ arms_paths g v A (walked arms k) (unwalked arms k)
paths_at v A g arms k a lt e d w here old new more =
    let p = a.placement in
    let t = plan_of a.tree in
    let it = ap (λ (x : Walk). taken_paths x.given x.scene x.atoms p t) here ∙ arm_paths g v A (walked arms k) p t (apart_at arms k a lt e d) in
    let first = cond (dead v A p) [] (paths g v (A ++ arm_atoms (walked arms k) p) t) in
    let rest = arms_paths g v A (walked arms k ++ p ∷ []) (unwalked arms (k + 1)) in
    ap (λ xs. new ++ arms_paths g v A xs (unwalked arms (k + 1))) (walked_at arms k a lt e)
    ∙ ap (λ xs. xs ++ rest) (more ∙ ap (λ xs. old ++ xs) it) ∙ append_assoc old first rest
    ∙ ap (λ r. old ++ arms_paths g v A (walked arms k) r) (sym (unwalked_at arms k a lt e))

pub leave_at : (v : View) (A : List Atom) (g : ℕ) (arms : List Arm) (k : ℕ) (a : Arm) → k < length arms → a ≡ get_or arms k a →
    (w : Walk) → w ≡ at_arm v A g arms k → with_step w (Lacks a.placement) ≡ at_arm v A g arms (k + 1)
leave_at v A g arms k a lt e w here =
    let p = a.placement in
    let lacked = λ (xs : List ℕ). map (λ q. Lacks q) xs in
    ap (λ (x : Walk). with_step x (Lacks p)) here
    ∙ ap (λ (B : List Atom). let x : Walk = record { scene = v; atoms = B; given = g } in x)
    (append_assoc A (lacked (walked arms k)) (Lacks p ∷ []) ∙ ap (λ B. A ++ B) (sym (map-append (λ q. Lacks q) (walked arms k) (p ∷ []))) ∙ ap (λ xs. A ++ lacked xs) (sym (walked_at arms k a lt e)))

-- whether a Branch holds, by its arms
pub branch_says : (v : View) (A : List Atom) (t : Plan) (i : Item) (arms : List Arm) → t ≡ Branches i (arms_list arms) → (fit : Bool) → fit ≡ arms_fit v A i (heads (arms_list arms)) →
    holds v A t ≡ (fit && arms_hold v A [] (arms_list arms))
branch_says v A t i arms e fit h = ap (λ x. holds v A x) e ∙ ap (λ b. b && arms_hold v A [] (arms_list arms)) (sym h)

-- at most k atoms are added before the k-th arm
pub length_at : (A : List Atom) (arms : List Arm) (k : ℕ) → length (A ++ map (λ q. Lacks q) (walked arms k)) ≤ length A + k
length_at A arms k =
    let lacked : List Atom = map (λ q. Lacks q) (walked arms k) in
    let a = length-append A lacked in
    let b = length-map (walked arms k) (λ q. Lacks q) in
    let d = length-map (take k arms) (λ (x : Arm). x.placement) in
    let e = length-take k arms in
    omega arith

-- a Branch without arms, under a placement that is not dead: it holds exactly if an empty list of arms fits; it has no leaves
bare : (x : Bool) → x ≡ (x && true)
bare true = refl
bare false = refl

pub bare_says : (v : View) (A : List Atom) (p : ℕ) (i : Item) (t : Plan) (b : Bool) → t ≡ Branches i NoArms → dead v A p ≡ false → b ≡ arms_fit v (A ++ Has p ∷ []) i [] → b ≡ taken_holds v A p t
bare_says v A p i t b e d h =
    h ∙ bare (arms_fit v (A ++ Has p ∷ []) i []) ∙ sym (ap (λ x. x || holds v (A ++ Has p ∷ []) (Branches i NoArms)) d)
    ∙ ap (λ x. taken_holds v A p x) (sym e)

pub bare_tilings : (v : View) (A : List Atom) (p : ℕ) (i : Item) (t : Plan) (found : List (List ℕ)) → t ≡ Branches i NoArms → dead v A p ≡ false → found ≡ found ++ taken_tilings v A p t
bare_tilings v A p i t found e d = sym (append-nil found) ∙ ap (λ x. found ++ x) (sym (ap (λ x. cond x [] []) d) ∙ ap (λ x. taken_tilings v A p x) (sym e))

pub bare_paths : (g : ℕ) (v : View) (A : List Atom) (p : ℕ) (i : Item) (t : Plan) (left : List (List Atom)) → t ≡ Branches i NoArms → dead v A p ≡ false → left ≡ left ++ taken_paths g v A p t
bare_paths g v A p i t left e d = sym (append-nil left) ∙ ap (λ x. left ++ x) (sym (ap (λ x. cond x [] []) d) ∙ ap (λ x. taken_paths g v A p x) (sym e))

pub no_arms : (arms : List Arm) → length arms ≡ 0 → arms_list arms ≡ NoArms
no_arms [] h = refl
no_arms (a ∷ arms) h = absurd (omega (arith, h))
