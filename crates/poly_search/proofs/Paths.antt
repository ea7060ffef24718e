-- A tree that is grown takes and leaves out only open placements.
use Rattle.std.proofs.Common.{List, [], append_assoc, get_or, length, map, refl, subst, sym, take, true, ℕ, ◌&&◌, ◌++◌, ◌<◌, ◌∷◌, ◌≡◌}
use Rattle.std.proofs.lemmas.Bool.{and_from, and_parts}
use Rattle.std.proofs.lemmas.List.{append-nil}
use Rattle.poly_atom.specs.declared.atom.Atom.{Atom}
use Rattle.poly_atom.specs.declared.atom.Atom.TheVariants.{Has, Lacks}
use Rattle.poly_tiling.specs.Lists.{mem}
use Rattle.poly_tiling.specs.Puzzle.{View}
use Rattle.poly_tiling.specs.declared.item.Item.{Item}
use Rattle.poly_report.specs.Trees.{Arms, NoArms, OneArm, Plan, Rests, heads}
use Rattle.poly_report.specs.Holds.{arm_atoms}
use Rattle.poly_report.specs.Opened.{arms_opened, can_take, opened}
use Rattle.poly_frame.specs.Open.{open_in}
use Rattle.poly_frame.specs.Walk.{Walk}
use Rattle.poly_search.specs.Chains.{chain}
use Rattle.poly_search.proofs.Arms.{Options}
use Rattle.poly_search.proofs.Gathered.{behind_next}
use Rattle.poly_search.specs.Grows.{snoc}
use Rattle.poly_search.proofs.Swept.{option_behind}

-- one more arm, on a placement that is open after the others are left out
opened_snoc : (v : View) (A : List Atom) (before : List ℕ) (arms : Arms) (p : ℕ) (t : Plan) → arms_opened v A before arms ≡ true → can_take v (A ++ map (λ q. Lacks q) (before ++ heads arms)) p ≡ true →
    opened v (A ++ arm_atoms (before ++ heads arms) p) t ≡ true → arms_opened v A before (snoc arms p t) ≡ true
opened_snoc v A before NoArms p t h o k =
    let here = subst (λ xs. can_take v (A ++ map (λ q. Lacks q) xs) p ≡ true) (append-nil before) o in
    let under = subst (λ xs. opened v (A ++ arm_atoms xs p) t ≡ true) (append-nil before) k in
    and_from (can_take v (A ++ map (λ q. Lacks q) before) p) (opened v (A ++ arm_atoms before p) t && true) here (and_from (opened v (A ++ arm_atoms before p) t) true under refl)
opened_snoc v A before (OneArm q u arms) p t h o k =
    let next : (before ++ q ∷ []) ++ heads arms ≡ before ++ q ∷ heads arms = append_assoc before (q ∷ []) (heads arms) in
    let first = can_take v (A ++ map (λ r. Lacks r) before) q in
    let tree = opened v (A ++ arm_atoms before q) u in
    let hs = and_parts first (tree && arms_opened v A (before ++ q ∷ []) arms) h in
    let both = and_parts tree (arms_opened v A (before ++ q ∷ []) arms) hs.1 in
    let more = opened_snoc v A (before ++ q ∷ []) arms p t both.1 (subst (λ xs. can_take v (A ++ map (λ r. Lacks r) xs) p ≡ true) (sym next) o) (subst (λ xs. opened v (A ++ arm_atoms xs p) t ≡ true) (sym next) k) in
    and_from first (tree && arms_opened v A (before ++ q ∷ []) (snoc arms p t)) hs.0 (and_from tree (arms_opened v A (before ++ q ∷ []) (snoc arms p t)) both.0 more)

-- a chain over arms with Rest at its end
pub opened_chain : (v : View) (A : List Atom) (before : List ℕ) (arms : Arms) → arms_opened v A before arms ≡ true → opened v (A ++ map (λ q. Lacks q) before) (chain arms Rests) ≡ true
opened_chain v A before NoArms h = refl
opened_chain v A before (OneArm p t arms) h =
    let B = A ++ map (λ q. Lacks q) before in
    let first = can_take v B p in
    let tree = opened v (A ++ arm_atoms before p) t in
    let hs = and_parts first (tree && arms_opened v A (before ++ p ∷ []) arms) h in
    let both = and_parts tree (arms_opened v A (before ++ p ∷ []) arms) hs.1 in
    let taken : A ++ arm_atoms before p ≡ B ++ Has p ∷ [] = sym (append_assoc A (map (λ q. Lacks q) before) (Has p ∷ [])) in
    let under = subst (λ C. opened v C t ≡ true) taken both.0 in
    let left = subst (λ C. opened v C (chain arms Rests) ≡ true) (sym (behind_next A before p)) (opened_chain v A (before ++ p ∷ []) arms both.1) in
    and_from first (opened v (B ++ Has p ∷ []) t && opened v (B ++ Lacks p ∷ []) (chain arms Rests)) hs.0 (and_from (opened v (B ++ Has p ∷ []) t) (opened v (B ++ Lacks p ∷ []) (chain arms Rests)) under left)

-- the next arm of a walk
pub opened_next : (w : Walk) (i : Item) (arms : Arms) (ps : List ℕ) (j : ℕ) (t : Plan) → j < length ps → Options w i ps → heads arms ≡ take j ps → arms_opened w.scene w.atoms [] arms ≡ true →
    opened w.scene (w.atoms ++ arm_atoms (heads arms) (get_or ps j 0)) t ≡ true → arms_opened w.scene w.atoms [] (snoc arms (get_or ps j 0) t) ≡ true
opened_next w i arms ps j t h opts names before tree =
    let p = get_or ps j 0 in
    let o = option_behind w.scene w.atoms i ps j h opts.0 opts.1 in
    let free = subst (λ xs. can_take w.scene (w.atoms ++ map (λ q. Lacks q) xs) p ≡ true) (sym names) (and_from (mem w.scene.live p) (open_in w.scene (w.atoms ++ map (λ q. Lacks q) (take j ps)) p) o.0 o.1) in
    opened_snoc w.scene w.atoms [] arms p t before free tree
