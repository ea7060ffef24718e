-- What a growth adds, node by node: the plan, what it costs, and its leaves.
use Rattle.std.proofs.Common.{◌≡◌, ℕ, ◌+◌, ◌-◌, ◌<◌, ◌≤◌, true, false, not, cond, List, [], ◌∷◌, ◌++◌, refl, sym, ap, subst, ◌∙◌, arith, append_assoc, length, length-append, map, take, drop, get_or, ◌||◌}
use Rattle.std.specs.List.{list_all}
use Rattle.std.proofs.lemmas.List.{append-nil, length-map, length-take-le, take_all}
use Rattle.std.proofs.lemmas.Bool.{and_from, le-leb, le-ltb, lt-ltb}
use Rattle.poly_atom.specs.declared.atom.Atom.{Atom}
use Rattle.poly_atom.specs.declared.atom.Atom.TheVariants.{Has, Lacks}
use Rattle.poly_tiling.specs.declared.item.Item.{Item}
use Rattle.poly_tiling.specs.Lists.{distinct, mem}
use Rattle.poly_report.specs.Trees.{Arms, Branches, Finds, NoArms, Plan, Rests, Splits, heads}
use Rattle.poly_report.specs.Holds.{arm_atoms}
use Rattle.poly_report.specs.Leaves.{arms_tilings, rests, tilings}
use Rattle.poly_report.specs.Opened.{opened}
use Rattle.poly_report.specs.Paths.{arms_paths, paths}
use Rattle.poly_report.specs.Sizes.{Grown, all_fewer, deep, is_rest, total}
use Rattle.poly_report.specs.declared.size.TheConstants.{DEPTH, NODES}
use Rattle.poly_report.proofs.Followed.{followed}
use Rattle.poly_tiling.specs.Puzzle.{View}
use Rattle.poly_search.specs.Searches.{IsExplored}
use Rattle.poly_frame.specs.Open.{arms_fit, open_in}
use Rattle.poly_frame.specs.Walk.{Walk, is_due, is_open, with_step}
use Rattle.poly_search.specs.Chains.{chain}
use Rattle.poly_search.specs.Grows.{ArmsGrow, Grows, Stand, snoc}
use Rattle.poly_search.specs.Walked.{Walked, past}
use Rattle.poly_search.proofs.Arms.{Options}
use Rattle.poly_search.proofs.Gathered.{arm_path, chain_paths, chain_tilings, named_once, open_alive, snoc_paths, snoc_tilings}
use Rattle.poly_search.proofs.Links.{chain_grown, chain_no_rest, grown_deeper, inner_chain, total_chain}
use Rattle.poly_search.proofs.Nodes.{arm_grown, branch_grown, inner_snoc, no_arms_grown, option_at, split_grown, total_snoc}
use Rattle.poly_search.proofs.Opens.{options_fit}
use Rattle.poly_search.proofs.Paths.{opened_next, opened_chain}

pub rest_grows : (w : Walk) (d : ℕ) (old new : Stand) → 1 ≤ d → new.nodes + 1 ≡ old.nodes → new.inner ≤ old.inner → new.found ≡ old.found → new.left ≡ old.left ++ drop w.given w.atoms ∷ [] → Grows w d old new Rests
rest_grows w d old new low nodes inner found left = record {
  grown = record { right = refl; low = low; less = refl };
  opened = refl;
  nodes = nodes;
  inner = omega (arith, inner);
  tilings = found ∙ sym (append-nil old.found);
  paths = left;
}

pub found_grows : (w : Walk) (d : ℕ) (old new : Stand) → 1 ≤ d → list_all (λ p. not (is_open w p)) w.scene.live ≡ true → new.nodes + 1 ≡ old.nodes → new.inner + 1 ≡ old.inner → new.found ≡ old.found ++ tilings w.scene w.atoms Finds → new.left ≡ old.left → Grows w d old new Finds
found_grows w d old new low none nodes inner found left = record {
  grown = record { right = none; low = low; less = refl };
  opened = refl;
  nodes = nodes;
  inner = omega (arith, inner);
  tilings = found;
  paths = left ∙ sym (append-nil old.left);
}

-- a Branch without arms, on an item that leaves none to it
pub dead_end_grows : (w : Walk) (d : ℕ) (i : Item) (old new : Stand) → 2 ≤ d → arms_fit w.scene w.atoms i [] ≡ true → new.nodes + 1 ≡ old.nodes → new.inner + 1 ≡ old.inner → new.found ≡ old.found → new.left ≡ old.left → Grows w d old new (Branches i NoArms)
dead_end_grows w d i old new low fit nodes inner found left = record {
  grown = grown_deeper w.scene w.atoms 1 d (Branches i NoArms) (omega arith) (branch_grown w.scene w.atoms 0 i NoArms fit (no_arms_grown w.scene w.atoms 0));
  opened = refl;
  nodes = omega (arith, nodes);
  inner = omega (arith, inner);
  tilings = found ∙ sym (append-nil old.found);
  paths = left ∙ sym (append-nil old.left);
}

pub none_fit : (w : Walk) (i : Item) (ps : List ℕ) → length ps ≡ 0 → distinct w.scene.live ≡ true → Options w i ps → is_due w i ≡ true → arms_fit w.scene w.atoms i [] ≡ true
none_fit w i [] none dis opts due = options_fit w.scene w.atoms i [] dis refl opts.1 due
none_fit w i (p ∷ ps) none dis opts due = absurd (omega (arith, none))

-- a Split on an open placement
pub split_grows : (w wp wl : Walk) (d q : ℕ) (old mid new : Stand) (t u : Plan) → 2 ≤ d → 1 ≤ old.nodes → 1 ≤ old.inner → distinct w.scene.live ≡ true → mem w.scene.live q ≡ true → is_open w q ≡ true → wp ≡ with_step w (Has q) → wl ≡ with_step w (Lacks q) →
    Grows wp (d - 1) (record old { nodes = old.nodes - 1; inner = old.inner - 1 }) mid t → Grows wl (d - 1) mid new u → Grows w d old new (Splits q t u)
split_grows w wp wl d q old mid new t u low some many dis m o ep el taken left =
    let v = w.scene in
    let a = subst (λ x. Grows x (d - 1) (record old { nodes = old.nodes - 1; inner = old.inner - 1 }) mid t) ep taken in
    let b = subst (λ x. Grows x (d - 1) mid new u) el left in
    let alive = open_alive v w.atoms q m o in
    let depth : (d - 1) + 1 ≡ d = omega arith in
    record {
      grown = subst (λ k. Grown v w.atoms k (Splits q t u)) depth (split_grown v w.atoms (d - 1) q t u dis m o a.grown b.grown);
      opened = and_from _ _ (and_from (mem v.live q) (open_in v w.atoms q) m o) (and_from (opened v (w.atoms ++ Has q ∷ []) t) (opened v (w.atoms ++ Lacks q ∷ []) u) a.opened b.opened);
      nodes = omega (arith, a.nodes, b.nodes);
      inner = omega (arith, a.inner, b.inner);
      tilings = b.tilings ∙ ap (λ xs. xs ++ tilings v (w.atoms ++ Lacks q ∷ []) u) a.tilings ∙ append_assoc old.found (tilings v (w.atoms ++ Has q ∷ []) t) (tilings v (w.atoms ++ Lacks q ∷ []) u) ∙ ap (λ x. old.found ++ (cond x [] (tilings v (w.atoms ++ Has q ∷ []) t) ++ tilings v (w.atoms ++ Lacks q ∷ []) u)) (sym alive);
      paths = b.paths ∙ ap (λ xs. xs ++ paths w.given v (w.atoms ++ Lacks q ∷ []) u) a.paths ∙ append_assoc old.left (paths w.given v (w.atoms ++ Has q ∷ []) t) (paths w.given v (w.atoms ++ Lacks q ∷ []) u) ∙ ap (λ x. old.left ++ (cond x [] (paths w.given v (w.atoms ++ Has q ∷ []) t) ++ paths w.given v (w.atoms ++ Lacks q ∷ []) u)) (sym alive);
    }

pub arms_none : (w : Walk) (d : ℕ) (s : Stand) → ArmsGrow w d s (record s { inner = s.inner + 0 }) NoArms
arms_none w d s = record {
  grown = no_arms_grown w.scene w.atoms d;
  opened = refl;
  nodes = omega arith;
  inner = omega arith;
  tilings = sym (append-nil s.found);
  paths = sym (append-nil s.left);
}

-- One more arm, on the next option. Before its tree is grown, nodes that aren't Rest may be held back, so that `held` of them are.
pub arms_next : (w wl : Walk) (d e : ℕ) (i : Item) (ps : List ℕ) (j held : ℕ) (old mid start new : Stand) (arms : Arms) (t : Plan) → j < length ps → e ≤ d → distinct w.scene.live ≡ true → Options w i ps → wl ≡ past w (take j ps) → heads arms ≡ take j ps →
    start ≡ record mid { inner = start.inner } → start.inner + held ≤ mid.inner → ArmsGrow w d old mid arms → Grows (with_step wl (Has (get_or ps j 0))) e start new t → ArmsGrow w d old (record new { inner = new.inner + held }) (snoc arms (get_or ps j 0) t)
arms_next w wl d e i ps j held old mid start new arms t lt low dis opts here names same spent a g =
    let v = w.scene in
    let p = get_or ps j 0 in
    let X = w.atoms ++ arm_atoms (heads arms) p in
    let o = option_at w i ps j lt opts.1 in
    let alive = open_alive v w.atoms p o.0 o.1 in
    let b = subst (λ x. Grows x e start new t) (arm_path w wl (with_step wl (Has p)) (take j ps) (heads arms) p here refl names) g in
    let these = arms_tilings v w.atoms [] arms in
    let those = arms_paths w.given v w.atoms [] arms in
    record {
      grown = arm_grown v w.atoms d arms p t dis o.0 o.1 a.grown (grown_deeper v X e d t low b.grown);
      opened = opened_next w i arms ps j t lt opts names a.opened b.opened;
      nodes = omega (arith, total_snoc arms p t, b.nodes, a.nodes, ap (λ (s : Stand). s.nodes) same);
      inner = omega (arith, inner_snoc arms p t, b.inner, a.inner, spent);
      tilings = b.tilings ∙ ap (λ (s : Stand). s.found ++ tilings v X t) same ∙ ap (λ xs. xs ++ tilings v X t) a.tilings ∙ append_assoc old.found these (tilings v X t)
          ∙ ap (λ x. old.found ++ (these ++ cond x [] (tilings v X t))) (sym alive) ∙ ap (λ xs. old.found ++ xs) (sym (snoc_tilings v w.atoms [] arms p t));
      paths = b.paths ∙ ap (λ (s : Stand). s.left ++ paths w.given v X t) same ∙ ap (λ xs. xs ++ paths w.given v X t) a.paths ∙ append_assoc old.left those (paths w.given v X t)
          ∙ ap (λ x. old.left ++ (those ++ cond x [] (paths w.given v X t))) (sym alive) ∙ ap (λ xs. old.left ++ xs) (sym (snoc_paths w.given v w.atoms [] arms p t));
    }

-- a Branch on an item that is due, with an arm for each option
pub branch_grows : (w : Walk) (d kept : ℕ) (i : Item) (ps : List ℕ) (old new : Stand) (held n : ℕ) (arms : Arms) → 2 ≤ d → distinct w.scene.live ≡ true → Options w i ps → is_due w i ≡ true → 1 ≤ old.nodes → 1 ≤ old.inner → length ps ≤ n →
    Walked w d kept ps (record old { nodes = old.nodes - 1; inner = old.inner - 1 }) new held n arms → Grows w d old (record new { inner = new.inner + held }) (Branches i arms)
branch_grows w d kept i ps old new held n arms low dis opts due some many all walked =
    let a = walked.grows in
    let names : heads arms ≡ ps = walked.names ∙ take_all n ps all in
    let fit = subst (λ xs. arms_fit w.scene w.atoms i xs ≡ true) (sym names) (options_fit w.scene w.atoms i ps dis opts.0 opts.1 due) in
    let depth : (d - 1) + 1 ≡ d = omega arith in
    record {
      grown = subst (λ k. Grown w.scene w.atoms k (Branches i arms)) depth (branch_grown w.scene w.atoms (d - 1) i arms fit a.grown);
      opened = a.opened;
      nodes = omega (arith, a.nodes);
      inner = omega (arith, a.inner);
      tilings = a.tilings;
      paths = walked.rest ∙ ap (λ b. walked.left ++ cond b (drop w.given (past w (take n ps)).atoms ∷ []) []) (le-ltb n (length ps) all) ∙ append-nil walked.left ∙ a.paths;
    }

-- a chain over the options that were walked, with Rest for the others
pub chain_grows : (w : Walk) (d kept : ℕ) (i : Item) (ps : List ℕ) (old new : Stand) (held n : ℕ) (arms : Arms) → distinct w.scene.live ≡ true → Options w i ps → 1 ≤ old.nodes → 1 ≤ old.inner → n < length ps →
    Walked w d kept ps (record old { nodes = old.nodes - 1; inner = old.inner - 1 }) new held n arms → Grows w d old (record new { nodes = new.nodes - n }) (chain arms Rests) × (is_rest (chain arms Rests) ≡ false)
chain_grows w d kept i ps old new held n arms dis opts some many short walked =
    let a = walked.grows in
    let e = walked.early short in
    let len : length (heads arms) ≡ n = ap length walked.names ∙ length-take-le n ps walked.few in
    let once = named_once ps (heads arms) n walked.names opts.0 in
    let these = arms_tilings w.scene w.atoms [] arms in
    let those = arms_paths w.given w.scene w.atoms [] arms in
    let end = drop w.given (past w (take n ps)).atoms in
    let all : tilings w.scene w.atoms (chain arms Rests) ≡ these = ap (λ B. tilings w.scene B (chain arms Rests)) (sym (append-nil w.atoms)) ∙ chain_tilings w.scene w.atoms [] arms Rests once ∙ append-nil these in
    let every : paths w.given w.scene w.atoms (chain arms Rests) ≡ those ++ end ∷ [] = ap (λ B. paths w.given w.scene B (chain arms Rests)) (sym (append-nil w.atoms)) ∙ chain_paths w.given w.scene w.atoms [] arms Rests once ∙ ap (λ xs. those ++ drop w.given (past w xs).atoms ∷ []) walked.names in (
      record {
        grown = chain_grown w d n i arms ps dis opts walked.names len walked.few e.some e.shallow e.linked;
        opened = ap (λ B. opened w.scene B (chain arms Rests)) (sym (append-nil w.atoms)) ∙ opened_chain w.scene w.atoms [] arms a.opened;
        nodes = omega (arith, total_chain arms Rests, len, a.nodes, e.room);
        inner = omega (arith, inner_chain arms Rests, len, a.inner, e.paid);
        tilings = a.tilings ∙ ap (λ xs. old.found ++ xs) (sym all);
        paths = walked.rest ∙ ap (λ b. walked.left ++ cond b (end ∷ []) []) (lt-ltb n (length ps) short) ∙ ap (λ xs. xs ++ end ∷ []) a.paths ∙ append_assoc old.left those (end ∷ []) ∙ ap (λ xs. old.left ++ xs) (sym every);
      },
      chain_no_rest arms (omega (arith, len, e.some)),
    )

-- how far the walk is after some placements are left out
pub past_long : (w wl : Walk) (ps : List ℕ) (j : ℕ) → j < length ps → wl ≡ past w (take j ps) → (length wl.atoms ≡ length w.atoms + j) × (wl.given ≡ w.given)
past_long w wl ps j lt here = (omega (arith, ap (λ (x : Walk). length x.atoms) here, length-append w.atoms (map (λ q. Lacks q) (take j ps)), length-map (take j ps) (λ q. Lacks q), length-take-le j ps (omega arith)), ap (λ (x : Walk). x.given) here)

-- a tree that was grown at the given atoms, from nothing
pub explored : (w : Walk) (v : View) (A : List Atom) (nodes : ℕ) (old new : Stand) (t : Plan) (found : List (List ℕ)) (left : List (List Atom)) → Grows w DEPTH old new t → w ≡ record { scene = v; atoms = A; given = length A } →
    old.nodes ≡ NODES → old.inner ≡ nodes → old.found ≡ [] → old.left ≡ [] → is_rest t ≡ false → found ≡ new.found → left ≡ map (λ p. A ++ p) new.left → IsExplored v A nodes t found left
explored w v A nodes old new t found left g here some many none empty root found_is left_is =
    let a = subst (λ x. Grows x DEPTH old new t) here g in
    record {
      fits = and_from _ _ (le-leb (total t) NODES (omega (arith, a.nodes, some))) (le-leb (deep t) DEPTH a.grown.low);
      holds = a.grown.right;
      opened = a.opened;
      inner = omega (arith, a.inner, many);
      root = root;
      smaller = ap (λ x. x || all_fewer v A (rests v A t)) (sym root) ∙ a.grown.less;
      tilings = found_is ∙ a.tilings ∙ ap (λ xs. xs ++ tilings v A t) none;
      rests = followed w v A t old.left new.left left here empty g.paths left_is;
    }
