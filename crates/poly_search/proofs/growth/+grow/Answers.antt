use Rattle.std.proofs.Common.{◌≡◌, ℕ, ◌+◌, ◌-◌, ◌*◌, ◌/◌, ◌<◌, ◌≤◌, ◌++◌, ◌&&◌, [], ◌∷◌, ap, append-nil, arith, cond, drop, get_or, length, length-append, refl, subst, sym, take, true, ◌∙◌}
use Rattle.std.proofs.lemmas.Bool.{le-ltb, lt-ltb, ltb-true, true≢false}
use Rattle.std.proofs.lemmas.List.{length-take-le, take_all, take_more}
use Rattle.std.proofs.lemmas.Result.{IfOk-weaker}
use Rattle.poly_atom.specs.declared.atom.Atom.TheVariants.{Has, Lacks}
use Rattle.poly_report.specs.declared.gathered.Gathered.{Gathered}
use Rattle.poly_report.specs.Trees.{Branches, Finds, NoArms, Rests, Splits, heads}
use Rattle.poly_report.specs.Shapes.{arms_list, plan_of}
use Rattle.poly_report.specs.Sizes.{Grown}
use Rattle.poly_report.specs.Holds.{arm_atoms}
use Rattle.poly_tiling.specs.Lists.{distinct, mem}
use Rattle.poly_report.proofs.Rows.{plan_of-Branch}
use Rattle.poly_frame.specs.Walk.{Walk, backtrack_to, is_due, is_open, is_option, step_back, with_step}
use Rattle.poly_frame.proofs.Back.{step_undone}
use Rattle.poly_search.specs.declared.growth.Growth.{Growth}
use Rattle.poly_search.specs.Chains.{chain}
use Rattle.poly_search.specs.Grows.{ArmsGrow, Grows, snoc, stand_of}
use Rattle.poly_search.specs.Walked.{CanChain, past}
use Rattle.poly_search.proofs.Gathered.{arm_path, leaves_cut}
use Rattle.poly_search.proofs.Growing.{arms_next, arms_none, branch_grows, chain_grows, dead_end_grows, found_grows, none_fit, past_long, rest_grows, split_grows}
use Rattle.poly_search.proofs.Links.{linked_next, no_chain}
use Rattle.poly_search.proofs.Nodes.{heads_snoc, past_back, past_next, total_snoc, total_some}
use Rattle.poly_search.proofs.growth.+grow.Goals as goal
use Rattle.poly_search.proofs.growth.+grow.Goals.{arm-then-depth-lt2, arm-else-depth-lt2+in_default, walk_arms-then-growth-gt0, walk_arms-else-growth-gt0, walk_arms-then-chained+then-j-gt0+then-growth-gt1, walk_arms-then-chained+then-j-gt0+else-growth-gt1+else-options-j-gt1, walk_arms-else-chained, walk_arms-then-chained-2, walk_arms-else-chained-2, walk_arms-then-after-gt0, walk_arms-else-after-gt0}

pub child-returns-then-inner-growth-clause-grows : goal.child-returns-then-inner-growth-clause-grows
child-returns-then-inner-growth-clause-grows t c =
    let w = c.args.frame.now in
    let old = stand_of c.args.growth.now in
    let mid = stand_of c.grow.new.growth in
    let e = c.in_ok-tree.ensures.grows in
    let few = c.truncate-then-inner-growth.new.self in
    let long : c.len-tilings.result ≡ length old.found = omega (arith, c.len-tilings.ensures, c.args.growth.now.gathered.tilings.ok) in
    let found : c.truncate.new.self.items ≡ old.found = leaves_cut old.found mid.found c.truncate.new.self.items _ c.len-tilings.result long e.2.tilings c.truncate.ensures.items in
    let left : few ≡ old.left = leaves_cut old.left mid.left few _ c.len-rests.result c.len-rests.ensures e.2.paths c.truncate-then-inner-growth.ensures in
    IfOk-weaker c.rest.result _ _ (λ x cut. (
      Rests,
      λ k. cut.0,
      (let last = cut.1 c.args.depth c.requires.low in
          let paths = last.paths ∙ ap (λ xs. xs ++ drop c.grow.new.frame.given c.grow.new.frame.atoms ∷ []) left ∙ ap (λ (x : Walk). old.left ++ drop x.given x.atoms ∷ []) c.in_ok-tree.ensures.same in
          rest_grows w c.args.depth old (stand_of c.rest.new.growth) c.requires.low last.nodes (omega (arith, last.inner, e.2.inner)) (last.tilings ∙ append-nil _ ∙ found) paths),
    )) c.rest.ensures.grows

pub grow-returns-then-growth-eq0-clause-grows : goal.grow-returns-then-growth-eq0-clause-grows
grow-returns-then-growth-eq0-clause-grows t c = IfOk-weaker c.rest.result _ _ (λ x e. (Rests, λ k. e.0, e.1 c.args.depth c.requires.low, λ a b some d. absurd (omega (arith, some, c.if-growth-eq0.true)))) c.rest.ensures.grows

pub grow-returns-in-None-clause-grows : goal.grow-returns-in-None-clause-grows
grow-returns-in-None-clause-grows t c =
    let e = c.in_ok-push_found-in-None.ensures in
    let nodes : (c.args.growth.now.nodes - 1) + 1 ≡ c.args.growth.now.nodes = omega (arith, c.requires.room) in
    let inner : (c.args.growth.now.inner - 1) + 1 ≡ c.args.growth.now.inner = omega (arith, c.if-growth-eq0.false) in
    (Finds, λ k. refl, found_grows c.args.frame.now c.args.depth (stand_of c.args.growth.now) _ c.requires.low c.in-None.ensures nodes inner e.tilings e.paths, λ a b some d. refl)

pub grow-returns-then-depth-lt2-clause-grows : goal.grow-returns-then-depth-lt2-clause-grows
grow-returns-then-depth-lt2-clause-grows t c = IfOk-weaker c.rest-then-depth-lt2.result _ _ (λ x e. (Rests, λ k. e.0, e.1 c.args.depth c.requires.low, λ a b some d. absurd (omega (arith, d, c.if-depth-lt2.true)))) c.rest-then-depth-lt2.ensures.grows

pub grow-returns-then-growth-lt2-clause-grows : goal.grow-returns-then-growth-lt2-clause-grows
grow-returns-then-growth-lt2-clause-grows t c =
    let low = c.if-not-root.true in
    let same = c.in_ok-options.ensures.same in
    let new = stand_of c.rest-then-growth-lt2.new.growth in
    IfOk-weaker c.rest-then-growth-lt2.result _ _ (λ x e. (Rests, λ k. e.0, subst (λ (y : Walk). Grows y c.args.depth (stand_of c.args.growth.now) new Rests) same (e.1 c.args.depth c.requires.low), λ a b some d. absurd (true≢false (sym a ∙ low)))) c.rest-then-growth-lt2.ensures.grows

pub walk_arms-loop-j-init : goal.walk_arms-loop-j-init
walk_arms-loop-j-init t c =
    let w = c.args.frame.now in (
      NoArms,
      λ k. ap arms_list c.requires.none,
      refl,
      record {
        path = λ h. ap (λ xs. record w { atoms = xs }) (sym (append-nil w.atoms));
        front = ap (λ xs. record w { atoms = xs }) (take_all (length w.atoms) w.atoms (omega arith));
        names = refl;
        grows = arms_none w (c.args.depth - 1) (stand_of c.args.growth.now);
        counted = omega arith;
        room = omega (arith, c.requires.room);
        linked = λ h. no_chain w.scene w.atoms c.args.depth;
        short = λ h. elim c.if-growth-gt0.branch [
          | walk_arms-then-growth-gt0 k ↦ (let lt : length c.args.options.now < c.args.depth / 2 = ltb-true _ _ (sym k.chained-is ∙ h) in omega (arith, lt))
          | walk_arms-else-growth-gt0 k ↦ absurd (omega (arith, ltb-true _ _ (sym k.chained-is ∙ h), k.if-growth-gt0.false))
        ];
        few = omega arith;
      },
    )

pub walk_arms-arm-requires : goal.walk_arms-arm-requires
walk_arms-arm-requires t c =
    let w = c.args.frame.now in
    let ps = c.args.options.now in
    let j = c.loop-j.j in
    let s = c.loop-j.invariant.3 in
    let r = c.requires in
    let lt : j < length ps = omega arith in
    let here = s.path lt in
    let long = past_long w c.loop-j.frame ps j lt here in
    let same : c.if-chained.growth.nodes ≡ c.loop-j.growth.nodes = elim c.if-chained.branch [
      | walk_arms-then-chained+then-j-gt0+then-growth-gt1 k ↦ ap (λ (b : Growth). b.nodes) k.growth-is
      | walk_arms-then-chained+then-j-gt0+else-growth-gt1+else-options-j-gt1 k ↦ ap (λ (b : Growth). b.nodes) k.growth-is
      | walk_arms-else-chained k ↦ ap (λ (b : Growth). b.nodes) k.growth-is
    ] in
    let deep : (1 ≤ c.if-chained-2.deeper) × (c.if-chained-2.deeper ≤ c.args.depth - 1) = elim c.if-chained-2.branch [
      | walk_arms-then-chained-2 k ↦ (omega (arith, k.deeper-is, s.short k.if-chained-2.true, lt), omega (arith, k.deeper-is))
      | walk_arms-else-chained-2 k ↦ (omega (arith, k.deeper-is, r.low), omega (arith, k.deeper-is))
    ] in
    let falls : 5 * c.if-chained-2.deeper + 4 < t = omega (arith, deep.1, r.low, c.decreases) in
    let once = subst (λ (x : Walk). distinct x.scene.live ≡ true) (sym here) r.once in
    (falls, (omega (arith, lt, same, s.room), (deep.0, (omega (arith, long.0, long.1, same, s.counted, s.grows.nodes, r.steps), (omega (arith, long.0, long.1, r.begun), once)))))

pub walk_arms-loop-j-preserved : goal.walk_arms-loop-j-preserved
walk_arms-loop-j-preserved t c =
    let w = c.args.frame.now in
    let ps = c.args.options.now in
    let j = c.loop-j.j in
    let p = get_or ps j 0 in
    let i = c.loop-j.invariant in
    let s = i.3 in
    let r = c.requires in
    let lt : j < length ps = omega arith in
    let here = s.path lt in
    let e = c.in_ok-arm.ensures in
    let g = e.grows in
    let still = e.same ∙ here in
    let start = stand_of c.if-chained.growth in
    let spent : (start ≡ record (stand_of c.loop-j.growth) { inner = start.inner }) × (start.inner + c.if-chained.held ≤ c.loop-j.growth.inner + c.loop-j.held) × (c.if-chained.held ≤ c.loop-j.held + 1) × (c.if-chained.growth.keep ≡ c.loop-j.growth.keep) =
    elim c.if-chained.branch [
      | walk_arms-then-chained+then-j-gt0+then-growth-gt1 k ↦ (ap (λ (b : Growth). record (stand_of b) { inner = start.inner }) k.growth-is, omega (arith, ap (λ (b : Growth). b.inner) k.growth-is, k.held-is), omega (arith, k.held-is), ap (λ (b : Growth). b.keep) k.growth-is)
      | walk_arms-then-chained+then-j-gt0+else-growth-gt1+else-options-j-gt1 k ↦ (ap (λ (b : Growth). record (stand_of b) { inner = start.inner }) k.growth-is, omega (arith, ap (λ (b : Growth). b.inner) k.growth-is, k.held-is), omega (arith, k.held-is), ap (λ (b : Growth). b.keep) k.growth-is)
      | walk_arms-else-chained k ↦ (ap (λ (b : Growth). record (stand_of b) { inner = start.inner }) k.growth-is, omega (arith, ap (λ (b : Growth). b.inner) k.growth-is, k.held-is), omega (arith, k.held-is), ap (λ (b : Growth). b.keep) k.growth-is)
    ] in
    let shallow : c.if-chained-2.deeper ≤ c.args.depth - 1 = elim c.if-chained-2.branch [
      | walk_arms-then-chained-2 k ↦ omega (arith, k.deeper-is)
      | walk_arms-else-chained-2 k ↦ omega (arith, k.deeper-is)
    ] in
    let long : length (heads i.0) ≡ j = ap length s.names ∙ length-take-le j ps (omega (arith, lt)) in
    let gone : (j + 1 < length ps → c.if-after-gt0.frame ≡ past w (take (j + 1) ps)) × (backtrack_to c.if-after-gt0.frame (length w.atoms) ≡ w) = elim c.if-after-gt0.branch [
      | walk_arms-then-after-gt0 k ↦ (let on = k.frame-is ∙ past_next w c.arm.new.frame k.leave.new.self ps j lt still k.leave.ensures in (λ h. on, past_back w c.if-after-gt0.frame (take (j + 1) ps) on))
      | walk_arms-else-after-gt0 k ↦ (λ h. absurd (omega (arith, k.if-after-gt0.false, h)), past_back w c.if-after-gt0.frame (take j ps) (k.frame-is ∙ still))
    ] in
    let kept = e.keep ∙ spent.3 ∙ i.2 in (
      snoc i.0 p g.0,
      λ k. g.1 (spent.3 ∙ i.2 ∙ k) ∙ ap (λ x. snoc x p g.0) (i.1 k),
      kept,
      record {
        path = gone.0;
        front = gone.1;
        names = heads_snoc i.0 p g.0 ∙ ap (λ xs. xs ++ p ∷ []) s.names ∙ sym (take_more ps j 0 lt);
        grows = arms_next w c.loop-j.frame (c.args.depth - 1) c.if-chained-2.deeper c.args.item.now ps j c.if-chained.held (stand_of c.args.growth.now) _ start (stand_of c.arm.new.growth) i.0 g.0 lt shallow r.once (r.each_once, r.members) here s.names spent.0 spent.1 s.grows g.2;
        counted = omega (arith, total_snoc i.0 p g.0, total_some g.0, s.counted);
        room = omega (arith, e.kept, lt);
        linked = λ h.
            let at : c.if-chained-2.deeper ≡ c.args.depth - 1 - j = elim c.if-chained-2.branch [
              | walk_arms-then-chained-2 k ↦ k.deeper-is
              | walk_arms-else-chained-2 k ↦ absurd (true≢false (sym h ∙ k.if-chained-2.false))
            ] in
            let under = arm_path w c.loop-j.frame (with_step c.loop-j.frame (Has p)) (take j ps) (heads i.0) p here refl s.names in
            let grown = subst (λ d. Grown w.scene (w.atoms ++ arm_atoms (heads i.0) p) d g.0) at (subst (λ (x : Walk). Grown x.scene x.atoms c.if-chained-2.deeper g.0) under g.2.grown) in
            linked_next w c.args.depth j c.args.item.now i.0 g.0 ps lt r.once (r.each_once, r.members) long (omega (arith, lt, s.short h)) (s.linked h) grown;
        short = s.short;
        few = omega (arith, spent.2, s.few);
      },
    )

pub child-grow-requires : goal.child-grow-requires
child-grow-requires t c =
    let r = c.requires in
    (omega (arith, c.decreases), (r.room, (r.low, (r.steps, (r.begun, r.once)))))

pub child-returns-clause-grows : goal.child-returns-clause-grows
child-returns-clause-grows t c =
    let g = c.in_ok-tree.ensures.grows in
    (g.0, g.1, g.2)

pub child-returns-then-inner-growth-clause-keep : goal.child-returns-then-inner-growth-clause-keep
child-returns-then-inner-growth-clause-keep t c = IfOk-weaker c.rest.result _ _ (λ x e. e ∙ c.in_ok-tree.ensures.keep) c.rest.ensures.keep

pub child-returns-then-inner-growth-clause-kept : goal.child-returns-then-inner-growth-clause-kept
child-returns-then-inner-growth-clause-kept t c = IfOk-weaker c.rest.result _ _ (λ x e. omega (arith, e, c.requires.room)) c.rest.ensures.nodes

pub child-returns-then-inner-growth-clause-same : goal.child-returns-then-inner-growth-clause-same
child-returns-then-inner-growth-clause-same t c = IfOk-weaker c.rest.result _ _ (λ x e. c.in_ok-tree.ensures.same) c.rest.ensures.keep

pub grow-returns-then-growth-eq0-clause-kept : goal.grow-returns-then-growth-eq0-clause-kept
grow-returns-then-growth-eq0-clause-kept t c = IfOk-weaker c.rest.result _ _ (λ x e. omega (arith, e, c.requires.room)) c.rest.ensures.nodes

pub grow-returns-then-growth-eq0-clause-keep : goal.grow-returns-then-growth-eq0-clause-keep
grow-returns-then-growth-eq0-clause-keep t c = c.rest.ensures.keep

pub grow-returns-then-growth-eq0-clause-same : goal.grow-returns-then-growth-eq0-clause-same
grow-returns-then-growth-eq0-clause-same t c = IfOk-weaker c.rest.result _ _ (λ x e. refl) c.rest.ensures.keep

pub grow-returns-then-depth-lt2-clause-kept : goal.grow-returns-then-depth-lt2-clause-kept
grow-returns-then-depth-lt2-clause-kept t c = IfOk-weaker c.rest-then-depth-lt2.result _ _ (λ x e. omega (arith, e, c.requires.room)) c.rest-then-depth-lt2.ensures.nodes

pub grow-returns-then-depth-lt2-clause-keep : goal.grow-returns-then-depth-lt2-clause-keep
grow-returns-then-depth-lt2-clause-keep t c = c.rest-then-depth-lt2.ensures.keep

pub grow-returns-then-depth-lt2-clause-same : goal.grow-returns-then-depth-lt2-clause-same
grow-returns-then-depth-lt2-clause-same t c = IfOk-weaker c.rest-then-depth-lt2.result _ _ (λ x e. refl) c.rest-then-depth-lt2.ensures.keep

pub grow-returns-then-growth-lt2-clause-kept : goal.grow-returns-then-growth-lt2-clause-kept
grow-returns-then-growth-lt2-clause-kept t c = IfOk-weaker c.rest-then-growth-lt2.result _ _ (λ x e. omega (arith, e, c.requires.room)) c.rest-then-growth-lt2.ensures.nodes

pub grow-returns-then-growth-lt2-clause-keep : goal.grow-returns-then-growth-lt2-clause-keep
grow-returns-then-growth-lt2-clause-keep t c = c.rest-then-growth-lt2.ensures.keep

pub grow-returns-then-growth-lt2-clause-same : goal.grow-returns-then-growth-lt2-clause-same
grow-returns-then-growth-lt2-clause-same t c = IfOk-weaker c.rest-then-growth-lt2.result _ _ (λ x e. c.in_ok-options.ensures.same) c.rest-then-growth-lt2.ensures.keep

pub walk_arms-backtrack_to-requires : goal.walk_arms-backtrack_to-requires
walk_arms-backtrack_to-requires t c = omega (arith, ap (λ (x : Walk). x.given) c.loop-j.invariant.3.front, c.level-start.ensures, c.requires.begun)

pub walk_arms-backtrack_to-requires-2 : goal.walk_arms-backtrack_to-requires-2
walk_arms-backtrack_to-requires-2 t c = omega (arith, ap (λ (x : Walk). x.given) c.loop-j.invariant.3.front, c.level-start.ensures, c.requires.begun)

pub walk_arms-leave-requires : goal.walk_arms-leave-requires
walk_arms-leave-requires t c =
    let w = c.args.frame.now in
    let r = c.requires in
    let lt : c.loop-j.j < length c.args.options.now = c.loop-j-test.true in
    let long = past_long w c.loop-j.frame c.args.options.now c.loop-j.j lt (c.loop-j.invariant.3.path lt) in
    let room : length c.loop-j.frame.atoms < c.loop-j.frame.given + 4096 = omega (arith, long.0, long.1, lt, r.room, r.steps) in
    subst (λ (x : Walk). length x.atoms < x.given + 4096) (sym c.in_ok-arm.ensures.same) room

pub walk_arms-returns-clause-same : goal.walk_arms-returns-clause-same
walk_arms-returns-clause-same t c = c.backtrack_to-2.ensures ∙ ap (λ n. backtrack_to c.loop-j.frame n) c.level-start.ensures ∙ c.loop-j.invariant.3.front

pub walk_arms-returns-clause-keep : goal.walk_arms-returns-clause-keep
walk_arms-returns-clause-keep t c = c.loop-j.invariant.2

pub walk_arms-returns-then-j-growth-clause-same : goal.walk_arms-returns-then-j-growth-clause-same
walk_arms-returns-then-j-growth-clause-same t c = c.backtrack_to.ensures ∙ ap (λ n. backtrack_to c.loop-j.frame n) c.level-start.ensures ∙ c.loop-j.invariant.3.front

pub walk_arms-returns-then-j-growth-clause-keep : goal.walk_arms-returns-then-j-growth-clause-keep
walk_arms-returns-then-j-growth-clause-keep t c = c.loop-j.invariant.2

pub walk_arms-returns-clause-walked : goal.walk_arms-returns-clause-walked
walk_arms-returns-clause-walked t c =
    let w = c.args.frame.now in
    let ps = c.args.options.now in
    let i = c.loop-j.invariant in
    let s = i.3 in
    let left = c.loop-j.growth.gathered.paths in
    let end : c.loop-j.j ≡ length ps = omega (arith, c.loop-j-test.false, c.loop-j.auto.j-end) in
    let none = le-ltb (length ps) (length ps) (omega arith) in (
      i.0,
      i.1,
      record {
        left = left;
        few = omega arith;
        names = s.names ∙ ap (λ n. take n ps) end;
        grows = s.grows;
        rest = sym (append-nil left) ∙ ap (λ b. left ++ cond b (drop w.given (past w (take (length ps) ps)).atoms ∷ []) []) (sym none);
        room = omega (arith, s.room, end);
        early = λ h. absurd {A = CanChain w c.args.depth c.args.kept c.loop-j.growth.nodes c.loop-j.held (length ps) i.0} (omega (arith, h));
      },
    )

pub walk_arms-returns-then-j-growth-clause-walked : goal.walk_arms-returns-then-j-growth-clause-walked
walk_arms-returns-then-j-growth-clause-walked t c =
    let w = c.args.frame.now in
    let ps = c.args.options.now in
    let j = c.loop-j.j in
    let i = c.loop-j.invariant in
    let s = i.3 in
    let old = stand_of c.args.growth.now in
    let mid = stand_of c.loop-j.growth in
    let e = c.in_ok-push_rest.ensures in
    let lt : j < length ps = c.loop-j-test.true in
    let here = ap (λ (x : Walk). mid.left ++ drop x.given x.atoms ∷ []) (s.path lt) in
    let some = lt-ltb j (length ps) lt in (
      i.0,
      i.1,
      record {
        left = mid.left;
        few = omega (arith, lt);
        names = s.names;
        grows = subst (λ xs. ArmsGrow w (c.args.depth - 1) old (record mid { inner = mid.inner + c.loop-j.held; found = xs }) i.0) (sym e.tilings) s.grows;
        rest = e.paths ∙ here ∙ ap (λ b. mid.left ++ cond b (drop w.given (past w (take j ps)).atoms ∷ []) []) (sym some);
        room = s.room;
        early = λ h. record {
          some = omega (arith, c.if-j-gt0.true);
          paid = omega (arith, c.if-j-held.true);
          room = omega (arith, s.room, c.if-j-growth.true, c.if-options-j-gt1.true);
          shallow = omega (arith, lt, s.short c.if-chained.true);
          linked = s.linked c.if-chained.true;
        };
      },
    )

pub child-returns-then-inner-growth-clause-why : goal.child-returns-then-inner-growth-clause-why
child-returns-then-inner-growth-clause-why t c = c.rest.ensures.why

pub arm-returns-in-Some-clause-grows : goal.arm-returns-in-Some-clause-grows
arm-returns-in-Some-clause-grows t c =
    let e = c.dead_arm.ensures in
    let i = c.in-Some.item in
    let w = with_step c.args.frame.now (Has c.args.placement) in
    let low = c.if-depth-lt2.false.1 in
    let grown = dead_end_grows w c.args.depth i (stand_of c.args.growth.now) (stand_of c.dead_arm.new.growth) low c.in-Some.ensures.1 e.nodes e.inner (ap (λ (g : Gathered). g.tilings.items) e.gathered) (ap (λ (g : Gathered). g.paths) e.gathered) in
    IfOk-weaker c.dead_arm.result _ _ (λ x a. (Branches i NoArms, a, grown)) e.arms

pub branch-returns-then-walked-options-clause-grows : goal.branch-returns-then-walked-options-clause-grows
branch-returns-then-walked-options-clause-grows t c =
    let r = c.requires in
    let a = c.in_ok-extent.extent in
    let w = c.in_ok-extent.ensures.walked in
    let some : 1 ≤ c.args.growth.now.nodes = omega (arith, r.room) in
    let short = c.if-walked-options.true in
    let made = chain_grows c.args.frame.now c.args.depth c.args.kept c.args.item.now c.args.options.now (stand_of c.args.growth.now) (stand_of c.walk_arms.new.growth) a.held a.walked w.0 r.once (r.each_once, r.members) some r.inner short w.2 in
    IfOk-weaker c.link.result _ _ (λ x e. (chain w.0 Rests, λ k. e ∙ ap (λ x. chain x Rests) (w.1 k), made.0, made.1)) c.link.ensures.tree

pub branch-returns-clause-grows : goal.branch-returns-clause-grows
branch-returns-clause-grows t c =
    let r = c.requires in
    let a = c.in_ok-extent.extent in
    let w = c.in_ok-extent.ensures.walked in
    let i = c.args.item.now in
    let some : 1 ≤ c.args.growth.now.nodes = omega (arith, r.room) in
    let all = c.if-walked-options.false in
    let made = branch_grows c.args.frame.now c.args.depth c.args.kept i c.args.options.now (stand_of c.args.growth.now) (stand_of c.walk_arms.new.growth) a.held a.walked w.0 r.low r.once (r.each_once, r.members) r.due some r.inner all w.2 in
    (Branches i w.0, λ k. plan_of-Branch i c.walk_arms.new.arms ∙ ap (λ x. Branches i x) (w.1 k), made, refl)

pub split-returns-clause-grows : goal.split-returns-clause-grows
split-returns-clause-grows t c =
    let w = c.args.frame.now in
    let p = c.args.placement in
    let r = c.requires in
    let a = c.in_ok-taken.ensures.grows in
    let b = c.in-Ok.ensures.grows in
    let some : 1 ≤ c.args.growth.now.nodes = omega (arith, c.if-growth-kept-lt3.false, r.room) in
    let back = c.back.ensures ∙ ap step_back (c.in_ok-taken.ensures.same ∙ c.pick.ensures) ∙ step_undone w (Has p) in
    let left : c.leave.new.self ≡ with_step w (Lacks p) = c.leave.ensures ∙ ap (λ (x : Walk). with_step x (Lacks p)) back in
    let made = split_grows w c.pick.new.self c.leave.new.self c.args.depth p (stand_of c.args.growth.now) (stand_of c.child.new.growth) (stand_of c.child-2.new.growth) a.0 b.0 r.low some r.inner r.once r.place r.open c.pick.ensures left a.2 b.2 in
    IfOk-weaker c.over_both.result _ _ (λ x e. (
      Splits p a.0 b.0,
      λ k. e (c.in-Ok.ensures.keep ∙ c.in_ok-taken.ensures.keep ∙ k) ∙ ap (λ x. Splits p x (plan_of c.in-Ok.left)) (a.1 k) ∙ ap (λ x. Splits p a.0 x) (b.1 (c.in_ok-taken.ensures.keep ∙ k)),
      made,
      λ b. refl,
    )) c.over_both.ensures.tree

-- the frame once the placement is taken
picked : (t : ℕ) (c : goal.arm-After-push_arm t) → c.if-depth-lt2.frame ≡ with_step c.args.frame.now (Has c.args.placement)
picked t c = elim c.if-depth-lt2.branch [
  | arm-then-depth-lt2 k ↦ k.frame-is ∙ k.pick.ensures
  | arm-else-depth-lt2+in_default k ↦ k.frame-is ∙ k.in_default.ensures
]

pub arm-child-requires : goal.arm-child-requires
arm-child-requires t c =
    let w = c.args.frame.now in
    let r = c.requires in
    let picked : c.if-depth-lt2.frame ≡ with_step c.args.frame.now (Has c.args.placement) = elim c.if-depth-lt2.branch [
      | arm-then-depth-lt2 k ↦ k.frame-is ∙ k.pick.ensures
      | arm-else-depth-lt2+in_default k ↦ k.frame-is ∙ k.in_default.ensures
    ] in
    let long : length c.if-depth-lt2.frame.atoms ≡ length w.atoms + 1 = omega (arith, ap (λ (x : Walk). length x.atoms) picked, length-append w.atoms (Has c.args.placement ∷ [])) in
    let given = ap (λ (x : Walk). x.given) picked in
    (omega (arith, c.decreases), (r.room, (r.low, (omega (arith, long, given, r.steps), (omega (arith, long, given, r.begun), subst (λ (x : Walk). distinct x.scene.live ≡ true) (sym picked) r.once)))))

pub arm-back-requires : goal.arm-back-requires
arm-back-requires t c =
    let w = c.args.frame.now in
    let picked : c.if-depth-lt2.frame ≡ with_step w (Has c.args.placement) = elim c.if-depth-lt2.branch [
      | arm-then-depth-lt2 k ↦ k.frame-is ∙ k.pick.ensures
      | arm-else-depth-lt2+in_default k ↦ k.frame-is ∙ k.in_default.ensures
    ] in
    let same = c.in_ok-tree.ensures.same ∙ picked in
    omega (arith, ap (λ (x : Walk). x.given) same, ap (λ (x : Walk). length x.atoms) same, length-append w.atoms (Has c.args.placement ∷ []), c.requires.begun)

pub arm-returns-clause-grows : goal.arm-returns-clause-grows
arm-returns-clause-grows t c =
    let e = c.in_ok-tree.ensures in
    let g = e.grows in
    IfOk-weaker c.push_arm.result _ _ (λ x a. (
      g.0,
      λ k. a (e.keep ∙ k) ∙ ap (λ y. snoc (arms_list c.args.arms.now.items) c.args.placement y) (g.1 k),
      subst (λ (x : Walk). Grows x c.args.depth (stand_of c.args.growth.now) (stand_of c.child.new.growth) g.0) (picked t c) g.2,
    )) c.push_arm.ensures.arms

pub arm-returns-clause-same : goal.arm-returns-clause-same
arm-returns-clause-same t c = IfOk-weaker c.push_arm.result _ _ (λ x a. c.back.ensures ∙ ap step_back (c.in_ok-tree.ensures.same ∙ picked t c) ∙ step_undone c.args.frame.now (Has c.args.placement)) c.push_arm.ensures.arms

pub branch-walk_arms-requires : goal.branch-walk_arms-requires
branch-walk_arms-requires t c =
    let r = c.requires in
    (omega (arith, c.decreases), (omega (arith, r.room), (r.low, (omega (arith, r.room, r.steps), (r.begun, (r.once, (r.each_once, (r.members, c.in_ok-arms.ensures.items))))))))

pub branch-returns-clause-kept : goal.branch-returns-clause-kept
branch-returns-clause-kept t c =
    let w = c.in_ok-extent.ensures.walked in
    omega (arith, w.2.few, w.2.room)

pub split-child-requires : goal.split-child-requires
split-child-requires t c =
    let w = c.args.frame.now in
    let r = c.requires in
    let long : length c.pick.new.self.atoms ≡ length w.atoms + 1 = omega (arith, ap (λ (x : Walk). length x.atoms) c.pick.ensures, length-append w.atoms (Has c.args.placement ∷ [])) in
    let given = ap (λ (x : Walk). x.given) c.pick.ensures in
    let once = subst (λ (x : Walk). distinct x.scene.live ≡ true) (sym c.pick.ensures) r.once in
    (omega (arith, c.decreases, r.low), (omega (arith, c.if-growth-kept-lt3.false, r.room), (omega (arith, r.low), (omega (arith, long, given, r.steps, c.if-growth-kept-lt3.false, r.room), (omega (arith, long, given, r.begun), once)))))

pub split-child-requires-2 : goal.split-child-requires-2
split-child-requires-2 t c =
    let w = c.args.frame.now in
    let r = c.requires in
    let a = c.in_ok-taken.ensures.grows in
    let left = c.leave.ensures ∙ ap (λ (x : Walk). with_step x (Lacks c.args.placement)) (c.back.ensures ∙ ap step_back (c.in_ok-taken.ensures.same ∙ c.pick.ensures) ∙ step_undone w (Has c.args.placement)) in
    let long : length c.leave.new.self.atoms ≡ length w.atoms + 1 = omega (arith, ap (λ (x : Walk). length x.atoms) left, length-append w.atoms (Lacks c.args.placement ∷ [])) in
    let given = ap (λ (x : Walk). x.given) left in
    let once = subst (λ (x : Walk). distinct x.scene.live ≡ true) (sym left) r.once in
    let steps : length c.leave.new.self.atoms + c.child.new.growth.nodes ≤ c.leave.new.self.given + 4096 + c.args.kept = omega (arith, long, given, total_some a.0, a.2.nodes, r.steps, c.if-growth-kept-lt3.false, r.room) in
    (omega (arith, c.decreases, r.low), (omega (arith, c.in_ok-taken.ensures.kept), (omega (arith, r.low), (steps, (omega (arith, long, given, r.begun), once)))))

pub split-leave-requires : goal.split-leave-requires
split-leave-requires t c =
    let w = c.args.frame.now in
    let r = c.requires in
    let room : length w.atoms < w.given + 4096 = omega (arith, r.steps, c.if-growth-kept-lt3.false, r.room) in
    subst (λ (x : Walk). length x.atoms < x.given + 4096) (sym (c.back.ensures ∙ ap step_back (c.in_ok-taken.ensures.same ∙ c.pick.ensures) ∙ step_undone w (Has c.args.placement))) room

pub split-back-requires : goal.split-back-requires
split-back-requires t c =
    let w = c.args.frame.now in
    let same = c.in_ok-taken.ensures.same ∙ c.pick.ensures in
    omega (arith, ap (λ (x : Walk). x.given) same, ap (λ (x : Walk). length x.atoms) same, length-append w.atoms (Has c.args.placement ∷ []), c.requires.begun)

pub split-back-requires-2 : goal.split-back-requires-2
split-back-requires-2 t c =
    let w = c.args.frame.now in
    let left = c.leave.ensures ∙ ap (λ (x : Walk). with_step x (Lacks c.args.placement)) (c.back.ensures ∙ ap step_back (c.in_ok-taken.ensures.same ∙ c.pick.ensures) ∙ step_undone w (Has c.args.placement)) in
    let same = c.in-Ok.ensures.same ∙ left in
    omega (arith, ap (λ (x : Walk). x.given) same, ap (λ (x : Walk). length x.atoms) same, length-append w.atoms (Lacks c.args.placement ∷ []), c.requires.begun)

pub split-returns-clause-same : goal.split-returns-clause-same
split-returns-clause-same t c =
    let w = c.args.frame.now in
    let left = c.leave.ensures ∙ ap (λ (x : Walk). with_step x (Lacks c.args.placement)) (c.back.ensures ∙ ap step_back (c.in_ok-taken.ensures.same ∙ c.pick.ensures) ∙ step_undone w (Has c.args.placement)) in
    IfOk-weaker c.over_both.result _ _ (λ x e. c.back-2.ensures ∙ ap step_back (c.in-Ok.ensures.same ∙ left) ∙ step_undone w (Lacks c.args.placement)) c.over_both.ensures.tree

pub split-returns-clause-keep : goal.split-returns-clause-keep
split-returns-clause-keep t c = IfOk-weaker c.over_both.result _ _ (λ x e. c.in-Ok.ensures.keep ∙ c.in_ok-taken.ensures.keep) c.over_both.ensures.tree

pub split-returns-clause-kept : goal.split-returns-clause-kept
split-returns-clause-kept t c = IfOk-weaker c.over_both.result _ _ (λ x e. c.in-Ok.ensures.kept) c.over_both.ensures.tree

pub branch-returns-then-walked-options-clause-same : goal.branch-returns-then-walked-options-clause-same
branch-returns-then-walked-options-clause-same t c = IfOk-weaker c.link.result _ _ (λ x e. c.in_ok-extent.ensures.same) c.link.ensures.tree

pub branch-returns-then-walked-options-clause-keep : goal.branch-returns-then-walked-options-clause-keep
branch-returns-then-walked-options-clause-keep t c = IfOk-weaker c.link.result _ _ (λ x e. c.in_ok-extent.ensures.keep) c.link.ensures.tree

pub branch-returns-then-walked-options-clause-kept : goal.branch-returns-then-walked-options-clause-kept
branch-returns-then-walked-options-clause-kept t c =
    let early = c.in_ok-extent.ensures.walked.2.early c.if-walked-options.true in
    IfOk-weaker c.link.result _ _ (λ x e. omega (arith, early.room)) c.link.ensures.tree

pub branch-returns-then-walked-options-clause-why : goal.branch-returns-then-walked-options-clause-why
branch-returns-then-walked-options-clause-why t c = c.link.ensures.why

pub split-returns-clause-why : goal.split-returns-clause-why
split-returns-clause-why t c = c.over_both.ensures.why

pub split-returns-then-growth-kept-lt3-clause-kept : goal.split-returns-then-growth-kept-lt3-clause-kept
split-returns-then-growth-kept-lt3-clause-kept t c = IfOk-weaker c.rest.result _ _ (λ x e. omega (arith, e, c.requires.room)) c.rest.ensures.nodes

pub split-returns-then-growth-kept-lt3-clause-keep : goal.split-returns-then-growth-kept-lt3-clause-keep
split-returns-then-growth-kept-lt3-clause-keep t c = c.rest.ensures.keep

pub split-returns-then-growth-kept-lt3-clause-same : goal.split-returns-then-growth-kept-lt3-clause-same
split-returns-then-growth-kept-lt3-clause-same t c = IfOk-weaker c.rest.result _ _ (λ x e. refl) c.rest.ensures.keep

pub split-returns-then-growth-kept-lt3-clause-grows : goal.split-returns-then-growth-kept-lt3-clause-grows
split-returns-then-growth-kept-lt3-clause-grows t c = IfOk-weaker c.rest.result _ _ (λ x e. (Rests, λ k. e.0, e.1 c.args.depth (omega (arith, c.requires.low)), λ b. absurd (omega (arith, b, c.if-growth-kept-lt3.true)))) c.rest.ensures.grows

pub split-returns-then-growth-kept-lt3-clause-why : goal.split-returns-then-growth-kept-lt3-clause-why
split-returns-then-growth-kept-lt3-clause-why t c = c.rest.ensures.why

pub grow-returns-then-many-eq0-clause-grows : goal.grow-returns-then-many-eq0-clause-grows
grow-returns-then-many-eq0-clause-grows t c =
    let w = c.args.frame.now in
    let xs = c.in_ok-options.options.items in
    let i = c.in-Some-next_due.item in
    let e = c.dead_end.ensures in
    let low = c.if-depth-lt2.false in
    let due = c.in-Some-next_due.ensures in
    let none : length xs ≡ 0 = omega (arith, c.if-many-eq0.true, c.len-many.ensures, c.in_ok-options.options.ok) in
    let fit = none_fit w i xs none c.requires.once (c.in_ok-options.ensures.once, c.in_ok-options.ensures.members) due in
    (Branches i NoArms, λ k. e.tree, dead_end_grows w c.args.depth i (stand_of c.args.growth.now) (stand_of c.dead_end.new.growth) low fit e.nodes e.inner (ap (λ (g : Gathered). g.tilings.items) e.gathered) (ap (λ (g : Gathered). g.paths) e.gathered), λ a b some d. refl)

pub grow-returns-then-many-eq0-clause-kept : goal.grow-returns-then-many-eq0-clause-kept
grow-returns-then-many-eq0-clause-kept t c = omega (arith, c.dead_end.ensures.nodes, c.requires.room)

pub grow-split-requires : goal.grow-split-requires
grow-split-requires t c =
    let r = c.requires in
    let o = c.in-Some.ensures in
    (omega (arith, c.decreases), (r.room, (omega (arith, c.if-growth-eq0.false), (omega (arith, c.if-depth-lt2.false), (r.steps, (r.begun, (r.once, (o.0, o.1))))))))

pub grow-returns-in_default-clause-same : goal.grow-returns-in_default-clause-same
grow-returns-in_default-clause-same t c = c.split.ensures.same

pub grow-returns-in_default-clause-kept : goal.grow-returns-in_default-clause-kept
grow-returns-in_default-clause-kept t c = c.split.ensures.kept

pub grow-returns-in_default-clause-keep : goal.grow-returns-in_default-clause-keep
grow-returns-in_default-clause-keep t c = c.split.ensures.keep

pub grow-returns-in_default-clause-why : goal.grow-returns-in_default-clause-why
grow-returns-in_default-clause-why t c = c.split.ensures.why

pub grow-returns-in_default-clause-grows : goal.grow-returns-in_default-clause-grows
grow-returns-in_default-clause-grows t c = IfOk-weaker c.split.result _ _ (λ x e. (e.0, e.1, e.2, λ a b some d. e.3 b)) c.split.ensures.grows

pub grow-split-requires-then-many-growth : goal.grow-split-requires-then-many-growth
grow-split-requires-then-many-growth t c =
    let r = c.requires in
    let p = c.in-Some.p in
    let o = c.in-Some.ensures in
    let same = c.in_ok-options.ensures.same in
    let here = sym same in
    let long = ap (λ (x : Walk). length x.atoms) same in
    let given = ap (λ (x : Walk). x.given) same in
    let steps : length c.list_options.new.frame.atoms + c.args.growth.now.nodes ≤ c.list_options.new.frame.given + 4096 + c.args.kept = omega (arith, long, given, r.steps) in
    let once = subst (λ (x : Walk). distinct x.scene.live ≡ true) here r.once in
    let place = subst (λ (x : Walk). mem x.scene.live p ≡ true) here o.0 in
    let still = subst (λ (x : Walk). is_open x p ≡ true) here o.1 in
    (omega (arith, c.decreases), (r.room, (omega (arith, c.if-growth-eq0.false), (omega (arith, c.if-depth-lt2.false), (steps, (omega (arith, long, given, r.begun), (once, (place, still))))))))

pub grow-returns-then-many-growth-clause-grows : goal.grow-returns-then-many-growth-clause-grows
grow-returns-then-many-growth-clause-grows t c =
    IfOk-weaker c.split-then-many-growth.result _ _ (λ x e. (
      e.0,
      e.1,
      subst (λ (y : Walk). Grows y c.args.depth (stand_of c.args.growth.now) (stand_of c.split-then-many-growth.new.growth) e.0) c.in_ok-options.ensures.same e.2,
      λ a b some d. e.3 b,
    )) c.split-then-many-growth.ensures.grows

pub grow-returns-then-many-growth-clause-same : goal.grow-returns-then-many-growth-clause-same
grow-returns-then-many-growth-clause-same t c = IfOk-weaker c.split-then-many-growth.result _ _ (λ x e. e ∙ c.in_ok-options.ensures.same) c.split-then-many-growth.ensures.same

pub grow-returns-then-many-growth-clause-kept : goal.grow-returns-then-many-growth-clause-kept
grow-returns-then-many-growth-clause-kept t c = c.split-then-many-growth.ensures.kept

pub grow-returns-then-many-growth-clause-keep : goal.grow-returns-then-many-growth-clause-keep
grow-returns-then-many-growth-clause-keep t c = c.split-then-many-growth.ensures.keep

pub grow-returns-then-many-growth-clause-why : goal.grow-returns-then-many-growth-clause-why
grow-returns-then-many-growth-clause-why t c = c.split-then-many-growth.ensures.why

pub grow-branch-tree-requires : goal.grow-branch-tree-requires
grow-branch-tree-requires t c =
    let w = c.args.frame.now in
    let r = c.requires in
    let i = c.in-Some-next_due.item in
    let ps = c.in_ok-options.options in
    let o = c.in_ok-options.ensures in
    let here = sym o.same in
    let value = c.deref.ensures.value in
    let long = ap (λ (x : Walk). length x.atoms) o.same in
    let given = ap (λ (x : Walk). x.given) o.same in
    let once = subst (λ (x : Walk). distinct x.scene.live ≡ true) here r.once in
    let due = subst (λ (x : Walk). is_due x i ≡ true) here c.in-Some-next_due.ensures in
    let members = subst (λ (x : Walk). (p : ℕ) → mem c.deref.result.now p ≡ (mem x.scene.live p && is_option x i p)) here (λ p. ap (λ xs. mem xs p) value ∙ o.members p) in
    let room : c.args.kept + length c.deref.result.now < c.args.growth.now.nodes = omega (arith, c.if-many-growth.false, c.len-many.ensures, ps.ok, ap length value) in
    let steps : length c.list_options.new.frame.atoms + c.args.growth.now.nodes ≤ c.list_options.new.frame.given + 4096 + c.args.kept = omega (arith, long, given, r.steps) in
    (omega (arith, c.decreases), (room, (omega (arith, c.if-growth-eq0.false), (omega (arith, c.if-depth-lt2.false), (steps, (omega (arith, long, given, r.begun), (once, (due, (ap distinct value ∙ o.once, members)))))))))

pub grow-returns-clause-grows : goal.grow-returns-clause-grows
grow-returns-clause-grows t c =
    IfOk-weaker c.branch-tree.result _ _ (λ x g. (
      g.0,
      g.1,
      subst (λ (x : Walk). Grows x c.args.depth (stand_of c.args.growth.now) (stand_of c.branch-tree.new.growth) g.0) c.in_ok-options.ensures.same g.2,
      λ a b some d. g.3,
    )) c.branch-tree.ensures.grows

pub grow-returns-clause-same : goal.grow-returns-clause-same
grow-returns-clause-same t c = IfOk-weaker c.branch-tree.result _ _ (λ x e. e ∙ c.in_ok-options.ensures.same) c.branch-tree.ensures.same

pub grow-returns-clause-kept : goal.grow-returns-clause-kept
grow-returns-clause-kept t c = c.branch-tree.ensures.kept

pub grow-returns-clause-keep : goal.grow-returns-clause-keep
grow-returns-clause-keep t c = c.branch-tree.ensures.keep

pub grow-returns-clause-why : goal.grow-returns-clause-why
grow-returns-clause-why t c = c.branch-tree.ensures.why

pub arm-returns-in-Some-clause-same : goal.arm-returns-in-Some-clause-same
arm-returns-in-Some-clause-same t c = IfOk-weaker c.dead_arm.result _ _ (λ x a. c.in-Some.ensures.0) c.dead_arm.ensures.arms

pub arm-returns-in-Some-clause-kept : goal.arm-returns-in-Some-clause-kept
arm-returns-in-Some-clause-kept t c = IfOk-weaker c.dead_arm.result _ _ (λ x a. omega (arith, c.dead_arm.ensures.nodes, c.requires.room)) c.dead_arm.ensures.arms

pub arm-returns-in-Some-clause-keep : goal.arm-returns-in-Some-clause-keep
arm-returns-in-Some-clause-keep t c = IfOk-weaker c.dead_arm.result _ _ (λ x a. c.dead_arm.ensures.keep) c.dead_arm.ensures.arms

pub arm-returns-in-Some-clause-why : goal.arm-returns-in-Some-clause-why
arm-returns-in-Some-clause-why t c = c.dead_arm.ensures.why

pub arm-returns-clause-kept : goal.arm-returns-clause-kept
arm-returns-clause-kept t c = IfOk-weaker c.push_arm.result _ _ (λ x a. c.in_ok-tree.ensures.kept) c.push_arm.ensures.arms

pub arm-returns-clause-keep : goal.arm-returns-clause-keep
arm-returns-clause-keep t c = IfOk-weaker c.push_arm.result _ _ (λ x a. c.in_ok-tree.ensures.keep) c.push_arm.ensures.arms

pub arm-returns-clause-why : goal.arm-returns-clause-why
arm-returns-clause-why t c = c.push_arm.ensures.why
