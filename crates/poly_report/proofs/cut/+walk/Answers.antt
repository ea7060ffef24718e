use Rattle.std.proofs.Common.{Bool, List, [], ap, append_assoc, arith, cond, false, length, length-append, map, not, rules, sym, take, true, ℕ, ◌&&◌, ◌++◌, ◌||◌, ◌∙◌, ◌∷◌, ◌≡◌}
use Rattle.std.proofs.lemmas.Bool.{and_right, eqb-true, true≢false}
use Rattle.std.specs.List.{list_all}
use Rattle.std.proofs.lemmas.Result.{IfOk-weaker}
use Rattle.poly_report.specs.declared.tree.Arm.{Arm}
use Rattle.poly_report.specs.declared.tree.Tree.{Found, Tree, the_lemmas}
use Rattle.poly_report.specs.Trees.{Branches, heads}
use Rattle.poly_report.specs.Shapes.{arms_list, plan_of}
use Rattle.poly_report.specs.Sizes.{arms_total, total}
use Rattle.poly_frame.specs.Open.{arms_fit, open_in}
use Rattle.poly_tiling.specs.Puzzle.{View}
use Rattle.poly_report.specs.Gather.{taken_holds, taken_paths, taken_tilings}
use Rattle.poly_report.specs.Holds.{arms_hold, holds}
use Rattle.poly_report.specs.Leaves.{tilings}
use Rattle.poly_report.specs.Paths.{paths}
use Rattle.poly_frame.specs.Walk.{Walk, step_back, with_step}
use Rattle.poly_frame.proofs.Back.{step_undone}
use Rattle.poly_atom.specs.declared.atom.Atom.{Atom}
use Rattle.poly_atom.specs.declared.atom.Atom.TheVariants.{Has, Lacks}
use Rattle.poly_report.proofs.Rows.{plan_of-Branch}
use Rattle.poly_report.proofs.Measures.{total_some}
use Rattle.poly_report.proofs.Cuts.{bare_paths, bare_says, bare_tilings, branch_says, fit_once, leave_at, length_at, no_arms, paths_at, says_at, tilings_at, unwalked_at}
use Rattle.poly_report.proofs.cut.+walk.Goals as goal

pub walk-returns-then-not-arms_fit : goal.walk-returns-then-not-arms_fit
walk-returns-then-not-arms_fit t c =
    let v = c.args.frame.now.scene in
    let A = c.args.frame.now.atoms in
    let arms = c.deref.result.now in
    let plan = ap plan_of c.in-Branch.is ∙ plan_of-Branch c.in-Branch.item c.in-Branch.arms ∙ ap (λ xs. Branches c.in-Branch.item (arms_list xs)) (sym c.deref.ensures.value) in
    record {
      same = λ y. absurd (true≢false (sym y));
      says = sym (branch_says v A (plan_of c.args.tree.now) c.in-Branch.item arms plan c.arms_fit.result c.arms_fit.ensures ∙ ap (λ b. b && arms_hold v A [] (arms_list arms)) c.if-not-arms_fit.true);
      tilings = λ y. absurd (true≢false (sym y));
      paths = λ y. absurd (true≢false (sym y));
      why = tt;
    }

pub walk-walk_arms-requires : goal.walk-walk_arms-requires
walk-walk_arms-requires t c =
    let v = c.args.frame.now.scene in
    let A = c.args.frame.now.atoms in
    let arms = c.deref-in-Branch.result.now in
    let plan = ap plan_of c.in-Branch.is ∙ plan_of-Branch c.in-Branch.item c.in-Branch.arms ∙ ap (λ xs. Branches c.in-Branch.item (arms_list xs)) (sym c.deref-in-Branch.ensures.value) in
    let nodes = ap total plan in
    let same = c.deref.ensures.value ∙ sym c.deref-in-Branch.ensures.value in
    let fit = sym (ap (λ (xs : List Arm). arms_fit v A c.in-Branch.item (heads (arms_list xs))) same) ∙ sym c.arms_fit.ensures ∙ c.if-not-arms_fit.false in
    (search (rules, the_lemmas), (omega arith, (omega arith, fit_once v A c.in-Branch.item (heads (arms_list arms)) fit)))

pub walk-leave-requires : goal.walk-leave-requires
walk-leave-requires t c =
    let same = c.in_ok-yes-in-Split.ensures.same c.if-not-yes.false in
    let nodes = ap (λ x. total (plan_of x)) c.in-Split.is in
    let length = ap (λ (w : Walk). length w.atoms) same in
    let given = ap (λ (w : Walk). w.given) same in
    let a = total_some (plan_of c.in-Split.taken.value) in
    let b = total_some (plan_of c.in-Split.left.value) in
    omega arith

pub walk-returns-else-not-arms_fit-clause-says : goal.walk-returns-else-not-arms_fit-clause-says
walk-returns-else-not-arms_fit-clause-says t c =
    let v = c.args.frame.now.scene in
    let A = c.args.frame.now.atoms in
    let arms = c.deref-in-Branch.result.now in
    let plan = ap plan_of c.in-Branch.is ∙ plan_of-Branch c.in-Branch.item c.in-Branch.arms ∙ ap (λ xs. Branches c.in-Branch.item (arms_list xs)) (sym c.deref-in-Branch.ensures.value) in
    let same = c.deref.ensures.value ∙ sym c.deref-in-Branch.ensures.value in
    let fit = sym c.if-not-arms_fit.false ∙ c.arms_fit.ensures ∙ ap (λ (xs : List Arm). arms_fit v A c.in-Branch.item (heads (arms_list xs))) same in
    IfOk-weaker c.walk_arms.result _ _ (λ yes e. e ∙ sym (branch_says v A (plan_of c.args.tree.now) c.in-Branch.item arms plan true fit)) c.walk_arms.ensures.says

pub walk-returns-else-not-arms_fit-clause-tilings : goal.walk-returns-else-not-arms_fit-clause-tilings
walk-returns-else-not-arms_fit-clause-tilings t c =
    let v = c.args.frame.now.scene in
    let A = c.args.frame.now.atoms in
    let plan = ap plan_of c.in-Branch.is ∙ plan_of-Branch c.in-Branch.item c.in-Branch.arms ∙ ap (λ xs. Branches c.in-Branch.item (arms_list xs)) (sym c.deref-in-Branch.ensures.value) in
    IfOk-weaker c.walk_arms.result _ _ (λ yes e. λ y k. e y k ∙ ap (λ p. c.args.out.now.tilings.items ++ tilings v A p) (sym plan)) c.walk_arms.ensures.tilings

pub walk-returns-else-not-arms_fit-clause-paths : goal.walk-returns-else-not-arms_fit-clause-paths
walk-returns-else-not-arms_fit-clause-paths t c =
    let v = c.args.frame.now.scene in
    let A = c.args.frame.now.atoms in
    let plan = ap plan_of c.in-Branch.is ∙ plan_of-Branch c.in-Branch.item c.in-Branch.arms ∙ ap (λ xs. Branches c.in-Branch.item (arms_list xs)) (sym c.deref-in-Branch.ensures.value) in
    IfOk-weaker c.walk_arms.result _ _ (λ yes e. λ y k. e y k ∙ ap (λ p. c.args.out.now.paths ++ paths c.args.frame.now.given v A p) (sym plan)) c.walk_arms.ensures.paths

pub walk_arms-leave-requires : goal.walk_arms-leave-requires
walk_arms-leave-requires t c =
    let A = c.args.frame.now.atoms in
    let arms = c.args.arms.now in
    let k = c.loop-arm.arm-index in
    let here = c.in_ok-yes.ensures.same c.if-not-yes.false ∙ c.loop-arm.invariant.frame in
    let most = ap (λ (w : Walk). length w.atoms) here in
    let given = ap (λ (w : Walk). w.given) here in
    let few = length_at A arms k in
    let left = ap arms_total (unwalked_at arms k c.arm-item.result c.loop-arm-test.true c.arm-item.is) in
    let some = total_some (plan_of c.arm-item.result.tree) in
    omega arith

pub walk_arms-returns-then-not-yes : goal.walk_arms-returns-then-not-yes
walk_arms-returns-then-not-yes t c =
    let v = c.args.frame.now.scene in
    let A = c.args.frame.now.atoms in
    let arms = c.args.arms.now in
    let k = c.loop-arm.arm-index in
    let says = sym c.if-not-yes.true ∙ c.in_ok-yes.ensures.says in
    record {
      same = λ y. absurd (true≢false (sym y));
      says = sym (c.loop-arm.invariant.says ∙ says_at v A c.args.frame.now.given arms k c.arm-item.result c.loop-arm-test.true c.arm-item.is c.requires.once c.loop-arm.frame c.loop-arm.invariant.frame false says);
      tilings = λ y. absurd (true≢false (sym y));
      paths = λ y. absurd (true≢false (sym y));
      why = tt;
    }

pub walk_arms-loop-arm-preserved : goal.walk_arms-loop-arm-preserved
walk_arms-loop-arm-preserved t c =
    let v = c.args.frame.now.scene in
    let A = c.args.frame.now.atoms in
    let g = c.args.frame.now.given in
    let arms = c.args.arms.now in
    let k = c.loop-arm.arm-index in
    let a = c.arm-item.result in
    let lt = c.loop-arm-test.true in
    let passed = c.if-not-yes.false in
    let inv = c.loop-arm.invariant in
    let says = sym passed ∙ c.in_ok-yes.ensures.says in
    let left = ap arms_total (unwalked_at arms k a lt c.arm-item.is) in
    let some = total_some (plan_of a.tree) in
    record {
      level = inv.level;
      frame = c.leave.ensures ∙ leave_at v A g arms k a lt c.arm-item.is c.walk_taken.new.frame (c.in_ok-yes.ensures.same passed ∙ inv.frame);
      steps = omega arith;
      says = inv.says ∙ says_at v A g arms k a lt c.arm-item.is c.requires.once c.loop-arm.frame inv.frame true says;
      tilings = λ y. tilings_at v A g arms k a lt c.arm-item.is c.requires.once c.loop-arm.frame inv.frame c.loop-arm.out.tilings.items c.walk_taken.new.out.tilings.items (c.in_ok-yes.ensures.tilings passed y) ∙ inv.tilings y;
      paths = λ y. paths_at v A g arms k a lt c.arm-item.is c.requires.once c.loop-arm.frame inv.frame c.loop-arm.out.paths c.walk_taken.new.out.paths (c.in_ok-yes.ensures.paths passed y) ∙ inv.paths y;
    }

pub walk_taken-returns-then-is_empty : goal.walk_taken-returns-then-is_empty
walk_taken-returns-then-is_empty t c =
    let v = c.args.frame.now.scene in
    let A = c.args.frame.now.atoms in
    let p = c.args.placement in
    let i = c.in-Branch.item in
    let arms = c.in-Branch.arms in
    let plan = ap plan_of c.in-Branch.is ∙ plan_of-Branch i arms ∙ ap (Branches i) (no_arms arms.items (omega (arith, eqb-true _ _ (sym c.is_empty.ensures ∙ c.if-is_empty.true), arms.ok.0))) in
    let alive = sym c.dead.ensures ∙ c.if-dead.false in
    record {
      same = λ y. c.starves.ensures.same;
      says = bare_says v A p i (plan_of c.args.tree.now) c.starves.result plan alive c.starves.ensures.value;
      tilings = λ y k. bare_tilings v A p i (plan_of c.args.tree.now) c.args.out.now.tilings.items plan alive;
      paths = λ y k. bare_paths c.args.frame.now.given v A p i (plan_of c.args.tree.now) c.args.out.now.paths plan alive;
      why = tt;
    }

pub walk_taken-walk-requires : goal.walk_taken-walk-requires
walk_taken-walk-requires t c =
    let given = ap (λ (w : Walk). w.given) c.pick.ensures in
    let long = ap (λ (w : Walk). length w.atoms) c.pick.ensures in
    let more = length-append c.args.frame.now.atoms (Has c.args.placement ∷ []) in
    (omega (arith, c.decreases), (omega (arith, given, long, more, c.requires.begun), omega (arith, given, long, more, c.requires.steps)))

pub walk_taken-returns : goal.walk_taken-returns
walk_taken-returns t c =
    let w = c.args.frame.now in
    let p = c.args.placement in
    let plan = plan_of c.args.tree.now in
    let out = c.args.out.now in
    let passed = c.if-not-yes.false in
    let alive = sym c.dead.ensures ∙ c.if-dead.false in
    let e = c.in_ok-yes.ensures in
    record {
      same = λ y. c.back.ensures ∙ ap step_back (e.same passed ∙ c.pick.ensures) ∙ step_undone w (Has p);
      says = sym passed ∙ e.says ∙ ap (λ (x : Walk). holds x.scene x.atoms plan) c.pick.ensures ∙ ap (λ b. b || holds w.scene (w.atoms ++ Has p ∷ []) plan) (sym alive);
      tilings = λ y k. e.tilings passed k ∙ ap (λ (x : Walk). out.tilings.items ++ tilings x.scene x.atoms plan) c.pick.ensures ∙ ap (λ b. out.tilings.items ++ cond b [] (tilings w.scene (w.atoms ++ Has p ∷ []) plan)) (sym alive);
      paths = λ y k. e.paths passed k ∙ ap (λ (x : Walk). out.paths ++ paths x.given x.scene x.atoms plan) c.pick.ensures ∙ ap (λ b. out.paths ++ cond b [] (paths w.given w.scene (w.atoms ++ Has p ∷ []) plan)) (sym alive);
      why = tt;
    }

pub walk_taken-returns-then-not-yes : goal.walk_taken-returns-then-not-yes
walk_taken-returns-then-not-yes t c =
    let w = c.args.frame.now in
    let p = c.args.placement in
    let plan = plan_of c.args.tree.now in
    let alive = sym c.dead.ensures ∙ c.if-dead.false in
    record {
      same = λ y. absurd (true≢false (sym y));
      says = sym c.if-not-yes.true ∙ c.in_ok-yes.ensures.says ∙ ap (λ (x : Walk). holds x.scene x.atoms plan) c.pick.ensures ∙ ap (λ b. b || holds w.scene (w.atoms ++ Has p ∷ []) plan) (sym alive);
      tilings = λ y. absurd (true≢false (sym y));
      paths = λ y. absurd (true≢false (sym y));
      why = tt;
    }

pub walk-walk_taken-requires : goal.walk-walk_taken-requires
walk-walk_taken-requires t c =
    let nodes = ap (λ x. total (plan_of x)) c.in-Split.is in
    let taken = ap (λ x. total (plan_of x)) c.deref-in-Split.ensures in
    (search (rules, the_lemmas), (c.requires.begun, omega (arith, nodes, taken, c.requires.steps, total_some (plan_of c.in-Split.left.value))))

split_left : (w taken left : Walk) (p : ℕ) → left ≡ with_step taken (Lacks p) → taken ≡ w → left ≡ with_step w (Lacks p)
split_left w taken left p e same = e ∙ ap (λ (x : Walk). with_step x (Lacks p)) same

pub walk-walk-requires : goal.walk-walk-requires
walk-walk-requires t c =
    let p = c.in-Split.placement in
    let at = split_left c.args.frame.now c.walk_taken.new.frame c.leave.new.self p c.leave.ensures (c.in_ok-yes-in-Split.ensures.same c.if-not-yes.false) in
    let given = ap (λ (w : Walk). w.given) at in
    let long = ap (λ (w : Walk). length w.atoms) at in
    let more = length-append c.args.frame.now.atoms (Lacks c.in-Split.placement ∷ []) in
    let nodes = ap (λ x. total (plan_of x)) c.in-Split.is in
    let left = ap (λ x. total (plan_of x)) c.deref-in-Split-2.ensures in
    (search (rules, the_lemmas), (omega (arith, given, long, more, c.requires.begun), omega (arith, given, long, more, nodes, left, c.requires.steps)))

pub walk-returns-then-not-yes : goal.walk-returns-then-not-yes
walk-returns-then-not-yes t c =
    let v = c.args.frame.now.scene in
    let A = c.args.frame.now.atoms in
    let p = c.in-Split.placement in
    let taken = sym c.if-not-yes.true ∙ c.in_ok-yes-in-Split.ensures.says ∙ ap (λ x. taken_holds v A p (plan_of x)) c.deref-in-Split.ensures in
    record {
      same = λ y. absurd (true≢false (sym y));
      says = sym (ap (λ x. holds v A (plan_of x)) c.in-Split.is ∙ and_right (holds v (A ++ Lacks p ∷ []) (plan_of c.in-Split.left.value)) (taken_holds v A p (plan_of c.in-Split.taken.value)) (sym taken));
      tilings = λ y. absurd (true≢false (sym y));
      paths = λ y. absurd (true≢false (sym y));
      why = tt;
    }

pub walk-returns-then-not-both : goal.walk-returns-then-not-both
walk-returns-then-not-both t c =
    let v = c.args.frame.now.scene in
    let A = c.args.frame.now.atoms in
    let p = c.in-Split.placement in
    let there = ap (λ (w : Walk). holds w.scene w.atoms (plan_of c.deref-in-Split-2.result.now)) (split_left c.args.frame.now c.walk_taken.new.frame c.leave.new.self p c.leave.ensures (c.in_ok-yes-in-Split.ensures.same c.if-not-yes.false)) in
    let left = sym c.if-not-both.true ∙ c.in_ok-both-in-Split.ensures.says ∙ there ∙ ap (λ x. holds v (A ++ Lacks p ∷ []) (plan_of x)) c.deref-in-Split-2.ensures in
    record {
      same = λ y. absurd (true≢false (sym y));
      says = ap (λ b. b && taken_holds v A p (plan_of c.in-Split.taken.value)) left ∙ sym (ap (λ x. holds v A (plan_of x)) c.in-Split.is);
      tilings = λ y. absurd (true≢false (sym y));
      paths = λ y. absurd (true≢false (sym y));
      why = tt;
    }

pub walk-returns-else-not-both-clause-same : goal.walk-returns-else-not-both-clause-same
walk-returns-else-not-both-clause-same t c = λ y.
    let p = c.in-Split.placement in
    c.back.ensures ∙ ap step_back (c.in_ok-both-in-Split.ensures.same c.if-not-both.false ∙ split_left c.args.frame.now c.walk_taken.new.frame c.leave.new.self p c.leave.ensures (c.in_ok-yes-in-Split.ensures.same c.if-not-yes.false)) ∙ step_undone c.args.frame.now (Lacks p)

pub walk-returns-else-not-both-clause-says : goal.walk-returns-else-not-both-clause-says
walk-returns-else-not-both-clause-says t c =
    let v = c.args.frame.now.scene in
    let A = c.args.frame.now.atoms in
    let p = c.in-Split.placement in
    let below = A ++ Lacks p ∷ [] in
    let taken = sym c.if-not-yes.false ∙ c.in_ok-yes-in-Split.ensures.says ∙ ap (λ x. taken_holds v A p (plan_of x)) c.deref-in-Split.ensures in
    let there = ap (λ (w : Walk). holds w.scene w.atoms (plan_of c.deref-in-Split-2.result.now)) (split_left c.args.frame.now c.walk_taken.new.frame c.leave.new.self p c.leave.ensures (c.in_ok-yes-in-Split.ensures.same c.if-not-yes.false)) in
    let left = sym c.if-not-both.false ∙ c.in_ok-both-in-Split.ensures.says ∙ there ∙ ap (λ x. holds v below (plan_of x)) c.deref-in-Split-2.ensures in
    taken ∙ ap (λ b. b && taken_holds v A p (plan_of c.in-Split.taken.value)) left ∙ sym (ap (λ x. holds v A (plan_of x)) c.in-Split.is)

pub walk-returns-else-not-both-clause-tilings : goal.walk-returns-else-not-both-clause-tilings
walk-returns-else-not-both-clause-tilings t c = λ y k.
    let v = c.args.frame.now.scene in
    let A = c.args.frame.now.atoms in
    let p = c.in-Split.placement in
    let out = c.args.out.now.tilings.items in
    let mid = c.walk_taken.new.out.tilings.items in
    let first = taken_tilings v A p (plan_of c.in-Split.taken.value) in
    let last = tilings v (A ++ Lacks p ∷ []) (plan_of c.in-Split.left.value) in
    let taken : mid ≡ out ++ first = c.in_ok-yes-in-Split.ensures.tilings c.if-not-yes.false k ∙ ap (λ x. out ++ taken_tilings v A p (plan_of x)) c.deref-in-Split.ensures in
    let there = ap (λ (w : Walk). mid ++ tilings w.scene w.atoms (plan_of c.deref-in-Split-2.result.now)) (split_left c.args.frame.now c.walk_taken.new.frame c.leave.new.self p c.leave.ensures (c.in_ok-yes-in-Split.ensures.same c.if-not-yes.false)) in
    let left : c.walk.new.out.tilings.items ≡ mid ++ last = c.in_ok-both-in-Split.ensures.tilings c.if-not-both.false k ∙ there ∙ ap (λ x. mid ++ tilings v (A ++ Lacks p ∷ []) (plan_of x)) c.deref-in-Split-2.ensures in
    left ∙ ap (λ xs. xs ++ last) taken ∙ append_assoc out first last ∙ sym (ap (λ x. out ++ tilings v A (plan_of x)) c.in-Split.is)

pub walk-returns-else-not-both-clause-paths : goal.walk-returns-else-not-both-clause-paths
walk-returns-else-not-both-clause-paths t c = λ y k.
    let v = c.args.frame.now.scene in
    let A = c.args.frame.now.atoms in
    let g = c.args.frame.now.given in
    let p = c.in-Split.placement in
    let out = c.args.out.now.paths in
    let mid = c.walk_taken.new.out.paths in
    let first = taken_paths g v A p (plan_of c.in-Split.taken.value) in
    let last = paths g v (A ++ Lacks p ∷ []) (plan_of c.in-Split.left.value) in
    let taken : mid ≡ out ++ first = c.in_ok-yes-in-Split.ensures.paths c.if-not-yes.false k ∙ ap (λ x. out ++ taken_paths g v A p (plan_of x)) c.deref-in-Split.ensures in
    let there = ap (λ (w : Walk). mid ++ paths w.given w.scene w.atoms (plan_of c.deref-in-Split-2.result.now)) (split_left c.args.frame.now c.walk_taken.new.frame c.leave.new.self p c.leave.ensures (c.in_ok-yes-in-Split.ensures.same c.if-not-yes.false)) in
    let left : c.walk.new.out.paths ≡ mid ++ last = c.in_ok-both-in-Split.ensures.paths c.if-not-both.false k ∙ there ∙ ap (λ x. mid ++ paths g v (A ++ Lacks p ∷ []) (plan_of x)) c.deref-in-Split-2.ensures in
    left ∙ ap (λ xs. xs ++ last) taken ∙ append_assoc out first last ∙ sym (ap (λ x. out ++ paths g v A (plan_of x)) c.in-Split.is)

pub walk_arms-walk_taken-requires : goal.walk_arms-walk_taken-requires
walk_arms-walk_taken-requires t c =
    let A = c.args.frame.now.atoms in
    let arms = c.args.arms.now in
    let k = c.loop-arm.arm-index in
    let inv = c.loop-arm.invariant in
    let most = ap (λ (w : Walk). length w.atoms) inv.frame in
    let given = ap (λ (w : Walk). w.given) inv.frame in
    let few = length_at A arms k in
    let least = length-append A (map (λ q. Lacks q) (map (λ (a : Arm). a.placement) (take k arms))) in
    let left = ap arms_total (unwalked_at arms k c.arm-item.result c.loop-arm-test.true c.arm-item.is) in
    (search (rules, the_lemmas), (omega (arith, most, given, least, c.requires.begun), omega (arith, most, given, few, left, inv.steps, c.requires.steps)))

found_says : (v : View) (A : List Atom) {tree : Tree} {b : Bool} → tree ≡ Found → b ≡ list_all (λ p. not (open_in v A p)) v.live → b ≡ true → true ≡ holds v A (plan_of tree)
found_says v A is none sure = sym sure ∙ none ∙ sym (ap (λ x. holds v A (plan_of x)) is)

pub walk-returns-in_ok-push_found-in-Found-clause-says : goal.walk-returns-in_ok-push_found-in-Found-clause-says
walk-returns-in_ok-push_found-in-Found-clause-says t c = found_says c.args.frame.now.scene c.args.frame.now.atoms c.in-Found.is c.none_open.ensures (search rules)

pub walk-returns-else-keep-2-clause-says : goal.walk-returns-else-keep-2-clause-says
walk-returns-else-keep-2-clause-says t c = found_says c.args.frame.now.scene c.args.frame.now.atoms c.in-Found.is c.none_open.ensures (search rules)
