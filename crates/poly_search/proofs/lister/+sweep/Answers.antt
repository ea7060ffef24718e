use Rattle.std.proofs.Common.{◌≡◌, ℕ, ◌+◌, ◌<◌, ◌≤◌, ◌-◌, length, ◌++◌, [], ◌∷◌, List, ◌&&◌, true, append-nil, arith, refl, sym, ap, subst, length-append, take, drop, ◌∙◌}
use Rattle.poly_tiling.specs.Lists.{distinct, mem}
use Rattle.poly_report.specs.Gather.{lists}
use Rattle.poly_frame.specs.Walk.{Walk, backtrack_to, is_due, is_option, step_back, with_step}
use Rattle.poly_frame.proofs.Back.{step_undone}
use Rattle.std.proofs.lemmas.List.{drop_at, length-take, take-append-le, take_all}
use Rattle.std.proofs.lemmas.Bool.{true≢false}
use Rattle.std.proofs.lemmas.Result.{IfOk-weaker}
use Rattle.poly_atom.specs.declared.atom.Atom.{Atom}
use Rattle.poly_atom.specs.declared.atom.Atom.TheVariants.{Has, Lacks}
use Rattle.poly_search.proofs.Gathered.{leaves_cut}
use Rattle.poly_search.proofs.Nodes.{past_back}
use Rattle.poly_search.specs.Sweeps.{Swept, IsLighter, Partly}
use Rattle.poly_search.proofs.Swept.{behind, partly_none, swept_rest, arm_partly, arm_swept, starved_swept, partly_more, partly_swept, partly_lighter}
use Rattle.poly_search.proofs.Arms.{left_is, option_opens, option_partly, passed_more, passed_begun, options_end, open_end}
use Rattle.poly_search.proofs.lister.+sweep.Goals as goal
use Rattle.poly_search.proofs.lister.+sweep.Goals.{sweep_item-then-len-from+in_ok-focus, sweep_item-else-len-from, sweep_options-then-at-len, sweep_options-else-at-len}

kept : (t : ℕ) (c : goal.sweep_arm-After-back-then-not-whole t) → Swept c.args.frame.now.scene c.args.frame.now.atoms c.args.list.now.found.items c.push_rest.new.list.found.items (lists c.args.list.now.rests.items) (lists c.push_rest.new.list.rests.items)
    × IsLighter c.args.frame.now.scene c.args.frame.now.atoms (lists c.args.list.now.rests.items) (lists c.push_rest.new.list.rests.items)
kept t c =
    let w = c.args.frame.now in
    let p = c.args.placement in
    let r = c.requires in
    let picked = c.leads_on.ensures.taken c.if-not-leads_on.false in
    let left = left_is w c.leads_on.new.frame c.sweep_below.new.frame c.back.new.self c.leave.new.self p picked c.in_ok-whole.ensures.same c.back.ensures c.leave.ensures in
    let below = subst (λ (x : Walk). Swept x.scene x.atoms c.args.list.now.found.items c.sweep_below.new.list.found.items (lists c.args.list.now.rests.items) (lists c.sweep_below.new.list.rests.items)) picked c.in_ok-whole.ensures.swept in
    let rests = c.in_ok-push_rest.ensures.rests ∙ ap (λ (x : Walk). lists c.sweep_below.new.list.rests.items ++ x.atoms ∷ []) left in
    arm_swept w.scene w.atoms p _ _ _ _ _ _ r.once r.place r.open below c.in_ok-push_rest.ensures.found rests

pub sweep_arm-returns-then-not-leads_on : goal.sweep_arm-returns-then-not-leads_on
sweep_arm-returns-then-not-leads_on t c =
    let w = c.args.frame.now in
    let r = c.requires in
    let not_taken = c.if-not-leads_on.true in
    let s = c.leads_on.ensures.starved not_taken in
    record {
      same = c.leads_on.ensures.same not_taken;
      room = λ _. c.leads_on.ensures.room not_taken;
      more = λ _. arm_partly w.scene w.atoms c.args.placement _ _ _ _ r.once r.place r.open (starved_swept w.scene (w.atoms ++ Has c.args.placement ∷ []) s.0 _ _ s.1);
      swept = λ e. absurd (true≢false e);
      lighter = λ e. absurd (true≢false e);
      whole = λ _. refl;
      left = λ e. absurd (true≢false e);
      options = refl;
      why = tt;
    }

pub sweep_arm-returns-in_ok-push_rest : goal.sweep_arm-returns-in_ok-push_rest
sweep_arm-returns-in_ok-push_rest t c =
    let w = c.args.frame.now in
    let p = c.args.placement in
    let g = c.in_ok-whole.ensures in
    let more = c.in_ok-push_rest.ensures in
    let partial = c.if-not-whole.true in
    let back = c.back.ensures ∙ ap step_back (g.same ∙ c.leads_on.ensures.taken c.if-not-leads_on.false) ∙ step_undone w (Has p) in
    record {
      same = c.back-then-not-whole.ensures ∙ ap (λ (x : Walk). step_back x) (c.leave.ensures ∙ ap (λ (x : Walk). with_step x (Lacks p)) back) ∙ step_undone w (Lacks p);
      room = λ y. absurd (true≢false (sym y ∙ partial));
      more = λ y. absurd (true≢false (sym y ∙ partial));
      swept = λ _. (kept t c).0;
      lighter = λ _. (kept t c).1;
      whole = λ y. absurd (true≢false (sym y ∙ partial));
      left = λ _. omega (arith, g.left partial, ap length more.rests, length-append (lists c.sweep_below.new.list.rests.items) (c.leave.new.self.atoms ∷ []));
      options = ◌∙◌ {A = List ℕ} more.options g.options;
      why = tt;
    }

pub sweep_arm-returns-else-not-whole : goal.sweep_arm-returns-else-not-whole
sweep_arm-returns-else-not-whole t c =
    let w = c.args.frame.now in
    let p = c.args.placement in
    let r = c.requires in
    let g = c.in_ok-whole.ensures in
    let picked = c.leads_on.ensures.taken c.if-not-leads_on.false in
    let below = subst (λ (x : Walk). Swept x.scene x.atoms c.args.list.now.found.items c.sweep_below.new.list.found.items (lists c.args.list.now.rests.items) (lists c.sweep_below.new.list.rests.items)) picked g.swept in
    record {
      same = c.back.ensures ∙ ap step_back (g.same ∙ picked) ∙ step_undone w (Has p);
      room = λ y. omega (arith, g.room y, ap (λ (x : Walk). length x.atoms) (g.same ∙ picked), length-append w.atoms (Has p ∷ []));
      more = λ _. arm_partly w.scene w.atoms p _ _ _ _ r.once r.place r.open below;
      swept = λ n. absurd (true≢false (sym c.if-not-whole.false ∙ n));
      lighter = λ n. absurd (true≢false (sym c.if-not-whole.false ∙ n));
      whole = g.whole;
      left = g.left;
      options = g.options;
      why = tt;
    }

pub sweep_below-returns-then-depth-eq0 : goal.sweep_below-returns-then-depth-eq0
sweep_below-returns-then-depth-eq0 t c =
    let A = c.args.frame.now.atoms in
    let g = c.in_ok-push_rest.ensures in
    record {
      same = refl;
      room = λ y. absurd (true≢false (sym y));
      swept = swept_rest c.args.frame.now.scene A _ _ _ _ g.found g.rests;
      whole = λ y. absurd (true≢false (sym y));
      left = λ _. omega (arith, ap length g.rests, length-append (lists c.args.list.now.rests.items) (A ∷ []));
      options = g.options;
      why = tt;
    }

pub sweep_open-returns-then-not-whole : goal.sweep_open-returns-then-not-whole
sweep_open-returns-then-not-whole t c =
    let w = c.args.frame.now in
    let here = c.loop-placement.frame in
    let i = c.loop-placement.invariant in
    let g = c.in_ok-whole.ensures in
    let partial = c.if-not-whole.true in
    let new = lists c.sweep_arm.new.list.rests.items in
    let level = c.level-level.ensures ∙ ap (λ (x : Walk). length x.atoms) c.in_ok-focus.ensures.same in
    record {
      same = c.backtrack_to.ensures ∙ ap (λ x. backtrack_to x c.level-level.result) (g.same ∙ i.path) ∙ ap (λ n. record w { atoms = take n here.atoms }) level ∙ ap (λ xs. record w { atoms = xs }) i.back;
      swept = partly_swept w.scene w.atoms here.atoms _ _ _ _ _ _ i.swept (subst (λ v. Swept v here.atoms c.loop-placement.list.found.items c.sweep_arm.new.list.found.items (lists c.loop-placement.list.rests.items) new) (ap (λ (x : Walk). x.scene) i.path) (g.swept partial));
      lighter = partly_lighter w.scene w.atoms here.atoms _ _ _ _ _ i.swept (subst (λ v. IsLighter v here.atoms (lists c.loop-placement.list.rests.items) new) (ap (λ (x : Walk). x.scene) i.path) (g.lighter partial));
      whole = λ y. absurd (true≢false (sym y));
      left = λ _. subst (λ Bs. length Bs < length new) i.left (g.left partial);
      options = ◌∙◌ {A = List ℕ} g.options i.options;
      why = tt;
    }

pub sweep_options-returns-then-not-whole : goal.sweep_options-returns-then-not-whole
sweep_options-returns-then-not-whole t c =
    let w = c.args.frame.now in
    let i = c.loop-at.invariant in
    let g = c.in_ok-whole.ensures in
    let partial = c.if-not-whole.true in
    let lt : c.loop-at.at < length c.args.list.now.options.items = omega (arith, c.loop-at-test.true, c.len-at-end.ensures, c.args.list.now.options.ok) in
    let here = i.path lt in
    let ps = take (c.loop-at.at - c.args.from) (drop c.args.from c.args.list.now.options.items) in
    let new = lists c.sweep_arm.new.list.rests.items in
    record {
      same = c.backtrack_to.ensures ∙ ap (λ n. backtrack_to c.sweep_arm.new.frame n) c.level-level.ensures ∙ past_back w c.sweep_arm.new.frame ps (g.same ∙ here);
      swept = partly_swept w.scene w.atoms (behind w.atoms ps) _ _ _ _ _ _ i.swept (subst (λ (x : Walk). Swept x.scene x.atoms c.loop-at.list.found.items c.sweep_arm.new.list.found.items (lists c.loop-at.list.rests.items) new) here (g.swept partial));
      lighter = partly_lighter w.scene w.atoms (behind w.atoms ps) _ _ _ _ _ i.swept (subst (λ (x : Walk). IsLighter x.scene x.atoms (lists c.loop-at.list.rests.items) new) here (g.lighter partial));
      whole = λ y. absurd (true≢false (sym y));
      left = λ _. subst (λ Bs. length Bs < length new) i.left (g.left partial);
      options = ◌∙◌ {A = List ℕ} g.options i.options;
      why = tt;
    }

pub sweep_open-returns-clause-swept : goal.sweep_open-returns-clause-swept
sweep_open-returns-clause-swept t c =
    let i = c.loop-placement.invariant in
    let g = c.in_ok-push_found.ensures in
    (open_end c.args.frame.now c.loop-placement.frame _ _ _ _ _ _ i.path c.in_default.ensures g.found (ap lists g.rests) i.swept).0

pub sweep_open-returns-clause-lighter : goal.sweep_open-returns-clause-lighter
sweep_open-returns-clause-lighter t c =
    let i = c.loop-placement.invariant in
    let g = c.in_ok-push_found.ensures in
    (open_end c.args.frame.now c.loop-placement.frame _ _ _ _ _ _ i.path c.in_default.ensures g.found (ap lists g.rests) i.swept).1

pub sweep_options-returns : goal.sweep_options-returns
sweep_options-returns t c =
    let i = c.loop-at.invariant in
    let r = c.requires in
    let over : length c.args.list.now.options.items ≤ c.loop-at.at = omega (arith, c.loop-at-test.false, c.len-at-end.ensures, c.args.list.now.options.ok) in
    let all = options_end c.args.frame.now c.args.item.now c.args.list.now.options.items c.args.from c.loop-at.at _ _ _ _ over r.once r.due (r.each_once, r.members) i.swept in
    record {
      same = c.backtrack_to-2.ensures ∙ ap (λ n. backtrack_to c.loop-at.frame n) c.level-level.ensures ∙ i.front;
      swept = all.0;
      lighter = all.1;
      whole = λ _. i.left;
      left = λ n. absurd (true≢false n);
      options = i.options;
      why = tt;
    }

pub sweep_options-sweep_arm-requires : goal.sweep_options-sweep_arm-requires
sweep_options-sweep_arm-requires t c =
    let w = c.args.frame.now in
    let xs = c.args.list.now.options.items in
    let i = c.loop-at.invariant in
    let r = c.requires in
    let lt : c.loop-at.at < length xs = omega (arith, c.loop-at-test.true, c.len-at-end.ensures, c.args.list.now.options.ok) in
    let here = i.path lt in
    let o = option_opens w c.loop-at.frame c.args.item.now xs c.loop-at.list.options.items c.args.from c.loop-at.at c.index-placement.result.now i.low lt i.options c.index-placement.ensures (r.each_once, r.members) here in
    let begun = passed_begun w c.loop-at.frame _ here r.begun in
    let end : c.args.end ≤ c.loop-at.frame.given + 4096 = omega (arith, ap (λ (x : Walk). x.given) here, r.end) in
    let once = subst (λ (x : Walk). distinct x.scene.live ≡ true) (sym here) r.once in
    (omega (arith, c.decreases), (begun, (i.room lt, (end, (once, (o.0, o.1))))))

pub sweep_options-loop-at-preserved : goal.sweep_options-loop-at-preserved
sweep_options-loop-at-preserved t c =
    let w = c.args.frame.now in
    let xs = c.args.list.now.options.items in
    let i = c.loop-at.invariant in
    let r = c.requires in
    let g = c.in_ok-whole.ensures in
    let lt : c.loop-at.at < length xs = omega (arith, c.loop-at-test.true, c.len-at-end.ensures, c.args.list.now.options.ok) in
    let whole = c.if-not-whole.false in
    let here = i.path lt in
    let p = c.index-placement.result.now in
    let part = option_partly w c.loop-at.frame xs c.loop-at.list.options.items c.args.from c.loop-at.at p _ _ _ _ i.low lt i.options c.index-placement.ensures here (g.more whole) in
    let some = ap length (◌∙◌ {A = List ℕ} g.options i.options) in
    record {
      low = omega (arith, i.low);
      path = λ h. elim c.if-at-len.branch [
        | sweep_options-then-at-len k ↦ k.frame-is ∙ passed_more w c.sweep_arm.new.frame k.leave.new.self xs c.loop-at.list.options.items c.args.from c.loop-at.at p i.low lt i.options c.index-placement.ensures (g.same ∙ here) k.leave.ensures
        | sweep_options-else-at-len k ↦ absurd (omega (arith, k.if-at-len.false, c.len.ensures, c.sweep_arm.new.list.options.ok, some, h))
      ];
      front = elim c.if-at-len.branch [
        | sweep_options-then-at-len k ↦ past_back w c.if-at-len.frame (take (c.loop-at.at + 1 - c.args.from) (drop c.args.from xs)) (k.frame-is ∙ passed_more w c.sweep_arm.new.frame k.leave.new.self xs c.loop-at.list.options.items c.args.from c.loop-at.at p i.low lt i.options c.index-placement.ensures (g.same ∙ here) k.leave.ensures)
        | sweep_options-else-at-len k ↦ past_back w c.if-at-len.frame (take (c.loop-at.at - c.args.from) (drop c.args.from xs)) (k.frame-is ∙ g.same ∙ here)
      ];
      room = λ h. elim c.if-at-len.branch [
        | sweep_options-then-at-len k ↦ omega (arith, ap (λ (x : Walk). length x.atoms) (k.frame-is ∙ k.leave.ensures ∙ ap (λ x. with_step x (Lacks p)) g.same), length-append c.loop-at.frame.atoms (Lacks p ∷ []), g.room whole)
        | sweep_options-else-at-len k ↦ absurd (omega (arith, k.if-at-len.false, c.len.ensures, c.sweep_arm.new.list.options.ok, some, h))
      ];
      left = g.whole whole ∙ i.left;
      options = ◌∙◌ {A = List ℕ} g.options i.options;
      swept = partly_more w.scene w.atoms (behind w.atoms (take (c.loop-at.at - c.args.from) (drop c.args.from xs))) (behind w.atoms (take (c.loop-at.at + 1 - c.args.from) (drop c.args.from xs))) _ _ _ _ _ _ i.swept part;
    }

pub sweep-sweep_item-requires : goal.sweep-sweep_item-requires
sweep-sweep_item-requires t c =
    let r = c.requires in
    (omega (arith, c.decreases), (r.begun, (r.room, (r.end, (r.once, c.in-Some.ensures)))))

pub sweep-sweep_open-requires : goal.sweep-sweep_open-requires
sweep-sweep_open-requires t c =
    let r = c.requires in
    (omega (arith, c.decreases), (r.begun, (r.room, (r.end, r.once))))

pub sweep_below-sweep-requires : goal.sweep_below-sweep-requires
sweep_below-sweep-requires t c =
    let r = c.requires in
    (omega (arith, c.decreases, c.if-depth-eq0.false), (r.begun, (omega (arith, c.level.ensures, c.if-level-end.false), (r.end, r.once))))

pub sweep_arm-sweep_below-requires : goal.sweep_arm-sweep_below-requires
sweep_arm-sweep_below-requires t c =
    let w = c.args.frame.now in
    let r = c.requires in
    let picked = c.leads_on.ensures.taken c.if-not-leads_on.false in
    let given = ap (λ (x : Walk). x.given) picked in
    let long : w.given ≤ length c.leads_on.new.frame.atoms = omega (arith, ap (λ (x : Walk). length x.atoms) picked, length-append w.atoms (Has c.args.placement ∷ []), r.begun) in
    (omega (arith, c.decreases), (omega (arith, given, long), (omega (arith, given, r.end), subst (λ (x : Walk). distinct x.scene.live ≡ true) (sym picked) r.once)))

-- a list is no shorter than its beginning
no_shorter : (A B : List Atom) → take (length A) B ≡ A → length A ≤ length B
no_shorter A B e = omega (arith, ap length e, length-take (length A) B)

pub sweep_open-sweep_arm-requires : goal.sweep_open-sweep_arm-requires
sweep_open-sweep_arm-requires t c =
    let w = c.args.frame.now in
    let here = c.loop-placement.frame in
    let i = c.loop-placement.invariant in
    let r = c.requires in
    let given = ap (λ (x : Walk). x.given) i.path in
    let begun : here.given ≤ length here.atoms = omega (arith, given, r.begun, no_shorter w.atoms here.atoms i.back) in
    let once = subst (λ (x : Walk). distinct x.scene.live ≡ true) (sym i.path) r.once in
    (omega (arith, c.decreases), (begun, (i.room, (omega (arith, given, r.end), (once, c.in-Some.ensures)))))

left_out : (t : ℕ) (c : goal.sweep_open-After-leave t) → c.leave.new.self ≡ with_step c.loop-placement.frame (Lacks c.in-Some.placement)
left_out t c = c.leave.ensures ∙ ap (λ (x : Walk). with_step x (Lacks c.in-Some.placement)) c.in_ok-whole.ensures.same

pub sweep_open-loop-placement-smaller : goal.sweep_open-loop-placement-smaller
sweep_open-loop-placement-smaller t c =
    omega (arith, ap (λ (x : Walk). length x.atoms) (left_out t c), length-append c.loop-placement.frame.atoms (Lacks c.in-Some.placement ∷ []), c.loop-placement.invariant.room)

pub sweep_open-loop-placement-preserved : goal.sweep_open-loop-placement-preserved
sweep_open-loop-placement-preserved t c =
    let w = c.args.frame.now in
    let here = c.loop-placement.frame in
    let more = Lacks c.in-Some.placement ∷ [] in
    let new = c.leave.new.self in
    let i = c.loop-placement.invariant in
    let g = c.in_ok-whole.ensures in
    let passed = c.if-not-whole.false in
    let left = left_out t c in
    let found = c.loop-placement.list.found.items in
    let found1 = c.sweep_arm.new.list.found.items in
    let rests = lists c.loop-placement.list.rests.items in
    let rests1 = lists c.sweep_arm.new.list.rests.items in
    let part = subst (λ v. Partly v here.atoms (here.atoms ++ more) found found1 rests rests1) (ap (λ (x : Walk). x.scene) i.path) (g.more passed) in
    record {
      path = ap (λ (x : Walk). record { scene = x.scene; atoms = new.atoms; given = x.given }) (left ∙ ap (λ (x : Walk). with_step x (Lacks c.in-Some.placement)) i.path);
      back = ap (λ (x : Walk). take (length w.atoms) x.atoms) left ∙ take-append-le (length w.atoms) here.atoms more (no_shorter w.atoms here.atoms i.back) ∙ i.back;
      room = omega (arith, ap (λ (x : Walk). length x.atoms) left, length-append here.atoms more, g.room passed);
      options = ◌∙◌ {A = List ℕ} g.options i.options;
      left = g.whole passed ∙ i.left;
      swept = partly_more w.scene w.atoms here.atoms new.atoms _ _ _ _ _ _ i.swept (subst (λ C. Partly w.scene here.atoms C found found1 rests rests1) (sym (ap (λ (x : Walk). x.atoms) left)) part);
    }

pub sweep-returns-in-Some-clause-same : goal.sweep-returns-in-Some-clause-same
sweep-returns-in-Some-clause-same t c = c.sweep_item.ensures.same

pub sweep-returns-in-Some-clause-swept : goal.sweep-returns-in-Some-clause-swept
sweep-returns-in-Some-clause-swept t c = c.sweep_item.ensures.swept

pub sweep-returns-in-Some-clause-lighter : goal.sweep-returns-in-Some-clause-lighter
sweep-returns-in-Some-clause-lighter t c = c.sweep_item.ensures.lighter

pub sweep-returns-in-Some-clause-whole : goal.sweep-returns-in-Some-clause-whole
sweep-returns-in-Some-clause-whole t c = c.sweep_item.ensures.whole

pub sweep-returns-in-Some-clause-left : goal.sweep-returns-in-Some-clause-left
sweep-returns-in-Some-clause-left t c = c.sweep_item.ensures.left

pub sweep-returns-in-Some-clause-options : goal.sweep-returns-in-Some-clause-options
sweep-returns-in-Some-clause-options t c = c.sweep_item.ensures.options

pub sweep-returns-in-Some-clause-why : goal.sweep-returns-in-Some-clause-why
sweep-returns-in-Some-clause-why t c = c.sweep_item.ensures.why

pub sweep-returns-in-None-clause-same : goal.sweep-returns-in-None-clause-same
sweep-returns-in-None-clause-same t c = c.sweep_open.ensures.same

pub sweep-returns-in-None-clause-swept : goal.sweep-returns-in-None-clause-swept
sweep-returns-in-None-clause-swept t c = c.sweep_open.ensures.swept

pub sweep-returns-in-None-clause-lighter : goal.sweep-returns-in-None-clause-lighter
sweep-returns-in-None-clause-lighter t c = c.sweep_open.ensures.lighter

pub sweep-returns-in-None-clause-whole : goal.sweep-returns-in-None-clause-whole
sweep-returns-in-None-clause-whole t c = c.sweep_open.ensures.whole

pub sweep-returns-in-None-clause-left : goal.sweep-returns-in-None-clause-left
sweep-returns-in-None-clause-left t c = c.sweep_open.ensures.left

pub sweep-returns-in-None-clause-options : goal.sweep-returns-in-None-clause-options
sweep-returns-in-None-clause-options t c = c.sweep_open.ensures.options

pub sweep-returns-in-None-clause-why : goal.sweep-returns-in-None-clause-why
sweep-returns-in-None-clause-why t c = c.sweep_open.ensures.why

pub sweep_below-returns-clause-same : goal.sweep_below-returns-clause-same
sweep_below-returns-clause-same t c = c.sweep.ensures.same

pub sweep_below-returns-clause-swept : goal.sweep_below-returns-clause-swept
sweep_below-returns-clause-swept t c = c.sweep.ensures.swept

pub sweep_below-returns-clause-whole : goal.sweep_below-returns-clause-whole
sweep_below-returns-clause-whole t c = c.sweep.ensures.whole

pub sweep_below-returns-clause-left : goal.sweep_below-returns-clause-left
sweep_below-returns-clause-left t c = c.sweep.ensures.left

pub sweep_below-returns-clause-options : goal.sweep_below-returns-clause-options
sweep_below-returns-clause-options t c = c.sweep.ensures.options

pub sweep_below-returns-clause-why : goal.sweep_below-returns-clause-why
sweep_below-returns-clause-why t c = c.sweep.ensures.why

pub sweep_below-returns-clause-room : goal.sweep_below-returns-clause-room
sweep_below-returns-clause-room t c = let short : length c.args.frame.now.atoms < c.args.end = omega (arith, c.level.ensures, c.if-level-end.false) in IfOk-weaker c.sweep.result _ _ (λ x e k. subst (λ (w : Walk). length w.atoms < c.args.end) (sym e) short) c.sweep.ensures.same

-- a frame that narrowed itself stays as it was
narrowed : (t : ℕ) (c : goal.sweep_item-After-truncate t) → c.if-len-from.frame ≡ c.args.frame.now
narrowed t c = elim c.if-len-from.branch [
  | sweep_item-then-len-from+in_ok-focus k ↦ k.frame-is ∙ k.in_ok-focus.ensures.same ∙ c.options.follows.holds-at-none
  | sweep_item-else-len-from k ↦ k.frame-is ∙ c.options.follows.holds-at-none
]

pub sweep_item-returns-clause-same : goal.sweep_item-returns-clause-same
sweep_item-returns-clause-same t c = IfOk-weaker c.sweep_options-whole.result _ _ (λ x e. e ∙ narrowed t c) c.sweep_options-whole.ensures.same

pub sweep_item-returns-clause-swept : goal.sweep_item-returns-clause-swept
sweep_item-returns-clause-swept t c = IfOk-weaker c.sweep_options-whole.result _ _ (λ y e. subst (λ (x : Walk). Swept x.scene x.atoms c.args.list.now.found.items c.sweep_options-whole.new.list.found.items (lists c.args.list.now.rests.items) (lists c.sweep_options-whole.new.list.rests.items)) (narrowed t c) e) c.sweep_options-whole.ensures.swept

pub sweep_item-returns-clause-lighter : goal.sweep_item-returns-clause-lighter
sweep_item-returns-clause-lighter t c = IfOk-weaker c.sweep_options-whole.result _ _ (λ y e. subst (λ (x : Walk). IsLighter x.scene x.atoms (lists c.args.list.now.rests.items) (lists c.sweep_options-whole.new.list.rests.items)) (narrowed t c) e) c.sweep_options-whole.ensures.lighter

pub sweep_item-returns-clause-whole : goal.sweep_item-returns-clause-whole
sweep_item-returns-clause-whole t c = c.sweep_options-whole.ensures.whole

pub sweep_item-returns-clause-left : goal.sweep_item-returns-clause-left
sweep_item-returns-clause-left t c = c.sweep_options-whole.ensures.left

pub sweep_item-returns-clause-options : goal.sweep_item-returns-clause-options
sweep_item-returns-clause-options t c =
    let xs = c.args.list.now.options in
    let from : c.len-from.result ≡ length xs.items = omega (arith, c.len-from.ensures, xs.ok) in
    IfOk-weaker c.sweep_options-whole.result _ _ (λ x e. leaves_cut xs.items c.sweep_options-whole.new.list.options.items c.truncate.new.self.items c.options.result.now c.len-from.result from (◌∙◌ {A = List ℕ} e c.in_ok-extend_from_slice.ensures.items) c.truncate.ensures.items) c.sweep_options-whole.ensures.options

pub sweep_item-sweep_options-whole-requires : goal.sweep_item-sweep_options-whole-requires
sweep_item-sweep_options-whole-requires t c =
    let w = c.args.frame.now in
    let i = c.args.item.now in
    let r = c.requires in
    let xs = c.args.list.now.options in
    let ys = c.extend_from_slice.new.self.items in
    let e = c.options.ensures in
    let still : w ≡ c.if-len-from.frame = sym (elim c.if-len-from.branch [
      | sweep_item-then-len-from+in_ok-focus k ↦ k.frame-is ∙ k.in_ok-focus.ensures.same ∙ c.options.follows.holds-at-none
      | sweep_item-else-len-from k ↦ k.frame-is ∙ c.options.follows.holds-at-none
    ]) in
    let from : c.len-from.result ≡ length xs.items = omega (arith, c.len-from.ensures, xs.ok) in
    let items = c.in_ok-extend_from_slice.ensures.items in
    let low : c.len-from.result ≤ length ys = omega (arith, from, ap length items, length-append xs.items c.options.result.now) in
    let rest : drop c.len-from.result ys ≡ c.options.result.now = ap (drop c.len-from.result) items ∙ drop_at xs.items c.options.result.now c.len-from.result (sym from) in
    let begun = subst (λ (x : Walk). x.given ≤ length x.atoms) still r.begun in
    let room = subst (λ (x : Walk). length x.atoms < c.args.end) still r.room in
    let end = subst (λ (x : Walk). c.args.end ≤ x.given + 4096) still r.end in
    let once = subst (λ (x : Walk). distinct x.scene.live ≡ true) still r.once in
    let due = subst (λ (x : Walk). is_due x i ≡ true) still r.due in
    let members = subst (λ (x : Walk). (p : ℕ) → mem (drop c.len-from.result ys) p ≡ (mem x.scene.live p && is_option x i p)) still (λ p. ap (λ zs. mem zs p) rest ∙ e.members p) in
    (omega (arith, c.decreases), (begun, (room, (end, (once, (due, (low, (ap distinct rest ∙ e.once, members))))))))

pub sweep_open-loop-placement-init : goal.sweep_open-loop-placement-init
sweep_open-loop-placement-init t c =
    let w = c.args.frame.now in
    let same = c.in_ok-focus.ensures.same in
    let found = c.args.list.now.found.items in
    let rests = lists c.args.list.now.rests.items in
    record {
      path = same ∙ ap (λ xs. record w { atoms = xs }) (sym (ap (λ (x : Walk). x.atoms) same));
      back = ap (λ (x : Walk). take (length w.atoms) x.atoms) same ∙ take_all (length w.atoms) w.atoms (omega arith);
      room = subst (λ (x : Walk). length x.atoms < c.args.end) (sym same) c.requires.room;
      options = refl;
      left = refl;
      swept = subst (λ (x : Walk). Partly w.scene w.atoms x.atoms found found rests rests) (sym same) (partly_none w.scene w.atoms found rests);
    }

pub sweep_options-loop-at-init : goal.sweep_options-loop-at-init
sweep_options-loop-at-init t c =
    let w = c.args.frame.now in
    let ps = drop c.args.from c.args.list.now.options.items in
    let found = c.args.list.now.found.items in
    let rests = lists c.args.list.now.rests.items in
    let zero : c.args.from - c.args.from ≡ 0 = omega arith in
    let none : behind w.atoms (take (c.args.from - c.args.from) ps) ≡ w.atoms = ap (λ n. behind w.atoms (take n ps)) zero ∙ append-nil w.atoms in
    record {
      low = omega arith;
      path = λ h. ap (λ xs. record w { atoms = xs }) (sym none);
      front = ap (λ xs. record w { atoms = xs }) (take_all (length w.atoms) w.atoms (omega arith));
      room = λ h. c.requires.room;
      options = refl;
      left = refl;
      swept = subst (λ xs. Partly w.scene w.atoms xs found found rests rests) (sym none) (partly_none w.scene w.atoms found rests);
    }

pub sweep_arm-leads_on-requires : goal.sweep_arm-leads_on-requires
sweep_arm-leads_on-requires t c = record { room = c.requires.room; end = c.requires.end }

pub sweep_arm-leave-requires : goal.sweep_arm-leave-requires
sweep_arm-leave-requires t c =
    let w = c.args.frame.now in
    let r = c.requires in
    let picked = c.leads_on.ensures.taken c.if-not-leads_on.false in
    let back = c.back.ensures ∙ ap step_back (c.in_ok-whole.ensures.same ∙ picked) ∙ step_undone w (Has c.args.placement) in
    let room : length w.atoms < w.given + 4096 = omega (arith, r.room, r.end) in
    subst (λ (x : Walk). length x.atoms < x.given + 4096) (sym back) room

pub sweep_open-leave-requires : goal.sweep_open-leave-requires
sweep_open-leave-requires t c =
    let here = c.loop-placement.frame in
    let i = c.loop-placement.invariant in
    let room : length here.atoms < here.given + 4096 = omega (arith, i.room, ap (λ (x : Walk). x.given) i.path, c.requires.end) in
    subst (λ (x : Walk). length x.atoms < x.given + 4096) (sym c.in_ok-whole.ensures.same) room

pub sweep_options-leave-requires : goal.sweep_options-leave-requires
sweep_options-leave-requires t c =
    let here = c.loop-at.frame in
    let i = c.loop-at.invariant in
    let lt : c.loop-at.at < length c.args.list.now.options.items = omega (arith, c.loop-at-test.true, c.len-at-end.ensures, c.args.list.now.options.ok) in
    let room : length here.atoms < here.given + 4096 = omega (arith, i.room lt, ap (λ (x : Walk). x.given) (i.path lt), c.requires.end) in
    subst (λ (x : Walk). length x.atoms < x.given + 4096) (sym c.in_ok-whole.ensures.same) room

pub sweep_item-returns-clause-why : goal.sweep_item-returns-clause-why
sweep_item-returns-clause-why t c = c.sweep_options-whole.ensures.why
