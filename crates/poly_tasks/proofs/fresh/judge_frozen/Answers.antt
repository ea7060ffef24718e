use Rattle.std.proofs.Common.{Bool, List, [], ap, arith, false, length, rules, subst, sym, ◌++◌, ◌∙◌, ◌∷◌, ◌≡◌}
use Rattle.std.proofs.lemmas.List.{length-append}
use Rattle.std.specs.List.{filter, list_any}
use Rattle.poly_tiling.proofs.Lists.{In}
use Rattle.poly_tiling.specs.Puzzle.{View}
use Rattle.poly_atom.specs.declared.atom.Atom.{Atom}
use Rattle.poly_atom.specs.declared.atom.Atom.TheVariants.{Has}
use Rattle.poly_atom.specs.Hopeless.{hopeless}
use Rattle.poly_atom.specs.Stairs.{stairs}
use Rattle.poly_lists.specs.Words.{is_other}
use Rattle.poly_tasks.specs.declared.fresh.Buffers.{Buffers}
use Rattle.poly_tasks.specs.declared.laid.Laid.{Laid}
use Rattle.poly_tasks.specs.declared.shelf.Frozen.{Frozen}
use Rattle.poly_tasks.specs.Judged.{AreAlone, AreJudged, AreRuledOut, IsLead, is_harmful, named}
use Rattle.poly_tasks.specs.Meaning.{IsLaid, brief_of, frozen_asks, frozen_brief, frozen_of, laid_of, own_of}
use Rattle.poly_tasks.specs.Opens.{AreReady}
use Rattle.poly_tasks.specs.Spots.{IsSpots}
use Rattle.poly_tasks.proofs.Harming.{brief_judges, harm_first, harm_has, harm_judges, harm_of, harm_short, harmed}
use Rattle.poly_tasks.proofs.Judging.{frozen_brief_is, frozen_in, judged_length, judged_over, none_judged, ruled_out}
use Rattle.poly_tasks.proofs.Lacking.{again_alone}
use Rattle.poly_tasks.proofs.Laying.{AreAlike, alike_on, alone_alike, asks_alike, judged_alike, out_alike, spoilt_none}
use Rattle.poly_tasks.proofs.Refused.{refused, refused_by}
use Rattle.poly_tasks.proofs.fresh.judge_frozen.Goals as goal

-- the buffers are still ready if they have the same lists, and guards and spots of the log
still_ready : (w : View) (log : List (List Atom)) (g : List Atom) (old new : Buffers) → AreReady w log g old → new.none ≡ old.none → new.harmed.items ≡ old.harmed.items → IsLaid w log new.laid → IsSpots log new.spots → IsLead log new.lead → AreReady w log g new
still_ready w log g old new r none harmed laid spots lead = record {
  none = none ∙ r.none;
  harmed = harmed ∙ r.harmed;
  laid = laid;
  spots = spots;
  lead = lead;
}

-- whether a guard that was laid on the task is hopeless alone
spoils_is : (w : View) (log : List (List Atom)) (f : Frozen) (l : Laid) → IsLaid w log l → l.others.items ≡ filter is_other (laid_of log f) → l.spoils ≡ list_any (λ a. hopeless w (a ∷ [])) (filter is_other (laid_of log f))
spoils_is w log f l laid others = laid.spoils ∙ ap (λ A. list_any (λ a. hopeless w (a ∷ [])) A) others

-- if none is, the guards can be left out but for what they ask for
laid_alike : (w : View) (log : List (List Atom)) (f : Frozen) (l : Laid) (b : Bool) → IsLaid w log l → l.others.items ≡ filter is_other (laid_of log f) → b ≡ l.spoils → b ≡ false → AreAlike w (frozen_asks log f) (frozen_brief log f)
laid_alike w log f l b laid others is e = asks_alike w (brief_of log f.own) (laid_of log f) (sym (spoils_is w log f l laid others) ∙ sym is ∙ e)

-- the same with each Lacks that can do harm
harm_alike : (w : View) (g : List Atom) (log : List (List Atom)) (f : Frozen) → AreAlike w (frozen_asks log f) (frozen_brief log f) → AreAlike w (frozen_asks log f ++ filter (is_harmful (harmed w g (laid_of log f))) (frozen_of log f)) (harm_of w g (laid_of log f) (frozen_of log f))
harm_alike w g log f h =
    let F = filter (is_harmful (harmed w g (laid_of log f))) (frozen_of log f) in
    subst (λ D. AreAlike w (frozen_asks log f ++ F) (D ++ F)) (frozen_brief_is log f) (alike_on w (frozen_asks log f) (frozen_brief log f) F h)

harmful_is : (w : View) (g : List Atom) (log : List (List Atom)) (f : Frozen) (A : List Atom) (ps : List _) → A ≡ frozen_asks log f → ps ≡ harmed w g (laid_of log f) → A ++ filter (is_harmful ps) (frozen_of log f) ≡ frozen_asks log f ++ filter (is_harmful (harmed w g (laid_of log f))) (frozen_of log f)
harmful_is w g log f A ps a e = λ i. a i ++ filter (is_harmful (e i)) (frozen_of log f)

pub returns-then-spoils-clause-none : goal.returns-then-spoils-clause-none
returns-then-spoils-clause-none c = λ _.
    let log = c.args.log.now in
    let f = c.args.frozen.now in
    let w = c.args.view.now in
    let g = c.args.guards.now in
    spoilt_none w log f (stairs g) (sym (spoils_is w log f c.read_frozen.new.buffers.laid c.in_ok-read_frozen.ensures.laid c.in_ok-read_frozen.ensures.others) ∙ sym c.spoils.ensures ∙ c.if-spoils.true)

pub returns-then-not-branch-clause-none : goal.returns-then-not-branch-clause-none
returns-then-not-branch-clause-none c = λ _.
    let log = c.args.log.now in
    let f = c.args.frozen.now in
    let w = c.args.view.now in
    let g = c.args.guards.now in
    let alike = laid_alike w log f c.read_frozen.new.buffers.laid c.spoils.result c.in_ok-read_frozen.ensures.laid c.in_ok-read_frozen.ensures.others c.spoils.ensures c.if-spoils.false in
    let judged = judged_alike w (frozen_asks log f) (frozen_brief log f) (stairs g) c.judge_first.new.flags.items alike (judged_over w c.read_frozen.new.buffers.atoms.items (frozen_asks log f) (stairs g) c.judge_first.new.flags.items c.in_ok-judge_first.ensures.flags c.in_ok-read_frozen.ensures.atoms) in
    none_judged w (frozen_brief log f) (frozen_of log f) (stairs g) c.judge_first.new.flags.items (frozen_in log f) judged (sym c.in_ok-judge_first.ensures.any ∙ c.if-not-branch.true)

pub returns-then-is_empty-clause-flags : goal.returns-then-is_empty-clause-flags
returns-then-is_empty-clause-flags c = λ _.
    let log = c.args.log.now in
    let f = c.args.frozen.now in
    let w = c.args.view.now in
    let g = c.args.guards.now in
    let alike = laid_alike w log f c.read_frozen.new.buffers.laid c.spoils.result c.in_ok-read_frozen.ensures.laid c.in_ok-read_frozen.ensures.others c.spoils.ensures c.if-spoils.false in
    let judged = judged_alike w (frozen_asks log f) (frozen_brief log f) (stairs g) c.judge_first.new.flags.items alike (judged_over w c.read_frozen.new.buffers.atoms.items (frozen_asks log f) (stairs g) c.judge_first.new.flags.items c.in_ok-judge_first.ensures.flags c.in_ok-read_frozen.ensures.atoms) in
    let empty : length c.read_frozen.new.buffers.placements.items ≡ 0 = search rules in
    let none : length (harmed w g (laid_of log f)) ≡ 0 = ap length (sym (c.in_ok-read_frozen.ensures.placements ∙ ap (λ h. h ++ named (filter is_other (laid_of log f))) c.requires.ready.harmed)) ∙ empty in
    brief_judges w g log f c.judge_first.new.flags.items c.requires.frozen.spares none judged

pub returns-then-len-count-clause-flags : goal.returns-then-len-count-clause-flags
returns-then-len-count-clause-flags c = λ _.
    let log = c.args.log.now in
    let f = c.args.frozen.now in
    let w = c.args.view.now in
    let g = c.args.guards.now in
    let alike = laid_alike w log f c.read_frozen.new.buffers.laid c.spoils.result c.in_ok-read_frozen.ensures.laid c.in_ok-read_frozen.ensures.others c.spoils.ensures c.if-spoils.false in
    let judged = judged_alike w (frozen_asks log f) (frozen_brief log f) (stairs g) c.judge_first.new.flags.items alike (judged_over w c.read_frozen.new.buffers.atoms.items (frozen_asks log f) (stairs g) c.judge_first.new.flags.items c.in_ok-judge_first.ensures.flags c.in_ok-read_frozen.ensures.atoms) in
    let L = laid_of log f in
    let A = frozen_of log f in
    let F = filter (is_harmful (harmed w g L)) A in
    let is : c.append_harmful.new.atoms.items ≡ frozen_asks log f ++ F = c.in_ok-append_harmful.ensures.ok ∙ harmful_is w g log f _ _ (c.in_ok-judge_first.ensures.atoms ∙ c.in_ok-read_frozen.ensures.atoms) (c.in_ok-find.ensures.placements ∙ c.deref.ensures.value ∙ c.in_ok-read_frozen.ensures.placements ∙ ap (λ h. h ++ named (filter is_other (laid_of log f))) c.requires.ready.harmed) in
    let less : length F ≡ 0 = omega (arith, ap length is, length-append (frozen_asks log f) F, ap length (c.in_ok-judge_first.ensures.atoms ∙ c.in_ok-read_frozen.ensures.atoms), c.len-count.ensures, c.if-len-count.true) in
    harm_judges w g (own_of log f.own) L c.judge_first.new.flags.items c.requires.frozen.spares (judged_over w (frozen_brief log f) (harm_of w g L A) (stairs g) c.judge_first.new.flags.items judged (frozen_brief_is log f ∙ sym (harm_short w g L A less)))

pub judge_stairs-requires-clause-long : goal.judge_stairs-requires-clause-long
judge_stairs-requires-clause-long c =
    let log = c.args.log.now in
    let f = c.args.frozen.now in
    let w = c.args.view.now in
    let g = c.args.guards.now in
    let alike = laid_alike w log f c.read_frozen.new.buffers.laid c.spoils.result c.in_ok-read_frozen.ensures.laid c.in_ok-read_frozen.ensures.others c.spoils.ensures c.if-spoils.false in
    let judged = judged_alike w (frozen_asks log f) (frozen_brief log f) (stairs g) c.judge_first.new.flags.items alike (judged_over w c.read_frozen.new.buffers.atoms.items (frozen_asks log f) (stairs g) c.judge_first.new.flags.items c.in_ok-judge_first.ensures.flags c.in_ok-read_frozen.ensures.atoms) in
    let hopes : c.deref-3.result.now ≡ c.judge_first.new.flags.items = c.deref-3.ensures.value ∙ c.in_ok-extend_from_slice.ensures.items ∙ ap (λ A. A ++ c.deref-2.result.now) c.clear.ensures.items ∙ c.deref-2.ensures.value in
    let same = subst (λ fs. AreJudged w (frozen_brief log f) (stairs g) fs) (sym hopes) judged in
    omega (arith, c.lead_of.ensures.most, judged_length w (frozen_brief log f) g c.deref-3.result.now same)

pub judge_stairs-requires-clause-out : goal.judge_stairs-requires-clause-out
judge_stairs-requires-clause-out c =
    let log = c.args.log.now in
    let f = c.args.frozen.now in
    let w = c.args.view.now in
    let g = c.args.guards.now in
    let alike = laid_alike w log f c.read_frozen.new.buffers.laid c.spoils.result c.in_ok-read_frozen.ensures.laid c.in_ok-read_frozen.ensures.others c.spoils.ensures c.if-spoils.false in
    let judged = judged_alike w (frozen_asks log f) (frozen_brief log f) (stairs g) c.judge_first.new.flags.items alike (judged_over w c.read_frozen.new.buffers.atoms.items (frozen_asks log f) (stairs g) c.judge_first.new.flags.items c.in_ok-judge_first.ensures.flags c.in_ok-read_frozen.ensures.atoms) in
    let hopes : c.deref-3.result.now ≡ c.judge_first.new.flags.items = c.deref-3.ensures.value ∙ c.in_ok-extend_from_slice.ensures.items ∙ ap (λ A. A ++ c.deref-2.result.now) c.clear.ensures.items ∙ c.deref-2.ensures.value in
    let same = subst (λ fs. AreJudged w (frozen_brief log f) (stairs g) fs) (sym hopes) judged in
    let L = laid_of log f in
    let A = frozen_of log f in
    let F = filter (is_harmful (harmed w g L)) A in
    let is : c.append_harmful.new.atoms.items ≡ frozen_asks log f ++ F = c.in_ok-append_harmful.ensures.ok ∙ harmful_is w g log f _ _ (c.in_ok-judge_first.ensures.atoms ∙ c.in_ok-read_frozen.ensures.atoms) (c.in_ok-find.ensures.placements ∙ c.deref.ensures.value ∙ c.in_ok-read_frozen.ensures.placements ∙ ap (λ h. h ++ named (filter is_other (laid_of log f))) c.requires.ready.harmed) in
    subst (λ E. AreRuledOut w E (stairs g) c.deref-3.result.now) (sym is)
    (out_alike w (frozen_asks log f ++ F) (harm_of w g L A) (stairs g) c.deref-3.result.now (harm_alike w g log f alike)
    (ruled_out w (frozen_brief log f) (harm_of w g L A) g c.deref-3.result.now (λ a i. harm_first w g L A a (subst (λ D. In a D) (frozen_brief_is log f) i)) same))

pub judge_stairs-requires-clause-alone : goal.judge_stairs-requires-clause-alone
judge_stairs-requires-clause-alone c =
    let log = c.args.log.now in
    let f = c.args.frozen.now in
    let w = c.args.view.now in
    let g = c.args.guards.now in
    let alike = laid_alike w log f c.read_frozen.new.buffers.laid c.spoils.result c.in_ok-read_frozen.ensures.laid c.in_ok-read_frozen.ensures.others c.spoils.ensures c.if-spoils.false in
    let judged = judged_alike w (frozen_asks log f) (frozen_brief log f) (stairs g) c.judge_first.new.flags.items alike (judged_over w c.read_frozen.new.buffers.atoms.items (frozen_asks log f) (stairs g) c.judge_first.new.flags.items c.in_ok-judge_first.ensures.flags c.in_ok-read_frozen.ensures.atoms) in
    let hopes : c.deref-3.result.now ≡ c.judge_first.new.flags.items = c.deref-3.ensures.value ∙ c.in_ok-extend_from_slice.ensures.items ∙ ap (λ A. A ++ c.deref-2.result.now) c.clear.ensures.items ∙ c.deref-2.ensures.value in
    let same = subst (λ fs. AreJudged w (frozen_brief log f) (stairs g) fs) (sym hopes) judged in
    let L = laid_of log f in
    let A = frozen_of log f in
    let F = filter (is_harmful (harmed w g L)) A in
    let is : c.append_harmful.new.atoms.items ≡ frozen_asks log f ++ F = c.in_ok-append_harmful.ensures.ok ∙ harmful_is w g log f _ _ (c.in_ok-judge_first.ensures.atoms ∙ c.in_ok-read_frozen.ensures.atoms) (c.in_ok-find.ensures.placements ∙ c.deref.ensures.value ∙ c.in_ok-read_frozen.ensures.placements ∙ ap (λ h. h ++ named (filter is_other (laid_of log f))) c.requires.ready.harmed) in
    subst (λ E. AreAlone w E g c.lead_of.result c.deref-3.result.now) (sym is)
    (alone_alike w (frozen_asks log f ++ F) (harm_of w g L A) g c.lead_of.result c.deref-3.result.now (harm_alike w g log f alike)
    (again_alone w (frozen_brief log f) (harm_of w g L A) g c.lead_of.result c.deref-3.result.now c.lead_of.ensures.lacks c.lead_of.ensures.most c.requires.once (λ q i. subst (λ D. In (Has q) D) (sym (frozen_brief_is log f)) (harm_has w g L A q i)) same))

pub returns-clause-flags : goal.returns-clause-flags
returns-clause-flags c = λ _.
    let log = c.args.log.now in
    let f = c.args.frozen.now in
    let w = c.args.view.now in
    let g = c.args.guards.now in
    let alike = laid_alike w log f c.read_frozen.new.buffers.laid c.spoils.result c.in_ok-read_frozen.ensures.laid c.in_ok-read_frozen.ensures.others c.spoils.ensures c.if-spoils.false in
    let L = laid_of log f in
    let A = frozen_of log f in
    let F = filter (is_harmful (harmed w g L)) A in
    let is : c.append_harmful.new.atoms.items ≡ frozen_asks log f ++ F = c.in_ok-append_harmful.ensures.ok ∙ harmful_is w g log f _ _ (c.in_ok-judge_first.ensures.atoms ∙ c.in_ok-read_frozen.ensures.atoms) (c.in_ok-find.ensures.placements ∙ c.deref.ensures.value ∙ c.in_ok-read_frozen.ensures.placements ∙ ap (λ h. h ++ named (filter is_other (laid_of log f))) c.requires.ready.harmed) in
    let judged = harm_judges w g (own_of log f.own) L c.judge_stairs.new.flags.items c.requires.frozen.spares
    (judged_alike w (frozen_asks log f ++ F) (harm_of w g L A) (stairs g) c.judge_stairs.new.flags.items (harm_alike w g log f alike) (judged_over w _ (frozen_asks log f ++ F) (stairs g) c.judge_stairs.new.flags.items c.in_ok-any.ensures.flags is)) in
    judged

pub returns-clause-none : goal.returns-clause-none
returns-clause-none c = λ none.
    let log = c.args.log.now in
    let f = c.args.frozen.now in
    let w = c.args.view.now in
    let g = c.args.guards.now in
    let alike = laid_alike w log f c.read_frozen.new.buffers.laid c.spoils.result c.in_ok-read_frozen.ensures.laid c.in_ok-read_frozen.ensures.others c.spoils.ensures c.if-spoils.false in
    let L = laid_of log f in
    let A = frozen_of log f in
    let F = filter (is_harmful (harmed w g L)) A in
    let is : c.append_harmful.new.atoms.items ≡ frozen_asks log f ++ F = c.in_ok-append_harmful.ensures.ok ∙ harmful_is w g log f _ _ (c.in_ok-judge_first.ensures.atoms ∙ c.in_ok-read_frozen.ensures.atoms) (c.in_ok-find.ensures.placements ∙ c.deref.ensures.value ∙ c.in_ok-read_frozen.ensures.placements ∙ ap (λ h. h ++ named (filter is_other (laid_of log f))) c.requires.ready.harmed) in
    let judged = harm_judges w g (own_of log f.own) L c.judge_stairs.new.flags.items c.requires.frozen.spares
    (judged_alike w (frozen_asks log f ++ F) (harm_of w g L A) (stairs g) c.judge_stairs.new.flags.items (harm_alike w g log f alike) (judged_over w _ (frozen_asks log f ++ F) (stairs g) c.judge_stairs.new.flags.items c.in_ok-any.ensures.flags is)) in
    none_judged w A A (stairs g) c.judge_stairs.new.flags.items (λ a i. i) judged (sym c.in_ok-any.ensures.any ∙ none)

pub returns-in_err-read_frozen-clause-ready : goal.returns-in_err-read_frozen-clause-ready
returns-in_err-read_frozen-clause-ready c = refused c.from_residual.result _ _ c.from_residual.ensures.1

pub returns-in_err-read_frozen-clause-laid : goal.returns-in_err-read_frozen-clause-laid
returns-in_err-read_frozen-clause-laid c = refused c.from_residual.result _ _ c.from_residual.ensures.1

pub returns-in_err-read_frozen-clause-none : goal.returns-in_err-read_frozen-clause-none
returns-in_err-read_frozen-clause-none c = refused c.from_residual.result _ _ c.from_residual.ensures.1

pub returns-in_err-read_frozen-clause-flags : goal.returns-in_err-read_frozen-clause-flags
returns-in_err-read_frozen-clause-flags c = refused c.from_residual.result _ _ c.from_residual.ensures.1

pub returns-in_err-read_frozen-clause-why : goal.returns-in_err-read_frozen-clause-why
returns-in_err-read_frozen-clause-why c = refused_by c.from_residual.result _ _ (λ e is. is ∙ c.in_err-read_frozen.ensures.why) c.from_residual.ensures.1

pub returns-in_err-judge_first-clause-ready : goal.returns-in_err-judge_first-clause-ready
returns-in_err-judge_first-clause-ready c = refused c.from_residual-in_err-judge_first.result _ _ c.from_residual-in_err-judge_first.ensures.1

pub returns-in_err-judge_first-clause-laid : goal.returns-in_err-judge_first-clause-laid
returns-in_err-judge_first-clause-laid c = refused c.from_residual-in_err-judge_first.result _ _ c.from_residual-in_err-judge_first.ensures.1

pub returns-in_err-judge_first-clause-none : goal.returns-in_err-judge_first-clause-none
returns-in_err-judge_first-clause-none c = refused c.from_residual-in_err-judge_first.result _ _ c.from_residual-in_err-judge_first.ensures.1

pub returns-in_err-judge_first-clause-flags : goal.returns-in_err-judge_first-clause-flags
returns-in_err-judge_first-clause-flags c = refused c.from_residual-in_err-judge_first.result _ _ c.from_residual-in_err-judge_first.ensures.1

pub returns-in_err-judge_first-clause-why : goal.returns-in_err-judge_first-clause-why
returns-in_err-judge_first-clause-why c = refused_by c.from_residual-in_err-judge_first.result _ _ (λ e is. is ∙ c.in_err-judge_first.ensures.why) c.from_residual-in_err-judge_first.ensures.1

pub returns-in_err-find-clause-ready : goal.returns-in_err-find-clause-ready
returns-in_err-find-clause-ready c = refused c.from_residual-in_err-find.result _ _ c.from_residual-in_err-find.ensures.1

pub returns-in_err-find-clause-laid : goal.returns-in_err-find-clause-laid
returns-in_err-find-clause-laid c = refused c.from_residual-in_err-find.result _ _ c.from_residual-in_err-find.ensures.1

pub returns-in_err-find-clause-none : goal.returns-in_err-find-clause-none
returns-in_err-find-clause-none c = refused c.from_residual-in_err-find.result _ _ c.from_residual-in_err-find.ensures.1

pub returns-in_err-find-clause-flags : goal.returns-in_err-find-clause-flags
returns-in_err-find-clause-flags c = refused c.from_residual-in_err-find.result _ _ c.from_residual-in_err-find.ensures.1

pub returns-in_err-find-clause-why : goal.returns-in_err-find-clause-why
returns-in_err-find-clause-why c = refused_by c.from_residual-in_err-find.result _ _ (λ e is. is ∙ c.in_err-find.ensures.why) c.from_residual-in_err-find.ensures.1

pub returns-in_err-append_harmful-clause-ready : goal.returns-in_err-append_harmful-clause-ready
returns-in_err-append_harmful-clause-ready c = refused c.from_residual-in_err-append_harmful.result _ _ c.from_residual-in_err-append_harmful.ensures.1

pub returns-in_err-append_harmful-clause-laid : goal.returns-in_err-append_harmful-clause-laid
returns-in_err-append_harmful-clause-laid c = refused c.from_residual-in_err-append_harmful.result _ _ c.from_residual-in_err-append_harmful.ensures.1

pub returns-in_err-append_harmful-clause-none : goal.returns-in_err-append_harmful-clause-none
returns-in_err-append_harmful-clause-none c = refused c.from_residual-in_err-append_harmful.result _ _ c.from_residual-in_err-append_harmful.ensures.1

pub returns-in_err-append_harmful-clause-flags : goal.returns-in_err-append_harmful-clause-flags
returns-in_err-append_harmful-clause-flags c = refused c.from_residual-in_err-append_harmful.result _ _ c.from_residual-in_err-append_harmful.ensures.1

pub returns-in_err-append_harmful-clause-why : goal.returns-in_err-append_harmful-clause-why
returns-in_err-append_harmful-clause-why c = refused_by c.from_residual-in_err-append_harmful.result _ _ (λ e is. is ∙ c.in_err-append_harmful.ensures.why) c.from_residual-in_err-append_harmful.ensures.1

pub returns-in_err-extend_from_slice-clause-ready : goal.returns-in_err-extend_from_slice-clause-ready
returns-in_err-extend_from_slice-clause-ready c = refused c.from_residual-in_err-extend_from_slice.result _ _ c.from_residual-in_err-extend_from_slice.ensures.1

pub returns-in_err-extend_from_slice-clause-laid : goal.returns-in_err-extend_from_slice-clause-laid
returns-in_err-extend_from_slice-clause-laid c = refused c.from_residual-in_err-extend_from_slice.result _ _ c.from_residual-in_err-extend_from_slice.ensures.1

pub returns-in_err-extend_from_slice-clause-none : goal.returns-in_err-extend_from_slice-clause-none
returns-in_err-extend_from_slice-clause-none c = refused c.from_residual-in_err-extend_from_slice.result _ _ c.from_residual-in_err-extend_from_slice.ensures.1

pub returns-in_err-extend_from_slice-clause-flags : goal.returns-in_err-extend_from_slice-clause-flags
returns-in_err-extend_from_slice-clause-flags c = refused c.from_residual-in_err-extend_from_slice.result _ _ c.from_residual-in_err-extend_from_slice.ensures.1

pub returns-in_err-any-clause-ready : goal.returns-in_err-any-clause-ready
returns-in_err-any-clause-ready c = refused c.from_residual-in_err-any.result _ _ c.from_residual-in_err-any.ensures.1

pub returns-in_err-any-clause-laid : goal.returns-in_err-any-clause-laid
returns-in_err-any-clause-laid c = refused c.from_residual-in_err-any.result _ _ c.from_residual-in_err-any.ensures.1

pub returns-in_err-any-clause-none : goal.returns-in_err-any-clause-none
returns-in_err-any-clause-none c = refused c.from_residual-in_err-any.result _ _ c.from_residual-in_err-any.ensures.1

pub returns-in_err-any-clause-flags : goal.returns-in_err-any-clause-flags
returns-in_err-any-clause-flags c = refused c.from_residual-in_err-any.result _ _ c.from_residual-in_err-any.ensures.1

pub returns-in_err-any-clause-why : goal.returns-in_err-any-clause-why
returns-in_err-any-clause-why c = refused_by c.from_residual-in_err-any.result _ _ (λ e is. is ∙ c.in_err-any.ensures.why) c.from_residual-in_err-any.ensures.1

pub returns-then-spoils-clause-ready : goal.returns-then-spoils-clause-ready
returns-then-spoils-clause-ready c = still_ready c.args.view.now c.args.log.now c.args.guards.now c.args.buffers.now _ c.requires.ready (ap (λ b. b.none) c.read_frozen.ensures.stays) (ap (λ b. b.harmed.items) c.read_frozen.ensures.stays) c.in_ok-read_frozen.ensures.laid (subst (λ s. IsSpots c.args.log.now s) (sym (ap (λ b. b.spots) c.read_frozen.ensures.stays)) c.requires.ready.spots) c.read_frozen.ensures.lead

pub returns-then-spoils-clause-laid : goal.returns-then-spoils-clause-laid
returns-then-spoils-clause-laid c = c.in_ok-read_frozen.ensures.others

pub returns-then-not-branch-clause-ready : goal.returns-then-not-branch-clause-ready
returns-then-not-branch-clause-ready c = still_ready c.args.view.now c.args.log.now c.args.guards.now c.args.buffers.now _ c.requires.ready (ap (λ b. b.none) c.read_frozen.ensures.stays) (ap (λ b. b.harmed.items) c.read_frozen.ensures.stays) c.in_ok-read_frozen.ensures.laid (subst (λ s. IsSpots c.args.log.now s) (sym (ap (λ b. b.spots) c.read_frozen.ensures.stays)) c.requires.ready.spots) c.read_frozen.ensures.lead

pub returns-then-not-branch-clause-laid : goal.returns-then-not-branch-clause-laid
returns-then-not-branch-clause-laid c = c.in_ok-read_frozen.ensures.others

pub returns-then-is_empty-clause-ready : goal.returns-then-is_empty-clause-ready
returns-then-is_empty-clause-ready c = still_ready c.args.view.now c.args.log.now c.args.guards.now c.args.buffers.now _ c.requires.ready (ap (λ b. b.none) c.read_frozen.ensures.stays) (ap (λ b. b.harmed.items) c.read_frozen.ensures.stays) c.in_ok-read_frozen.ensures.laid (subst (λ s. IsSpots c.args.log.now s) (sym (ap (λ b. b.spots) c.read_frozen.ensures.stays)) c.requires.ready.spots) c.read_frozen.ensures.lead

pub returns-then-is_empty-clause-laid : goal.returns-then-is_empty-clause-laid
returns-then-is_empty-clause-laid c = c.in_ok-read_frozen.ensures.others

pub returns-then-len-count-clause-ready : goal.returns-then-len-count-clause-ready
returns-then-len-count-clause-ready c = still_ready c.args.view.now c.args.log.now c.args.guards.now c.args.buffers.now _ c.requires.ready (ap (λ b. b.none) c.read_frozen.ensures.stays) (ap (λ b. b.harmed.items) c.read_frozen.ensures.stays) c.in_ok-read_frozen.ensures.laid c.in_ok-find.ensures.spots c.read_frozen.ensures.lead

pub returns-then-len-count-clause-laid : goal.returns-then-len-count-clause-laid
returns-then-len-count-clause-laid c = c.in_ok-read_frozen.ensures.others

pub returns-clause-ready : goal.returns-clause-ready
returns-clause-ready c = still_ready c.args.view.now c.args.log.now c.args.guards.now c.args.buffers.now _ c.requires.ready (ap (λ b. b.none) c.read_frozen.ensures.stays) (ap (λ b. b.harmed.items) c.read_frozen.ensures.stays) c.in_ok-read_frozen.ensures.laid c.in_ok-find.ensures.spots c.read_frozen.ensures.lead

pub returns-clause-laid : goal.returns-clause-laid
returns-clause-laid c = c.in_ok-read_frozen.ensures.others

pub read_frozen-requires-clause-frozen : goal.read_frozen-requires-clause-frozen
read_frozen-requires-clause-frozen c = c.requires.frozen

pub read_frozen-requires-clause-laid : goal.read_frozen-requires-clause-laid
read_frozen-requires-clause-laid c = c.requires.ready.laid

pub judge_first-requires-clause-small : goal.judge_first-requires-clause-small
judge_first-requires-clause-small c = c.requires.small

pub judge_stairs-requires-clause-small : goal.judge_stairs-requires-clause-small
judge_stairs-requires-clause-small c = c.requires.small

pub judge_first-requires-clause-once : goal.judge_first-requires-clause-once
judge_first-requires-clause-once c = c.requires.once

pub find-requires : goal.find-requires
find-requires c = subst (λ s. IsSpots c.args.log.now s) (sym (ap (λ b. b.spots) c.read_frozen.ensures.stays)) c.requires.ready.spots

pub append_harmful-requires-clause-frozen : goal.append_harmful-requires-clause-frozen
append_harmful-requires-clause-frozen c = c.requires.frozen

pub append_harmful-requires-clause-spots : goal.append_harmful-requires-clause-spots
append_harmful-requires-clause-spots c = c.in_ok-find.ensures.spots

pub judge_stairs-requires-clause-lead : goal.judge_stairs-requires-clause-lead
judge_stairs-requires-clause-lead c = c.lead_of.ensures.most
