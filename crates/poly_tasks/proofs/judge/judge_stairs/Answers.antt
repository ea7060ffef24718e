use Rattle.std.proofs.Common.{[], ap, append_assoc, arith, get_or, length, subst, sym, take, true, ◌++◌, ◌<◌, ◌∙◌, ◌∷◌, ◌≡◌}
use Rattle.std.proofs.lemmas.List.{take_more}
use Rattle.std.proofs.Math.Seq.{take-append_seam}
use Rattle.std.specs.List.{list_any}
use Rattle.poly_atom.specs.Atoms.{IsSmall, negated}
use Rattle.poly_atom.specs.Hopeless.{hopeless}
use Rattle.poly_atom.proofs.Walks.{small_at}
use Rattle.poly_tasks.proofs.Judging.{any_true, judged_all, judged_more, known_or, stair_next}
use Rattle.poly_tasks.proofs.Refused.{refused, refused_by}
use Rattle.poly_tasks.proofs.judge.judge_stairs.Goals as goal

pub ends_at-requires : goal.ends_at-requires
ends_at-requires c = subst IsSmall (sym c.index-guards-index.is) (small_at c.args.guards.now c.loop-index.index c.index-guards-index.result c.requires.small c.loop-index-test.true)

pub loop-index-preserved : goal.loop-index-preserved
loop-index-preserved c =
    let g = c.args.guards.now in
    let base = c.args.atoms.now.items in
    let w = c.args.view.now in
    let j = c.loop-index.index in
    let d = c.index-guards-index.result in
    let low : j < length g = c.loop-index-test.true in
    let is : c.loop-index.atoms.items ++ negated d ∷ [] ≡ (base ++ take j g) ++ negated (get_or g j d) ∷ [] = ap (λ s. s ++ negated d ∷ []) c.loop-index.invariant.atoms ∙ ap (λ a. (base ++ take j g) ++ negated a ∷ []) c.index-guards-index.is in
    let out : c.is_ruled_out-known.result ≡ true → hopeless w (c.loop-index.atoms.items ++ negated d ∷ []) ≡ true =
    λ k. let o = c.is_ruled_out-known.ensures.out k in ap (λ A. hopeless w A) (is ∙ stair_next base g j d low) ∙ c.requires.out j o.0 o.1 in
    record {
      atoms = c.in_ok-push-2.ensures.items ∙ ap (λ s. s ++ c.index-guards-index-in-loop-index.result ∷ []) (c.in_ok-ends.ensures.atoms ∙ c.loop-index.invariant.atoms) ∙ ap (λ a. (base ++ take j g) ++ a ∷ []) c.index-guards-index-in-loop-index.is ∙ append_assoc base (take j g) (get_or g j c.index-guards-index-in-loop-index.result ∷ []) ∙ ap (λ s. base ++ s) (sym (take_more g j c.index-guards-index-in-loop-index.result low));
      flags = rw c.in_ok-push.ensures.items (judged_more w base g j d c.loop-index.flags.items c.in_ok-ends.ends low c.loop-index.invariant.flags (c.in_ok-ends.ensures.ok ∙ known_or c.is_ruled_out-known.result (hopeless w (c.loop-index.atoms.items ++ negated d ∷ [])) out ∙ ap (λ A. hopeless w A) is));
    }

pub returns-clause-flags : goal.returns-clause-flags
returns-clause-flags c = judged_all c.args.view.now c.args.atoms.now.items c.args.guards.now c.loop-index.index c.loop-index.flags.items c.loop-index-test.false c.loop-index.invariant.flags

pub returns-clause-any : goal.returns-clause-any
returns-clause-any c = c.contains.ensures.value ∙ any_true c.deref.result.now ∙ ap (λ fs. list_any (λ f. f) fs) c.deref.ensures.value

pub judge_lead-requires-clause-small : goal.judge_lead-requires-clause-small
judge_lead-requires-clause-small c = c.requires.small

pub judge_lead-requires-clause-lead : goal.judge_lead-requires-clause-lead
judge_lead-requires-clause-lead c = c.requires.lead

pub judge_lead-requires-clause-long : goal.judge_lead-requires-clause-long
judge_lead-requires-clause-long c = c.requires.long

pub judge_lead-requires-clause-out : goal.judge_lead-requires-clause-out
judge_lead-requires-clause-out c = c.requires.out

pub judge_lead-requires-clause-alone : goal.judge_lead-requires-clause-alone
judge_lead-requires-clause-alone c = c.requires.alone

pub returns-in_err-judge_lead-clause-atoms : goal.returns-in_err-judge_lead-clause-atoms
returns-in_err-judge_lead-clause-atoms c = refused c.from_residual.result _ _ c.from_residual.ensures.1

pub returns-in_err-judge_lead-clause-flags : goal.returns-in_err-judge_lead-clause-flags
returns-in_err-judge_lead-clause-flags c = refused c.from_residual.result _ _ c.from_residual.ensures.1

pub returns-in_err-judge_lead-clause-any : goal.returns-in_err-judge_lead-clause-any
returns-in_err-judge_lead-clause-any c = refused c.from_residual.result _ _ c.from_residual.ensures.1

pub returns-in_err-judge_lead-clause-why : goal.returns-in_err-judge_lead-clause-why
returns-in_err-judge_lead-clause-why c = refused_by c.from_residual.result _ _ (λ e is. is ∙ c.in_err-judge_lead.ensures.why) c.from_residual.ensures.1

pub returns-in_err-extend_from_slice-clause-atoms : goal.returns-in_err-extend_from_slice-clause-atoms
returns-in_err-extend_from_slice-clause-atoms c = refused c.from_residual-in_err-extend_from_slice.result _ _ c.from_residual-in_err-extend_from_slice.ensures.1

pub returns-in_err-extend_from_slice-clause-flags : goal.returns-in_err-extend_from_slice-clause-flags
returns-in_err-extend_from_slice-clause-flags c = refused c.from_residual-in_err-extend_from_slice.result _ _ c.from_residual-in_err-extend_from_slice.ensures.1

pub returns-in_err-extend_from_slice-clause-any : goal.returns-in_err-extend_from_slice-clause-any
returns-in_err-extend_from_slice-clause-any c = refused c.from_residual-in_err-extend_from_slice.result _ _ c.from_residual-in_err-extend_from_slice.ensures.1

pub returns-in_err-ends-clause-atoms : goal.returns-in_err-ends-clause-atoms
returns-in_err-ends-clause-atoms c = refused c.from_residual-in_err-ends.result _ _ c.from_residual-in_err-ends.ensures.1

pub returns-in_err-ends-clause-flags : goal.returns-in_err-ends-clause-flags
returns-in_err-ends-clause-flags c = refused c.from_residual-in_err-ends.result _ _ c.from_residual-in_err-ends.ensures.1

pub returns-in_err-ends-clause-any : goal.returns-in_err-ends-clause-any
returns-in_err-ends-clause-any c = refused c.from_residual-in_err-ends.result _ _ c.from_residual-in_err-ends.ensures.1

pub returns-in_err-ends-clause-why : goal.returns-in_err-ends-clause-why
returns-in_err-ends-clause-why c = refused_by c.from_residual-in_err-ends.result _ _ (λ e is. is ∙ c.in_err-ends.ensures.why) c.from_residual-in_err-ends.ensures.1

pub returns-in_err-push-clause-atoms : goal.returns-in_err-push-clause-atoms
returns-in_err-push-clause-atoms c = refused c.from_residual-in_err-push.result _ _ c.from_residual-in_err-push.ensures.1

pub returns-in_err-push-clause-flags : goal.returns-in_err-push-clause-flags
returns-in_err-push-clause-flags c = refused c.from_residual-in_err-push.result _ _ c.from_residual-in_err-push.ensures.1

pub returns-in_err-push-clause-any : goal.returns-in_err-push-clause-any
returns-in_err-push-clause-any c = refused c.from_residual-in_err-push.result _ _ c.from_residual-in_err-push.ensures.1

pub returns-in_err-push-2-clause-atoms : goal.returns-in_err-push-2-clause-atoms
returns-in_err-push-2-clause-atoms c = refused c.from_residual-in_err-push-2.result _ _ c.from_residual-in_err-push-2.ensures.1

pub returns-in_err-push-2-clause-flags : goal.returns-in_err-push-2-clause-flags
returns-in_err-push-2-clause-flags c = refused c.from_residual-in_err-push-2.result _ _ c.from_residual-in_err-push-2.ensures.1

pub returns-in_err-push-2-clause-any : goal.returns-in_err-push-2-clause-any
returns-in_err-push-2-clause-any c = refused c.from_residual-in_err-push-2.result _ _ c.from_residual-in_err-push-2.ensures.1

pub judge_lead-requires-clause-flags : goal.judge_lead-requires-clause-flags
judge_lead-requires-clause-flags c = c.clear.ensures.items

pub loop-index-init : goal.loop-index-init
loop-index-init c = record {
  atoms = c.in_ok-extend_from_slice.ensures.items ∙ ap (λ l. l ++ take c.args.lead c.args.guards.now) c.in_ok-judge_lead.ensures.atoms;
  flags = c.in_ok-judge_lead.ensures.flags;
}

pub returns-clause-atoms : goal.returns-clause-atoms
returns-clause-atoms c =
    let base = c.args.atoms.now.items in
    let done = take c.loop-index.index c.args.guards.now in
    let count : c.len-count.result ≡ length base = omega (arith, c.len-count.ensures, c.args.atoms.now.ok.0) in
    c.truncate.ensures.items ∙ (λ i. take (count i) (c.loop-index.invariant.atoms i)) ∙ take-append_seam base done
