use Rattle.std.proofs.Common.{[], arith, get_or, length, not, refl, subst, sym, take, true, ◌++◌, ◌<◌, ◌∙◌, ◌∷◌, ◌≡◌, ◌||◌}
use Rattle.poly_atom.specs.Atoms.{IsSmall, negated}
use Rattle.poly_atom.specs.Hopeless.{hopeless}
use Rattle.poly_atom.specs.Stairs.{stairs}
use Rattle.poly_atom.proofs.Walks.{small_at}
use Rattle.poly_tasks.specs.Judged.{AreJudged}
use Rattle.poly_tasks.proofs.Judging.{judged_more, lead_ends}
use Rattle.poly_tasks.proofs.judge.judge_lead.Goals as goal

pub ends_at-requires : goal.ends_at-requires
ends_at-requires c = subst IsSmall (sym c.index-guards-index.is) (small_at c.args.guards.now c.loop-index.index c.index-guards-index.result c.requires.small (omega (arith, c.loop-index-test.true, c.requires.lead)))

pub loop-index-preserved : goal.loop-index-preserved
loop-index-preserved c =
    let g = c.args.guards.now in
    let base = c.args.atoms.now.items in
    let w = c.args.view.now in
    let j = c.loop-index.index in
    let d = c.index-guards-index.result in
    let low : j < length g = omega (arith, c.loop-index-test.true, c.requires.lead) in
    let k = c.is_ruled_out-known.result in
    let held : k ≡ not (get_or c.args.hopes.now j true) = c.is_ruled_out-known.ensures.not_out (omega (arith, c.loop-index-test.true, c.requires.long)) in
    let told : c.in_ok-ends.ends ≡ (k || hopeless w (c.loop-index.atoms.items ++ negated d ∷ [])) = c.in_ok-ends.ensures.ok in
    record {
      atoms = c.in_ok-ends.ensures.atoms ∙ c.loop-index.invariant.atoms;
      flags = rw c.in_ok-push.ensures.items (judged_more w base g j d c.loop-index.flags.items c.in_ok-ends.ends low c.loop-index.invariant.flags
          (told ∙ (λ i. held i || hopeless w (c.loop-index.invariant.atoms i ++ negated (c.index-guards-index.is i) ∷ []))
          ∙ lead_ends w base g c.args.lead j d c.args.hopes.now (get_or c.args.hopes.now j true) c.loop-index-test.true c.requires.lead c.requires.long c.requires.out c.requires.alone refl));
    }

pub loop-index-init : goal.loop-index-init
loop-index-init c = record { atoms = refl; flags = c.requires.flags }

pub returns-clause-atoms : goal.returns-clause-atoms
returns-clause-atoms c = c.loop-index.invariant.atoms

pub returns-clause-flags : goal.returns-clause-flags
returns-clause-flags c =
    let all : c.loop-index.index ≡ c.args.lead = omega (arith, c.loop-index-test.false, c.loop-index.auto.index-end) in
    subst (λ k. AreJudged c.args.view.now c.args.atoms.now.items (take k (stairs c.args.guards.now)) c.loop-index.flags.items) all c.loop-index.invariant.flags
