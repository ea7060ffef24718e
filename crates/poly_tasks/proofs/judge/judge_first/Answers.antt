use Rattle.std.proofs.Common.{subst, sym, take}
use Rattle.poly_atom.specs.Stairs.{stairs}
use Rattle.poly_tasks.specs.Judged.{AreAlone, AreCalm, AreRuledOut}
use Rattle.poly_tasks.proofs.Lacking.{calm_alone, calm_out}
use Rattle.poly_tasks.proofs.judge.judge_first.Goals as goal

pub judge_stairs-requires-clause-out : goal.judge_stairs-requires-clause-out
judge_stairs-requires-clause-out c =
    let g = c.args.guards.now in
    let A = c.args.atoms.now.items in
    let w = c.args.view.now in
    let n = c.lead_of-lead.result in
    let fs = c.deref.result.now in
    let calm : AreCalm w A (take n g) fs = subst (λ xs. AreCalm w A (take n g) xs) (sym c.deref.ensures.value) c.in_ok-calm_stairs.ensures.calm in
    subst (λ B. AreRuledOut w B (stairs g) fs) (sym c.in_ok-calm_stairs.ensures.atoms) (calm_out w A g n fs c.lead_of-lead.ensures.most calm)

pub judge_stairs-requires-clause-alone : goal.judge_stairs-requires-clause-alone
judge_stairs-requires-clause-alone c =
    let g = c.args.guards.now in
    let A = c.args.atoms.now.items in
    let w = c.args.view.now in
    let n = c.lead_of-lead.result in
    let fs = c.deref.result.now in
    let calm : AreCalm w A (take n g) fs = subst (λ xs. AreCalm w A (take n g) xs) (sym c.deref.ensures.value) c.in_ok-calm_stairs.ensures.calm in
    subst (λ B. AreAlone w B g n fs) (sym c.in_ok-calm_stairs.ensures.atoms) (calm_alone w A g n fs c.lead_of-lead.ensures.lacks c.lead_of-lead.ensures.most c.requires.once calm)
