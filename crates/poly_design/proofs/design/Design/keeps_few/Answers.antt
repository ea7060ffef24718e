use Rattle.std.proofs.Common.{inr, refl, arith}
use Rattle.poly_design.specs.Changes.{changed}
use Rattle.poly_design.proofs.Outside.{counted_few, few_counted}
use Rattle.poly_design.proofs.design.Design.keeps_few.Goals as goal

pub returns-then-branch-gt-MAX_PLACEMENTS-clause-why : goal.returns-then-branch-gt-MAX_PLACEMENTS-clause-why
returns-then-branch-gt-MAX_PLACEMENTS-clause-why c =
    inr (refl, λ few. let le = counted_few (changed c.args.self.now c.args.change.now) _ c.in_ok-count_after.ensures.ok few in omega (arith, le, c.if-branch-gt-MAX_PLACEMENTS.true))

pub returns-clause-ok : goal.returns-clause-ok
returns-clause-ok c = few_counted (changed c.args.self.now c.args.change.now) _ c.in_ok-count_after.ensures.ok (omega (arith, c.if-branch-gt-MAX_PLACEMENTS.false))
