use Rattle.std.proofs.lemmas.Grind.{common_steps}
use Rattle.std.proofs.Common.{ap, arith, false, inl, inr, length, refl, rules, subst, sym, true, ◌∙◌, ◌≡◌, ◌≤◌}
use Rattle.poly_book.specs.Keeps.{state_of}
use Rattle.poly_book.specs.Settled.{AreReported, AreReportedBefore, Cuts, IsNotTurned, IsTurn}
use Rattle.poly_book.proofs.Hoping.{hopeful_end}
use Rattle.poly_book.proofs.Nexting.{none_pending}
use Rattle.poly_book.proofs.Settles.{cuts_none, cuts_on, reported_before, reported_on}
use Rattle.poly_book.proofs.settle.settle_turns.Goals as goal

pub loop-applied-init : goal.loop-applied-init
loop-applied-init c = record {
  keeps = c.requires.keeps;
  cuts = cuts_none (state_of c.args.parts.now);
  reports = refl;
  sure = hopeful_end c.args.parts.now c.len-unsure.result (omega (arith, c.len-unsure.ensures));
}

pub loop-applied-preserved : goal.loop-applied-preserved
loop-applied-preserved c =
    let test : c.in-Ok-true.field-0 ≡ true = search rules in
    let before = state_of c.loop-applied.parts in
    let after = state_of c.settle_one.new.parts in
    let turn = subst (λ b. IsTurn c.args.nodes before after b) test c.in-Ok-true.ensures.ok in
    record {
      keeps = c.settle_one.ensures.keeps;
      cuts = cuts_on (state_of c.args.parts.now) before after c.loop-applied.applied c.loop-applied.invariant.cuts turn.0;
      reports = reported_on c.args.nodes c.loop-applied.applied (state_of c.args.parts.now) before after c.loop-applied.invariant.reports turn.1;
      sure = c.in-Ok-true.ensures.sure;
    }

pub returns-in-Ok-false : goal.returns-in-Ok-false
returns-in-Ok-false c =
    let test : c.in-Ok-false.field-0 ≡ false = search rules in
    let before = state_of c.loop-applied.parts in
    let after = state_of c.settle_one.new.parts in
    let turn = subst (λ b. IsTurn c.args.nodes before after b) test c.in-Ok-false.ensures.ok in
    record {
      keeps = c.settle_one.ensures.keeps;
      ok = record {
        cuts = subst (λ z. Cuts (state_of c.args.parts.now) z c.loop-applied.applied) (sym turn.0) c.loop-applied.invariant.cuts;
        none = ap (λ z. z.pending) turn.0 ∙ turn.1;
      };
      reports = (omega (arith, c.loop-applied-test.true), subst (λ z. AreReported c.args.nodes c.loop-applied.applied (state_of c.args.parts.now) z) (sym turn.0) c.loop-applied.invariant.reports);
      applied = tt;
      why = tt;
    }

pub returns-in-Err : goal.returns-in-Err
returns-in-Err c =
    let s = state_of c.args.parts.now in
    let e = c.in-Err.refusal in
    let same : state_of c.settle_one.new.parts ≡ state_of c.loop-applied.parts = c.in-Err.ensures.err in
    record {
      keeps = c.settle_one.ensures.keeps;
      ok = tt;
      reports = tt;
      applied = subst (λ z. AreReportedBefore e c.args.turns c.args.nodes s z) (sym same)
          (reported_before e c.args.turns c.args.nodes c.loop-applied.applied s (state_of c.loop-applied.parts) c.loop-applied-test.true c.in-Err.ensures.why c.loop-applied.invariant.reports);
      why = inr (c.loop-applied.applied, c.loop-applied-test.true, subst (λ z. Cuts s z c.loop-applied.applied) (sym same) c.loop-applied.invariant.cuts, subst (λ z. IsNotTurned z e) (sym same) c.in-Err.ensures.why);
    }

pub returns-then-is_empty : goal.returns-then-is_empty
returns-then-is_empty c =
    let s = state_of c.args.parts.now in
    let b = c.loop-applied.parts in
    let i = c.loop-applied.invariant in
    let end : c.loop-applied.applied ≡ c.args.turns = omega (arith, c.loop-applied-test.false, c.loop-applied.auto.applied-end) in
    let few : length b.tasks.items ≤ 0 = search rules in
    record {
      keeps = i.keeps;
      ok = record {
        cuts = subst (λ n. Cuts s (state_of b) n) end i.cuts;
        none = none_pending b.log b.tasks.items few;
      };
      reports = (omega arith, subst (λ n. AreReported c.args.nodes n s (state_of b)) end i.reports);
      applied = tt;
      why = tt;
    }

pub returns : goal.returns
returns c =
    let s = state_of c.args.parts.now in
    let i = c.loop-applied.invariant in
    let end : c.loop-applied.applied ≡ c.args.turns = omega (arith, c.loop-applied-test.false, c.loop-applied.auto.applied-end) in
    record {
      keeps = i.keeps;
      ok = tt;
      reports = tt;
      applied = (c.loop-applied.applied, omega (arith, end), (λ _. end), i.reports);
      why = inl (refl, subst (λ n. Cuts s (state_of c.loop-applied.parts) n) end i.cuts, grind (arith, common_steps));
    }
