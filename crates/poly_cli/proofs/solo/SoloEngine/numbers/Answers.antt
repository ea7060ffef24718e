use Rattle.std.proofs.Common.{ap, length, subst, ◌∙◌}
use Rattle.poly_cli.specs.States.{AreNumbers}
use Rattle.poly_cli.proofs.solo.SoloEngine.numbers.Goals as goal

pub returns : goal.returns
returns c = subst (λ s. AreNumbers s c.numbers.result) c.self.view_is (record {
  edition = c.numbers.ensures.edition;
  some = c.numbers.ensures.tilings;
  whole = c.numbers.ensures.all;
  none = λ e. c.numbers.ensures.pending ∙ ap length (c.self.invariant e);
})
