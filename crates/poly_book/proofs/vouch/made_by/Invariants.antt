use Rattle.std.proofs.Common.{drop, ◌≡◌}
use Rattle.poly_book.specs.Vouched.{AllLead, led_to}
use Rattle.poly_book.proofs.vouch.made_by.Given as goal

abbrev pub invariant-loop-step : goal.invariant-loop-step
invariant-loop-step l = record {
  lead : AllLead l.design (drop l.step-index l.steps);
  same : led_to l.fn.first l.steps ≡ led_to l.design (drop l.step-index l.steps);
}
