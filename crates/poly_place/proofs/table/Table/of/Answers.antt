use Rattle.std.proofs.Common.{Err, List, ap, arith, inl, inr, length, subst}
use Rattle.poly_design.specs.declared.placement.Placement.{Placement}
use Rattle.poly_place.specs.Delta.{GivesInOrder}
use Rattle.poly_place.proofs.table.Table.of.Goals as goal

pub returns-in-Err-clause-why : goal.returns-in-Err-clause-why
returns-in-Err-clause-why c = elim c.in-Err.ensures.why [
  | inl s ↦ let big = c.in-Err.ensures.many (ap (λ r. Err r) s) in absurd (omega (arith, big, c.in_ok-parts.ensures.ok.few, c.in_ok-parts.ensures.ok.few_pins, ap length c.new-names.ensures))
  | inr m ↦ m
]

pub invariant_of-result : goal.invariant_of-result
invariant_of-result c = record {
  well = (c.in-Ok.ensures.right c.args.design.now c.in_ok-parts.ensures.ok).well;
  index = c.in_ok-index-in-Ok.ensures.ok;
}

pub returns-in_ok-index-in-Ok-clause-right : goal.returns-in_ok-index-in-Ok-clause-right
returns-in_ok-index-in-Ok-clause-right c = c.in-Ok.ensures.right c.args.design.now c.in_ok-parts.ensures.ok

pub returns-in_ok-index-in-Ok-clause-order : goal.returns-in_ok-index-in-Ok-clause-order
returns-in_ok-index-in-Ok-clause-order c =
    subst (λ (l : List Placement). GivesInOrder c.args.design.now l c.of-2.new.names) c.new-names.ensures (c.in-Ok.ensures.order c.args.design.now c.in_ok-parts.ensures.ok)
