use Rattle.std.proofs.Common.{ap, arith, inl, inr, length, min, subst, sym, ◌^◌, ◌∙◌, ◌≤◌}
use Rattle.std.proofs.lemmas.Bool.{cases_eq, cases_lt}
use Rattle.poly_tiling.specs.Puzzle.{has_item}
use Rattle.poly_browse.proofs.Worded.{none_covered}
use Rattle.poly_browse.proofs.covers.is_there.Goals as goal

pub loop-at-init : goal.loop-at-init
loop-at-init c = λ n l. absurd (omega (arith, l))

pub loop-at-preserved : goal.loop-at-preserved
loop-at-preserved c = λ n l. elim (cases_eq n c.loop-at.at) [
  | inl e ↦ ap (λ m. has_item c.args.view.now m c.args.item.now) e ∙ sym c.covers.ensures ∙ c.if-covers.false
  | inr d ↦ c.loop-at.invariant n (omega (arith, l, d))
]

pub returns : goal.returns
returns c = λ e n small.
    let over : min (length c.args.view.now.placements) (2 ^ 32) ≤ c.loop-at.at = subst (λ z. z ≤ c.loop-at.at) c.known-at-end.ensures c.loop-at-test.false in
    elim (cases_lt n c.loop-at.at) [
      | inl low ↦ c.loop-at.invariant n low
      | inr high ↦ none_covered c.args.view.now c.args.item.now n (omega (arith, over, high, small))
    ]
