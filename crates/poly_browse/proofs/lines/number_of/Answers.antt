use Rattle.std.proofs.Common.{[], ap, arith, inl, inr, length, min, subst, sym, ◌^◌, ◌∙◌, ◌∷◌, ◌≤◌}
use Rattle.std.proofs.lemmas.Bool.{cases_eq, cases_lt}
use Rattle.poly_tiling.specs.Shows.{names}
use Rattle.poly_browse.specs.Browsing.{is_in}
use Rattle.poly_browse.proofs.Worded.{none_named, one_name}
use Rattle.poly_browse.proofs.lines.number_of.Goals as goal

pub loop-at-init : goal.loop-at-init
loop-at-init c = λ n l. absurd (omega (arith, l))

pub loop-at-preserved : goal.loop-at-preserved
loop-at-preserved c = λ n l. elim (cases_eq n c.loop-at.at) [
  | inl e ↦ ap (λ m. is_in (names c.args.view.now (m ∷ [])) c.args.placement.now) e ∙ sym c.is_named.ensures ∙ c.if-is_named.false
  | inr d ↦ c.loop-at.invariant n (omega (arith, l, d))
]

pub returns-then-is_named-clause-some : goal.returns-then-is_named-clause-some
returns-then-is_named-clause-some c = λ n. one_name c.args.view.now c.args.placement.now c.loop-at.at n c.well_named.ensures (sym c.is_named.ensures ∙ c.if-is_named.true)

pub returns-clause-none : goal.returns-clause-none
returns-clause-none c = λ n small.
    let over : min (length c.args.view.now.placements) (2 ^ 32) ≤ c.loop-at.at = subst (λ z. z ≤ c.loop-at.at) c.known-at-end.ensures c.loop-at-test.false in
    elim (cases_lt n c.loop-at.at) [
      | inl low ↦ c.loop-at.invariant n low
      | inr high ↦ none_named c.args.view.now c.args.placement.now n (omega (arith, over, high, small))
    ]
