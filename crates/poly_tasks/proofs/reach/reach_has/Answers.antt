use Rattle.std.proofs.Common.{arith, get_or, subst, sym, true, ◌∙◌, ◌≡◌}
use Rattle.std.proofs.lemmas.Bool.{true≢false}
use Rattle.std.proofs.lemmas.List.{take_all}
use Rattle.std.specs.List.{list_any}
use Rattle.poly_tasks.specs.declared.placed.PlacedRow.{PlacedRow}
use Rattle.poly_atom.specs.declared.atom.Atom.TheVariants.{Has}
use Rattle.poly_tasks.specs.Mapped.{in_span, placed}
use Rattle.poly_tasks.specs.Reaching.{IsFarther, IsReached}
use Rattle.poly_tasks.specs.Touching.{touches}
use Rattle.poly_tasks.proofs.Placing.{placed_more}
use Rattle.poly_tasks.proofs.ReachedTasks.{farther_on, farther_self}
use Rattle.poly_tasks.proofs.reach.reach_has.Goals.{else-has_placement, then-has_placement}
use Rattle.poly_tasks.proofs.reach.reach_has.Goals as goal

pub loop-row-preserved : goal.loop-row-preserved
loop-row-preserved c =
    let t = c.args.touch.now in
    let ps = c.args.tasks.now in
    let rows = c.args.rows.now in
    let k = c.loop-row.row-index in
    let x = c.row-item.result in
    let r = c.loop-row.reach.items in
    let r2 = c.if-has_placement.reach.items in
    let is : x ≡ get_or rows k x = c.row-item.is in
    let far : IsFarther r r2 = elim c.if-has_placement.branch [
      | then-has_placement w ↦ subst (λ z. IsFarther r z.items) (sym w.reach-is) w.reach_spans.ensures.farther
      | else-has_placement w ↦ subst (λ z. IsFarther r z.items) (sym w.reach-is) (farther_self r)
    ] in
    let one : touches t (Has x.placement) ≡ true → IsReached r2 ps (λ n. list_any (λ s. in_span s n) x.row) = λ h. elim c.if-has_placement.branch [
      | then-has_placement w ↦ subst (λ z. IsReached z.items ps (λ n. list_any (λ s. in_span s n) x.row)) (sym w.reach-is) (subst (λ row. IsReached w.reach_spans.new.reach.items ps (λ n. list_any (λ s. in_span s n) row)) w.spans.ensures w.reach_spans.ensures.reached)
      | else-has_placement w ↦ absurd (true≢false (sym h ∙ sym c.has_placement.ensures ∙ w.if-has_placement.false))
    ] in
    record {
      farther = farther_on _ r r2 c.loop-row.invariant.farther far;
      reached = placed_more (λ q. touches t (Has q)) r r2 ps rows k x c.loop-row-test.true far c.loop-row.invariant.reached
          (subst (λ (y : PlacedRow). touches t (Has y.placement) ≡ true → IsReached r2 ps (λ n. list_any (λ s. in_span s n) y.row)) is one);
    }

pub returns-clause-reached : goal.returns-clause-reached
returns-clause-reached c = λ p h i d l e.
    let rows = c.args.rows.now in
    let k = c.loop-row.row-index in
    c.loop-row.invariant.reached p h i d l (subst (λ rs. placed rs p (get_or c.args.tasks.now i d).number ≡ true) (sym (take_all k rows (omega (arith, c.loop-row-test.false)))) e)

pub loop-row-init : goal.loop-row-init
loop-row-init c = record { farther = farther_self c.args.reach.now.items; reached = λ q h i d l none. absurd (true≢false (sym none)) }

pub returns-clause-farther : goal.returns-clause-farther
returns-clause-farther c = c.loop-row.invariant.farther

pub reach_spans-requires-clause-rise : goal.reach_spans-requires-clause-rise
reach_spans-requires-clause-rise c = c.requires.rise

pub reach_spans-requires-clause-len : goal.reach_spans-requires-clause-len
reach_spans-requires-clause-len c = c.loop-row.invariant.farther.len ∙ c.requires.len
