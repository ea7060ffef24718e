use Rattle.std.proofs.Common.{ap, length, subst, sym, ◌^◌, ◌∙◌, ◌≤◌, ℕ}
use Rattle.std.specs.Prelude.{nat_lt}
use Rattle.std.specs.List.{list_all}
use Rattle.poly_tiling.specs.Puzzle.{View}
use Rattle.poly_place.proofs.Planned.{delta_for}
use Rattle.poly_place.proofs.plan_change.plan_between.Goals as goal

pub differences-requires-clause-live_before : goal.differences-requires-clause-live_before
differences-requires-clause-live_before c = ap (λ (k : ℕ). list_all (λ n. nat_lt n k) c.args.numbered.now.live.items) c.len.ensures.value ∙ c.requires.standing.named

pub differences-requires-clause-live_after : goal.differences-requires-clause-live_after
differences-requires-clause-live_after c = ap (λ (k : ℕ). list_all (λ n. nat_lt n k) c.args.next.live.items) c.len.ensures.value ∙ c.requires.next.named

pub differences-requires-clause-pins_before : goal.differences-requires-clause-pins_before
differences-requires-clause-pins_before c = ap (λ (k : ℕ). list_all (λ n. nat_lt n k) c.args.numbered.now.pins.items) c.len.ensures.value ∙ c.requires.standing.pins_named

pub differences-requires-clause-pins_after : goal.differences-requires-clause-pins_after
differences-requires-clause-pins_after c = ap (λ (k : ℕ). list_all (λ n. nat_lt n k) c.args.next.pins.items) c.len.ensures.value ∙ c.requires.next.pins_named

pub returns-clause-delta : goal.returns-clause-delta
returns-clause-delta c = λ before after s t. delta_for c.args.names.now c.args.numbered.now c.args.next before after c.in_ok-delta.delta c.requires.standing c.requires.next s t c.in_ok-delta.ensures.ok

pub returns-clause-view : goal.returns-clause-view
returns-clause-view c = c.in_ok-shared.ensures.ok ∙ c.in_ok-view.ensures.ok

pub returns-clause-few : goal.returns-clause-few
returns-clause-few c = subst (λ (v : View). length v.placements ≤ 2 ^ 32) (sym (c.in_ok-shared.ensures.ok ∙ c.in_ok-view.ensures.ok)) c.len.ensures.numbered.few
