use Rattle.std.proofs.Common.{[], ap, sym, take, ◌∙◌, ◌++◌, ◌∷◌}
use Rattle.std.proofs.lemmas.List.{append-nil}
use Rattle.std.specs.List.{filter_map}
use Rattle.std.specs.Option.{option_to_list}
use Rattle.poly_tiling.specs.TilingOrder.{position_at}
use Rattle.poly_tiling.proofs.Positions.{positions_more}
use Rattle.poly_tiling.proofs.order.positions_of.Goals.{in-Some+in_ok-push, in_default}
use Rattle.poly_tiling.proofs.order.positions_of.Goals as goal

pub loop-number-preserved : goal.loop-number-preserved
loop-number-preserved c =
    let more = positions_more (position_at c.args.positions.now) c.args.numbers.now c.loop-number.number-index 0 c.loop-number-test.true in
    let before = filter_map (position_at c.args.positions.now) (take c.loop-number.number-index c.args.numbers.now) in
    elim c.match-position_of.branch [
      | in-Some+in_ok-push w ↦ ap (λ l. l.items) w.list-is ∙ w.in_ok-push.ensures.items ∙ ap (λ l. l ++ w.in-Some.position ∷ []) c.loop-number.invariant ∙ ap (λ o. before ++ option_to_list o) (sym w.in-Some.is ∙ c.position_of.ensures) ∙ sym more
      | in_default w ↦ ap (λ l. l.items) w.list-is ∙ c.loop-number.invariant ∙ sym (append-nil before) ∙ ap (λ o. before ++ option_to_list o) (sym w.in_default.is ∙ c.position_of.ensures) ∙ sym more
    ]
