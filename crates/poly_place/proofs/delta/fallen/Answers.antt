use Rattle.std.proofs.Common.{[], ap, sym, take, ◌∙◌, ◌++◌, ◌∷◌}
use Rattle.std.proofs.lemmas.List.{append-nil, take_all}
use Rattle.std.specs.List.{filter_map}
use Rattle.std.specs.Option.{option_to_list}
use Rattle.poly_tiling.proofs.Positions.{positions_more}
use Rattle.poly_place.specs.Falls.{falls}
use Rattle.poly_place.proofs.delta.fallen.Goals.{in-Some+in_ok-push, in_default}
use Rattle.poly_place.proofs.delta.fallen.Goals as goal

pub loop-bound-preserved : goal.loop-bound-preserved
loop-bound-preserved c =
    let more = positions_more (falls c.args.to.now) c.args.from.now c.loop-bound.bound-index c.bound-item.result c.loop-bound-test.true in
    let before = filter_map (falls c.args.to.now) (take c.loop-bound.bound-index c.args.from.now) in
    elim c.match-falls.branch [
      | in-Some+in_ok-push w ↦
          ap (λ l. l.items) w.list-is ∙ w.in_ok-push.ensures.items ∙ ap (λ l. l ++ w.in-Some.name ∷ []) c.loop-bound.invariant
          ∙ ap (λ o. before ++ option_to_list o) (sym w.in-Some.is ∙ c.falls.ensures ∙ ap (falls c.args.to.now) c.bound-item.is) ∙ sym more
      | in_default w ↦
          ap (λ l. l.items) w.list-is ∙ c.loop-bound.invariant ∙ sym (append-nil before)
          ∙ ap (λ o. before ++ option_to_list o) (sym w.in_default.is ∙ c.falls.ensures ∙ ap (falls c.args.to.now) c.bound-item.is) ∙ sym more
    ]

pub returns : goal.returns
returns c = c.loop-bound.invariant ∙ ap (λ l. filter_map (falls c.args.to.now) l) (take_all c.loop-bound.bound-index c.args.from.now c.loop-bound-test.false)
