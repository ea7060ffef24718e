use Rattle.std.proofs.Common.{◌≡◌, ◌∷◌, ◌++◌, [], refl, sym, ◌∙◌, ap, arith, length, length-append}
use Rattle.poly_text.specs.Replies.{covered}
use Rattle.poly_cli.proofs.Collected.{names_more, names_same, names_short, covered_append}
use Rattle.poly_cli.proofs.answering.Answerer.collect.Goals as goal
use Rattle.poly_cli.proofs.answering.Answerer.collect.Goals.{in-Some, in_default}

pub push_reserved-requires : goal.push_reserved-requires
push_reserved-requires c =
    let i = c.loop-number.invariant in
    omega (arith, c.loop-number.self.room, i.few, ap covered i.named, names_short c.args.view.now c.args.numbers.now c.loop-number.number-index _ c.in-Some.placement c.loop-number-test.true refl (sym c.placement.ensures ∙ c.in-Some.is), c.as_slice-cells.ensures.some)

pub loop-number-preserved : goal.loop-number-preserved
loop-number-preserved c =
    let i = c.loop-number.invariant in
    let v = c.args.view.now in
    let T = c.args.numbers.now in
    let k = c.loop-number.number-index in
    record {
      named = elim c.match-placement.branch [
        | in-Some w ↦ ap (λ s. s.placements.items) w.self-is ∙ w.push_reserved.ensures.items ∙ ap (λ z. z ++ w.in-Some.placement ∷ []) i.named ∙ sym (names_more v T k _ w.in-Some.placement c.loop-number-test.true refl (sym c.placement.ensures ∙ w.in-Some.is))
        | in_default w ↦ ap (λ s. s.placements.items) w.self-is ∙ i.named ∙ sym (names_same v T k _ c.loop-number-test.true refl (sym c.placement.ensures ∙ w.in_default.is))
      ];
      few = elim c.match-placement.branch [
        | in-Some w ↦
            let more : c.match-placement.self.placements.items ≡ c.loop-number.self.placements.items ++ w.in-Some.placement ∷ [] = ap (λ s. s.placements.items) w.self-is ∙ w.push_reserved.ensures.items in
            omega (arith, ap length more, length-append c.loop-number.self.placements.items (w.in-Some.placement ∷ []), ap covered more, covered_append c.loop-number.self.placements.items (w.in-Some.placement ∷ []), i.few, w.as_slice-cells.ensures.some)
        | in_default w ↦ omega (arith, ap (λ s. length s.placements.items) w.self-is, ap (λ s. covered s.placements.items) w.self-is, i.few)
      ];
    }
