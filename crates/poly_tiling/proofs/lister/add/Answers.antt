use Rattle.std.proofs.Common.{[], ap, arith, sym, ◌++◌, ◌∙◌, ◌∷◌, ◌≡◌}
use Rattle.poly_tiling.specs.Lists.{same_list, tally}
use Rattle.poly_tiling.specs.Puzzle.{is_tiling}
use Rattle.poly_tiling.proofs.Families.{add_none, add_one}
use Rattle.poly_tiling.proofs.lister.add.Goals as goal

pub returns-then-not-is_tiling-clause-adds : goal.returns-then-not-is_tiling-clause-adds
returns-then-not-is_tiling-clause-adds c = λ T.
    let v = c.args.view.now in
    let tiles = ap (λ l. is_tiling v l) (sym c.deref.ensures.value) ∙ sym c.is_tiling.ensures ∙ c.if-not-is_tiling.true in
    omega (arith, add_none v c.args.chosen.now c.in_ok-numbers.numbers.items T c.in_ok-numbers.ensures.ascends c.in_ok-numbers.ensures.same tiles)

pub returns-then-len-gt-MAX_TILINGS-clause-at_most : goal.returns-then-len-gt-MAX_TILINGS-clause-at_most
returns-then-len-gt-MAX_TILINGS-clause-at_most c = λ T.
    let v = c.args.view.now in
    let old = c.args.found.now.items in
    let tiles = ap (λ l. is_tiling v l) (sym c.deref.ensures.value) ∙ sym c.is_tiling.ensures ∙ c.if-not-is_tiling.false in
    let pushed : c.push.new.self.items ≡ old ++ c.in_ok-numbers.numbers.items ∷ [] = c.in_ok-push.ensures.items ∙ ap (λ t. old ++ t ∷ []) c.new.ensures in
    omega (arith, ap (tally (same_list T)) pushed, add_one v c.args.chosen.now c.in_ok-numbers.numbers.items T old c.in_ok-numbers.ensures.ascends c.in_ok-numbers.ensures.same tiles)

pub returns-clause-adds : goal.returns-clause-adds
returns-clause-adds c = λ T.
    let v = c.args.view.now in
    let old = c.args.found.now.items in
    let tiles = ap (λ l. is_tiling v l) (sym c.deref.ensures.value) ∙ sym c.is_tiling.ensures ∙ c.if-not-is_tiling.false in
    let pushed : c.push.new.self.items ≡ old ++ c.in_ok-numbers.numbers.items ∷ [] = c.in_ok-push.ensures.items ∙ ap (λ t. old ++ t ∷ []) c.new.ensures in
    ap (tally (same_list T)) pushed ∙ add_one v c.args.chosen.now c.in_ok-numbers.numbers.items T old c.in_ok-numbers.ensures.ascends c.in_ok-numbers.ensures.same tiles

pub returns-clause-at_most : goal.returns-clause-at_most
returns-clause-at_most c = λ T.
    let v = c.args.view.now in
    let old = c.args.found.now.items in
    let tiles = ap (λ l. is_tiling v l) (sym c.deref.ensures.value) ∙ sym c.is_tiling.ensures ∙ c.if-not-is_tiling.false in
    let pushed : c.push.new.self.items ≡ old ++ c.in_ok-numbers.numbers.items ∷ [] = c.in_ok-push.ensures.items ∙ ap (λ t. old ++ t ∷ []) c.new.ensures in
    omega (arith, ap (tally (same_list T)) pushed, add_one v c.args.chosen.now c.in_ok-numbers.numbers.items T old c.in_ok-numbers.ensures.ascends c.in_ok-numbers.ensures.same tiles)
