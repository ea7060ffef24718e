use Rattle.std.proofs.Common.{[], sym, ◌++◌, ◌∙◌, ◌∷◌}
use Rattle.std.proofs.lemmas.List.{take_more}
use Rattle.poly_book.proofs.quiet.copies.Goals as goal

pub loop-tiling-preserved : goal.loop-tiling-preserved
loop-tiling-preserved c =
    let d = c.tiling-item.result in
    c.in_ok-push.ensures.items ∙ (λ i. c.loop-tiling.invariant i ++ (c.in_ok-copy.ensures.ok ∙ c.tiling-item.is) i ∷ [])
    ∙ sym (take_more c.args.tilings.now c.loop-tiling.tiling-index d c.loop-tiling-test.true)
