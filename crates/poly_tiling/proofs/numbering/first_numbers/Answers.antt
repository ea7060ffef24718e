use Rattle.std.proofs.Common.{[], ap, arith, sym, ◌++◌, ◌+◌, ◌∙◌, ◌∷◌, ◌≡◌}
use Rattle.std.specs.List.{range_with_len}
use Rattle.poly_tiling.proofs.Stands.{range_more}
use Rattle.poly_tiling.proofs.numbering.first_numbers.Goals as goal

pub loop-i-preserved : goal.loop-i-preserved
loop-i-preserved c =
    let e : 0 + c.loop-i.i ≡ c.loop-i.i = omega arith in
    c.in_ok-push.ensures.items ∙ ap (λ l. l ++ c.loop-i.i ∷ []) c.loop-i.invariant ∙ sym (range_more 0 c.loop-i.i ∙ ap (λ x. range_with_len 0 c.loop-i.i ++ x ∷ []) e)
