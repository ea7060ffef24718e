use Rattle.std.proofs.Common.{ap, subst, sym, ◌*◌, ◌+◌, ◌<◌, ◌^◌, ◌∙◌, ◌≡◌}
use Rattle.poly_tiling.proofs.Digits.{power_more}
use Rattle.poly_tiling.proofs.leading.digit_count.Goals as goal

pub loop-count-preserved : goal.loop-count-preserved
loop-count-preserved c =
    let is : c.loop-count.power * c.args.base ≡ c.args.base ^ (c.loop-count.count + 1) = ap (λ z. z * c.args.base) c.loop-count.invariant.is ∙ sym (power_more c.args.base c.loop-count.count) in
    record {
      is = c.in-Some.ensures.1 ∙ is;
      fits = subst (λ z. z < 2 ^ 64) is c.in-Some.ensures.0;
    }
