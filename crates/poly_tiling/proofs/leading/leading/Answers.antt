use Rattle.std.proofs.Common.{ap, arith, sym, ◌*◌, ◌+◌, ◌∙◌}
use Rattle.poly_tiling.specs.Leading.{leading}
use Rattle.poly_tiling.proofs.Digits.{digit_fits, leading_more}
use Rattle.poly_tiling.proofs.leading.leading.Goals as goal

pub with_digit-number-requires : goal.with_digit-number-requires
with_digit-number-requires c =
    let fit = digit_fits c.args.base c.args.row.now c.loop-index.index c.args.count c.requires.positive c.requires.digits c.loop-index-test.true in
    let number = ap (λ n. n * c.args.base) c.loop-index.invariant in
    omega (arith, fit, number, c.digit_at.ensures, c.requires.fits)

pub loop-index-preserved : goal.loop-index-preserved
loop-index-preserved c =
    c.with_digit-number.ensures ∙ ap (λ n. n * c.args.base + c.digit_at.result) c.loop-index.invariant
    ∙ ap (λ d. leading c.args.base c.args.row.now c.loop-index.index * c.args.base + d) c.digit_at.ensures
    ∙ sym (leading_more c.args.base c.args.row.now c.loop-index.index)
