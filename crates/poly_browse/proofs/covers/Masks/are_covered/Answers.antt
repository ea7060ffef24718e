use Rattle.std.proofs.Common.{ap, bit_or, get_or, sym, take, ◌∙◌}
use Rattle.std.proofs.lemmas.List.{take_more}
use Rattle.poly_browse.specs.Lines.{joined}
use Rattle.poly_browse.proofs.Masked.{joined_more}
use Rattle.poly_browse.proofs.covers.Masks.are_covered.Goals as goal

pub loop-number-preserved : goal.loop-number-preserved
loop-number-preserved c =
    let masks = c.args.self.now.masks.items in
    let T = c.args.numbers.now in
    let i = c.loop-number.number-index in
    ap (λ w. bit_or w c.mask-covered.result) c.loop-number.invariant ∙ ap (bit_or (joined masks (take i T))) c.mask-covered.ensures ∙ sym (ap (joined masks) (take_more T i 0 c.loop-number-test.true) ∙ joined_more masks (take i T) (get_or T i 0))
