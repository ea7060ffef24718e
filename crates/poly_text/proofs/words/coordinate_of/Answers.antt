use Rattle.std.proofs.Common.{sym, ◌∙◌}
use Rattle.poly_text.proofs.Numbers.{short_is, long_is}
use Rattle.poly_text.proofs.words.coordinate_of.Goals as goal

pub returns-then-word-gt-COORDINATE_DIGITS : goal.returns-then-word-gt-COORDINATE_DIGITS
returns-then-word-gt-COORDINATE_DIGITS c = sym (long_is c.args.word.now c.if-word-gt-COORDINATE_DIGITS.true)

pub returns : goal.returns
returns c = c.number_of.ensures ∙ short_is c.args.word.now c.if-word-gt-COORDINATE_DIGITS.false
