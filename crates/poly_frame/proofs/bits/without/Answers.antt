use Rattle.poly_frame.proofs.Words.{without_less, word_without}
use Rattle.poly_frame.proofs.bits.without.Goals as goal

pub returns-clause-bits : goal.returns-clause-bits
returns-clause-bits c = λ u h. word_without c.args.word c.args.t u c.requires h

pub returns-clause-less : goal.returns-clause-less
returns-clause-less c = λ one. without_less c.args.word c.args.t c.requires one
