use Rattle.std.proofs.Common.{sym}
use Rattle.poly_frame.proofs.Alive.{past_end}
use Rattle.poly_frame.proofs.frame.alive.has_number.Goals as goal

pub returns-then-j-words : goal.returns-then-j-words
returns-then-j-words c = sym (past_end c.args.words.now c.args.number c.if-j-words.true)
