use Rattle.std.proofs.Common.{ap, replicate, ◌∙◌}
use Rattle.poly_frame.proofs.Words.{filled}
use Rattle.poly_frame.proofs.frame.matrix.clear_rows.Goals as goal

pub returns-clause-value : goal.returns-clause-value
returns-clause-value c = filled c.in-Some.size _ 0 c.clear.new.self.items c.resize.new.self.items c.clear.ensures.items c.clear.ensures.len c.in_ok-resize.ensures.items ∙ ap (λ n. replicate n 0) c.in-Some.ensures.1
