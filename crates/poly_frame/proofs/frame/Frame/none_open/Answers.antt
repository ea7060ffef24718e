use Rattle.std.proofs.Common.{sym}
use Rattle.poly_frame.proofs.FrameQueries.{some_open}
use Rattle.poly_frame.proofs.frame.Frame.none_open.Goals as goal

pub returns-in-Some : goal.returns-in-Some
returns-in-Some c = sym (some_open c.args.self.now.scene c.args.self.now.atoms _ c.in-Some.ensures.0 c.in-Some.ensures.1)
