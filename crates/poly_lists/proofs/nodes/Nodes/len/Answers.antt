use Rattle.std.proofs.Common.{ap, arith, length}
use Rattle.poly_lists.proofs.Stored.{links_length}
use Rattle.poly_lists.proofs.nodes.Nodes.len.Goals as goal

pub returns : goal.returns
returns c = omega (arith, c.len.ensures, ap length c.self.view_is, links_length c.self.inside.others.items 0 c.self.inside.words.items)
