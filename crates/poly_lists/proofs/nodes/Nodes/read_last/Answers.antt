use Rattle.std.proofs.Common.{ap, arith, length}
use Rattle.poly_lists.proofs.Stored.{links_length}
use Rattle.poly_lists.proofs.nodes.Nodes.read_last.Goals as goal

pub read_at-requires-clause-index : goal.read_at-requires-clause-index
read_at-requires-clause-index c =
    omega (arith, c.requires, ap length c.self.view_is, links_length c.self.inside.others.items 0 c.self.inside.words.items, ap length c.deref.ensures.value)
