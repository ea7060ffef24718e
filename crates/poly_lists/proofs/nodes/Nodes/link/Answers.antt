use Rattle.std.proofs.Common.{ap, arith, length}
use Rattle.poly_lists.proofs.Stored.{links_length}
use Rattle.poly_lists.proofs.nodes.Nodes.link.Goals as goal

pub link_at-requires-clause-index : goal.link_at-requires-clause-index
link_at-requires-clause-index c =
    omega (arith, c.requires, ap length c.self.view_is, links_length c.self.inside.others.items 0 c.self.inside.words.items, ap length c.deref.ensures.value)
