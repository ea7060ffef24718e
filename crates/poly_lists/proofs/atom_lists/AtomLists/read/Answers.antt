use Rattle.std.proofs.Common.{ap, arith, length, sym, ◌∙◌}
use Rattle.poly_lists.specs.Linked.{at_node}
use Rattle.poly_lists.proofs.Stems.{count_ended, ended_at, read_forward}
use Rattle.poly_lists.proofs.atom_lists.AtomLists.read.Goals as goal

pub returns-clause-ok : goal.returns-clause-ok
returns-clause-ok c =
    let ls = c.self.inside.nodes in
    let ends = c.self.inside.ends.items in
    let e = c.index.result.now in
    let whole = at_node c.nodes.result.now e in
    let list = ended_at ls ends c.args.self.now c.args.index e c.self.view_is (omega (arith, c.requires, ap length c.self.view_is, count_ended ls ends)) c.index.ensures in
    read_forward whole c.clear.new.self.items c.read_back.new.buffer.items c.reverse.new.self.items c.clear.ensures.items c.in_ok-read_back.ensures.ok c.reverse.ensures.items ∙ ap (λ l. at_node l e) c.nodes.ensures ∙ sym list
