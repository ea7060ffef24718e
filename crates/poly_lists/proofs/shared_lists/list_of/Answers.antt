use Rattle.std.proofs.Common.{[], get_or}
use Rattle.poly_lists.proofs.Stems.{read_forward}
use Rattle.poly_lists.proofs.shared_lists.list_of.Goals as goal

pub returns-clause-ok : goal.returns-clause-ok
returns-clause-ok c =
    let whole = get_or c.args.trie.now.lists c.args.index [] in
    read_forward whole c.new-list.result.items c.read_back.new.buffer.items c.reverse.new.self.items c.new-list.ensures.items c.in_ok-read_back.ensures.ok c.reverse.ensures.items
