use Rattle.std.proofs.Common.{[], ap, get_or, ◌∙◌}
use Rattle.poly_lists.proofs.Stems.{read_forward}
use Rattle.poly_lists.proofs.shared_lists.SharedLists.read.Goals as goal

pub returns-clause-ok : goal.returns-clause-ok
returns-clause-ok c =
    let whole = get_or c.deref.result.now.lists c.args.index [] in
    read_forward whole c.clear.new.self.items c.read_back.new.buffer.items c.reverse.new.self.items c.clear.ensures.items c.in_ok-read_back.ensures.ok c.reverse.ensures.items
    ∙ ap (λ v. get_or v.lists c.args.index []) c.deref.ensures ∙ ap (λ l. get_or l c.args.index []) c.self.view_is
