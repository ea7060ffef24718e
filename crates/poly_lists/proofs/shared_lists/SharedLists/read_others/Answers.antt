use Rattle.std.proofs.Common.{[], ap, get_or, ◌∙◌}
use Rattle.std.specs.List.{filter}
use Rattle.poly_lists.specs.Words.{is_other}
use Rattle.poly_lists.proofs.Stems.{read_forward}
use Rattle.poly_lists.proofs.shared_lists.SharedLists.read_others.Goals as goal

pub returns-clause-ok : goal.returns-clause-ok
returns-clause-ok c =
    let whole = filter is_other (get_or c.deref.result.now.lists c.args.index []) in
    read_forward whole c.clear.new.self.items c.others_back.new.buffer.items c.reverse.new.self.items c.clear.ensures.items c.in_ok-others_back.ensures.ok c.reverse.ensures.items
    ∙ ap (λ v. filter is_other (get_or v.lists c.args.index [])) c.deref.ensures ∙ ap (λ l. filter is_other (get_or l c.args.index [])) c.self.view_is
