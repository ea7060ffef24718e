use Rattle.std.proofs.Common.{ap, arith, get_or, length, reverse, sym, [], ◌++◌, ◌<◌, ◌∙◌}
use Rattle.std.proofs.lemmas.List.{append-nil}
use Rattle.poly_lists.specs.Linked.{at_node}
use Rattle.poly_lists.specs.Stems.{stem_of}
use Rattle.poly_lists.proofs.Stems.{count_lists, list_at, read_over}
use Rattle.poly_lists.proofs.shared_lists.Trie.+read_back.Goals as goal

pub returns-in_ok-read_back-in-Listed-clause-ok : goal.returns-in_ok-read_back-in-Listed-clause-ok
returns-in_ok-read_back-in-Listed-clause-ok t c =
    let ls = c.self.inside.nodes in
    let ends = c.self.inside.ends.items in
    let stem = stem_of c.self.inside.stem in
    let e = c.index.result.now in
    let at = c.in-Listed.at in
    let middle = c.read_back.new.buffer.items in
    let within : c.args.index < length ends = omega (arith, c.requires, ap (λ v. length v.lists) c.self.view_is, count_lists stem ls ends) in
    let list = list_at stem ls ends c.args.self.now.lists c.args.index e (ap (λ v. v.lists) c.self.view_is) within c.index.ensures in
    let begin = get_or c.in-Listed.trie.value.lists at [] in
    let done = c.in_ok-read_back-in-Listed.ensures.ok ∙ ap (λ v. middle ++ reverse (get_or v.lists at [])) c.deref.ensures in
    read_over begin (at_node ls e) (get_or c.args.self.now.lists c.args.index []) c.args.buffer.now.items middle c.read_back-in-Listed.new.buffer.items (list ∙ ap (λ s. stem_of s ++ at_node ls e) c.in-Listed.is) c.in_ok-read_back.ensures.ok done

pub returns-in-Empty-clause-ok : goal.returns-in-Empty-clause-ok
returns-in-Empty-clause-ok t c =
    let ls = c.self.inside.nodes in
    let ends = c.self.inside.ends.items in
    let stem = stem_of c.self.inside.stem in
    let e = c.index.result.now in
    let within : c.args.index < length ends = omega (arith, c.requires, ap (λ v. length v.lists) c.self.view_is, count_lists stem ls ends) in
    let list = list_at stem ls ends c.args.self.now.lists c.args.index e (ap (λ v. v.lists) c.self.view_is) within c.index.ensures in
    read_over [] (at_node ls e) (get_or c.args.self.now.lists c.args.index []) c.args.buffer.now.items c.read_back.new.buffer.items c.read_back.new.buffer.items (list ∙ ap (λ s. stem_of s ++ at_node ls e) c.in-Empty.is) c.in_ok-read_back.ensures.ok (sym (append-nil c.read_back.new.buffer.items))
