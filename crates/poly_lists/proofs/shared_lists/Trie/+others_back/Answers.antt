use Rattle.std.proofs.Common.{ap, arith, get_or, length, reverse, sym, [], ◌++◌, ◌<◌, ◌∙◌, ◌≡◌}
use Rattle.std.proofs.lemmas.List.{append-nil}
use Rattle.std.specs.List.{filter}
use Rattle.poly_lists.specs.Linked.{at_node}
use Rattle.poly_lists.specs.Stems.{stem_of}
use Rattle.poly_lists.specs.Words.{is_other}
use Rattle.poly_lists.proofs.Stems.{count_lists, list_at, others_over}
use Rattle.poly_lists.proofs.shared_lists.Trie.+others_back.Goals as goal

pub returns-in_ok-others_back-in-Listed-clause-ok : goal.returns-in_ok-others_back-in-Listed-clause-ok
returns-in_ok-others_back-in-Listed-clause-ok t c =
    let ls = c.self.inside.nodes in
    let ends = c.self.inside.ends.items in
    let stem = stem_of c.self.inside.stem in
    let e = c.index.result.now in
    let at = c.in-Listed.at in
    let middle = c.others_back.new.buffer.items in
    let within : c.args.index < length ends = omega (arith, c.requires, ap (λ v. length v.lists) c.self.view_is, count_lists stem ls ends) in
    let list = list_at stem ls ends c.args.self.now.lists c.args.index e (ap (λ v. v.lists) c.self.view_is) within c.index.ensures in
    let begin = get_or c.in-Listed.trie.value.lists at [] in
    let done = c.in_ok-others_back-in-Listed.ensures.ok ∙ ap (λ v. middle ++ reverse (filter is_other (get_or v.lists at []))) c.deref-in-Listed.ensures in
    let same : filter is_other begin ≡ filter is_other stem = ap (λ s. filter is_other (stem_of s)) (sym c.in-Listed.is) ∙ c.self.invariant.same in
    others_over stem begin (at_node ls e) (get_or c.args.self.now.lists c.args.index []) c.args.buffer.now.items middle c.others_back-in-Listed.new.buffer.items same list c.in_ok-others_back.ensures.ok done

pub returns-in-Empty-clause-ok : goal.returns-in-Empty-clause-ok
returns-in-Empty-clause-ok t c =
    let ls = c.self.inside.nodes in
    let ends = c.self.inside.ends.items in
    let stem = stem_of c.self.inside.stem in
    let e = c.index.result.now in
    let within : c.args.index < length ends = omega (arith, c.requires, ap (λ v. length v.lists) c.self.view_is, count_lists stem ls ends) in
    let list = list_at stem ls ends c.args.self.now.lists c.args.index e (ap (λ v. v.lists) c.self.view_is) within c.index.ensures in
    let same : filter is_other [] ≡ filter is_other stem = ap (λ s. filter is_other (stem_of s)) (sym c.in-Empty.is) ∙ c.self.invariant.same in
    others_over stem [] (at_node ls e) (get_or c.args.self.now.lists c.args.index []) c.args.buffer.now.items c.others_back.new.buffer.items c.others_back.new.buffer.items same list c.in_ok-others_back.ensures.ok (sym (append-nil c.others_back.new.buffer.items))
