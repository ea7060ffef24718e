use Rattle.std.proofs.Common.{[], ap, arith, get_or, length, sym, ◌<◌, ◌∙◌, ◌≡◌}
use Rattle.std.proofs.lemmas.List.{get_or_default}
use Rattle.std.specs.List.{filter}
use Rattle.poly_lists.specs.Linked.{at_node}
use Rattle.poly_lists.specs.Stems.{stem_of}
use Rattle.poly_lists.specs.Words.{is_other}
use Rattle.poly_lists.proofs.Linking.{no_node}
use Rattle.poly_lists.proofs.Stems.{count_lists, list_at, only_lacks}
use Rattle.poly_lists.proofs.shared_lists.Trie.others_before.Goals as goal

pub returns-clause-same : goal.returns-clause-same
returns-clause-same c =
    let ls = c.self.inside.nodes in
    let ends = c.self.inside.ends.items in
    let stem = stem_of c.self.inside.stem in
    let e = c.index.result.now in
    let within : c.args.index < length ends = omega (arith, c.requires, ap (λ v. length v.lists) c.self.view_is, count_lists stem ls ends) in
    let list = list_at stem ls ends c.args.self.now.lists c.args.index e (ap (λ v. v.lists) c.self.view_is) within c.index.ensures in
    let there : e < length c.self.inside.jumps.items = omega (arith, c.self.invariant.linked.inside c.args.index e within, c.index.ensures, c.self.invariant.jumping.each) in
    let jump = c.self.invariant.jumping.right e there in
    let none : c.index-2.result.now ≡ 0 = omega (arith, c.if-index-gt0.false) in
    let first : get_or c.self.inside.jumps.items e 0 ≡ 0 = get_or_default c.self.inside.jumps.items e 0 c.index-2.result.now there ∙ sym c.index-2.ensures ∙ none in
    let no_other : filter is_other (at_node ls e) ≡ [] = sym jump.same ∙ ap (λ n. filter is_other (at_node ls n)) first ∙ ap (filter is_other) (no_node ls) in
    let same : filter is_other (stem_of c.in_ok-others.others) ≡ filter is_other stem = ap (filter is_other) c.in_ok-others.ensures.list ∙ c.self.invariant.same in
    only_lacks stem (stem_of c.in_ok-others.others) (at_node ls e) (get_or c.args.self.now.lists c.args.index []) same list no_other
