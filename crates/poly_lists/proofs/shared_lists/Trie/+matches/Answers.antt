use Rattle.std.proofs.Common.{[], ap, arith, get_or, length, sym, ◌<◌, ◌∙◌, ◌≡◌}
use Rattle.std.proofs.lemmas.Bool.{true≢false}
use Rattle.poly_lists.specs.Linked.{at_node}
use Rattle.poly_lists.specs.Stems.{stem_of}
use Rattle.poly_lists.proofs.Stems.{count_lists, list_at, matched, matched_empty}
use Rattle.poly_lists.proofs.shared_lists.Trie.+matches.Goals as goal

pub returns-in-None : goal.returns-in-None
returns-in-None t c =
    let ls = c.self.inside.nodes in
    let ends = c.self.inside.ends.items in
    let stem = stem_of c.self.inside.stem in
    let within : c.args.index < length ends = omega (arith, c.requires, ap (λ v. length v.lists) c.self.view_is, count_lists stem ls ends) in
    let list = list_at stem ls ends c.args.self.now.lists c.args.index c.index.result.now (ap (λ v. v.lists) c.self.view_is) within c.index.ensures in
    (λ no. absurd (true≢false (sym no)), λ yes. absurd (c.in-None.ensures stem (sym list ∙ yes)))

pub returns-in-Empty : goal.returns-in-Empty
returns-in-Empty t c =
    let ls = c.self.inside.nodes in
    let ends = c.self.inside.ends.items in
    let stem = stem_of c.self.inside.stem in
    let e = c.index.result.now in
    let within : c.args.index < length ends = omega (arith, c.requires, ap (λ v. length v.lists) c.self.view_is, count_lists stem ls ends) in
    let list = list_at stem ls ends c.args.self.now.lists c.args.index e (ap (λ v. v.lists) c.self.view_is) within c.index.ensures in
    matched stem (at_node ls e) (get_or c.args.self.now.lists c.args.index []) c.in-Some.rest.now c.args.list.now c.is_empty.result list c.in-Some.ensures (matched_empty stem c.in-Some.rest.now c.is_empty.result (ap stem_of c.in-Empty.is) c.is_empty.ensures)

pub returns-in-Listed : goal.returns-in-Listed
returns-in-Listed t c =
    let ls = c.self.inside.nodes in
    let ends = c.self.inside.ends.items in
    let stem = stem_of c.self.inside.stem in
    let e = c.index.result.now in
    let at = c.in-Listed.at in
    let within : c.args.index < length ends = omega (arith, c.requires, ap (λ v. length v.lists) c.self.view_is, count_lists stem ls ends) in
    let list = list_at stem ls ends c.args.self.now.lists c.args.index e (ap (λ v. v.lists) c.self.view_is) within c.index.ensures in
    let same : stem ≡ get_or c.deref.result.now.lists at [] = ap stem_of c.in-Listed.is ∙ ap (λ v. get_or v.lists at []) (sym c.deref.ensures) in
    matched stem (at_node ls e) (get_or c.args.self.now.lists c.args.index []) c.in-Some.rest.now c.args.list.now c.matches.result list c.in-Some.ensures (λ yes. same ∙ c.matches.ensures.0 yes, λ is. c.matches.ensures.1 (sym same ∙ is))
