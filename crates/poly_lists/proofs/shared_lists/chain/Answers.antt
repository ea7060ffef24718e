use Rattle.std.proofs.Common.{[], ap, rules, sym, take, ◌++◌, ◌+◌, ◌∙◌, ◌∷◌}
use Rattle.std.proofs.lemmas.List.{take_all, take_more}
use Rattle.poly_lists.specs.Linked.{at_node}
use Rattle.poly_lists.proofs.Linking.{chained, ended_one, linked_one}
use Rattle.poly_lists.proofs.shared_lists.chain.Goals as goal

pub loop-atom-preserved : goal.loop-atom-preserved
loop-atom-preserved c =
    let list = c.args.list.now in
    let a = c.atom-item.result in
    let done = take c.loop-atom.atom-index list in
    let more = take_more list c.loop-atom.atom-index a (search rules) ∙ ap (λ x. done ++ x ∷ []) (sym c.atom-item.is) in
    chained c.loop-atom.nodes c.push.new.self a done (take (c.loop-atom.atom-index + 1) list) c.in_ok-push.ensures.ok c.loop-atom.invariant.0 c.loop-atom.invariant.1 more

pub returns-clause-linked : goal.returns-clause-linked
returns-clause-linked c = linked_one c.loop-atom.nodes c.in_ok-ends.ends.items c.in_ok-end.end c.loop-atom.invariant.0 c.in_ok-ends.ensures.items (c.in_ok-end.ensures.ok ∙ c.len.ensures)

pub returns-clause-ok : goal.returns-clause-ok
returns-clause-ok c =
    let ls = c.loop-atom.nodes in
    let list = ap (at_node ls) (c.in_ok-end.ensures.ok ∙ c.len.ensures) ∙ c.loop-atom.invariant.1 ∙ take_all c.loop-atom.atom-index c.args.list.now c.loop-atom-test.false in
    ended_one ls c.in_ok-ends.ends.items c.in_ok-end.end c.args.list.now c.in_ok-ends.ensures.items list
