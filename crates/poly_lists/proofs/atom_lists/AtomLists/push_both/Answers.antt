use Rattle.std.proofs.Common.{[], ap, arith, ◌++◌, ◌∙◌, ◌∷◌}
use Rattle.std.proofs.lemmas.Result.{err_from_is_err_and}
use Rattle.poly_lists.specs.Linked.{at_node}
use Rattle.poly_lists.proofs.Linking.{linked_more, lists_grow, lists_stay}
use Rattle.poly_lists.proofs.atom_lists.AtomLists.push_both.Goals as goal

pub returns-in_err-node-clause-err : goal.returns-in_err-node-clause-err
returns-in_err-node-clause-err c =
    let p = err_from_is_err_and c.from_residual-in_err-node.result c.from_residual-in_err-node.ensures.1 in
    rw p.1 (lists_stay c.self.inside.nodes c.add.new.self c.self.inside.ends.items c.reserve.new.self.items c.args.self.now c.add.ensures.grows c.self.invariant c.self.view_is c.reserve.ensures.items)

pub returns-in_err-end-clause-err : goal.returns-in_err-end-clause-err
returns-in_err-end-clause-err c =
    let p = err_from_is_err_and c.from_residual-in_err-end.result c.from_residual-in_err-end.ensures.1 in
    rw p.1 (lists_stay c.self.inside.nodes c.add.new.self c.self.inside.ends.items c.reserve.new.self.items c.args.self.now c.add.ensures.grows c.self.invariant c.self.view_is c.reserve.ensures.items)

pub invariant_of-self-2 : goal.invariant_of-self-2
invariant_of-self-2 c =
    linked_more c.self.inside.nodes c.add.new.self c.self.inside.ends.items c.push_reserved.new.self.items c.in_ok-end.end c.add.ensures.grows c.self.invariant (c.push_reserved.ensures.items ∙ ap (λ e. e ++ c.in_ok-end.end ∷ []) c.reserve.ensures.items) (omega (arith, c.in_ok-end.ensures.ok, c.in_ok-node.ensures.node))

pub returns-clause-ok : goal.returns-clause-ok
returns-clause-ok c =
    let nodes = c.add.new.self in
    lists_grow c.self.inside.nodes nodes c.self.inside.ends.items c.push_reserved.new.self.items c.in_ok-end.end (c.args.list.now ++ c.args.more.now) c.args.self.now c.add.ensures.grows c.self.invariant c.self.view_is (c.push_reserved.ensures.items ∙ ap (λ e. e ++ c.in_ok-end.end ∷ []) c.reserve.ensures.items) (ap (λ n. at_node nodes n) c.in_ok-end.ensures.ok ∙ c.in_ok-node.ensures.list)
