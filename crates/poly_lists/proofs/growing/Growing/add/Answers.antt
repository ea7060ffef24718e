use Rattle.std.proofs.Common.{ap, arith, drop, length, subst, sym, take, ◌++◌, ◌-◌, ◌∙◌, ◌≡◌}
use Rattle.std.proofs.lemmas.List.{length-drop, take-append-drop, take_all}
use Rattle.std.proofs.lemmas.Result.{IfOk-weaker, on_ok_weaker}
use Rattle.poly_lists.specs.Linked.{Extends}
use Rattle.poly_lists.proofs.Linking.{extends_on}
use Rattle.poly_lists.proofs.Trails.{at_end}
use Rattle.poly_lists.proofs.growing.Growing.add.Goals as goal

pub extend-requires-clause-linked : goal.extend-requires-clause-linked
extend-requires-clause-linked c = c.self.invariant.earlier

pub extend-requires-clause-at : goal.extend-requires-clause-at
extend-requires-clause-at c = c.go_back-known.ensures.node c.self.inside.nodes c.self.invariant.begun

pub invariant_of-self : goal.invariant_of-self
invariant_of-self c = record { earlier = c.extend.ensures.grows.earlier; begun = c.extend.ensures.trail }

pub returns-in_err-before-clause-grows : goal.returns-in_err-before-clause-grows
returns-in_err-before-clause-grows c = subst (λ ls. Extends ls c.extend.new.nodes) c.self.view_is c.extend.ensures.grows

pub extend-requires-2-clause-linked : goal.extend-requires-2-clause-linked
extend-requires-2-clause-linked c = c.extend.ensures.grows.earlier

pub extend-requires-2-clause-at : goal.extend-requires-2-clause-at
extend-requires-2-clause-at c = c.in_ok-before.ensures.at

pub invariant_of-self-2 : goal.invariant_of-self-2
invariant_of-self-2 c = record { earlier = c.extend-2.ensures.grows.earlier; begun = c.extend-2.ensures.trail }

pub returns-clause-grows : goal.returns-clause-grows
returns-clause-grows c = subst (λ ls. Extends ls c.extend-2.new.nodes) c.self.view_is (extends_on c.self.inside.nodes c.extend.new.nodes c.extend-2.new.nodes c.extend.ensures.grows c.extend-2.ensures.grows)

pub returns-clause-node : goal.returns-clause-node
returns-clause-node c = IfOk-weaker c.extend-2.result _ _ (λ n at. at.inside) c.extend-2.ensures.at

pub returns-clause-list : goal.returns-clause-list
returns-clause-list c =
    let list = c.args.list.now in
    let n = c.common-count.result in
    let rest : take (length list - n) (drop n list) ≡ drop n list = take_all (length list - n) (drop n list) (omega (arith, length-drop n list)) in
    let last = c.in_ok-before.ensures.last ∙ ap (λ l. c.go_back-known.new.last.items ++ l) rest ∙ ap (λ l. l ++ drop n list) (c.go_back-known.ensures.last ∙ ap (take n) (sym c.deref.ensures.value) ∙ c.common-count.ensures.same) ∙ take-append-drop n list in
    at_end c.extend-2.result c.extend-2.new.nodes c.extend-2.new.trail.items c.extend-2.new.last.items (list ++ c.args.more.now) c.extend-2.ensures.at (on_ok_weaker c.extend-2.result (λ e. e ∙ ap (λ l. l ++ c.args.more.now) last) c.extend-2.ensures.last)
