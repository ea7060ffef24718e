use Rattle.std.proofs.Common.{ap, get_or, ◌∙◌, ◌∷◌}
use Rattle.poly_lists.proofs.Trails.{back_to}
use Rattle.poly_lists.proofs.growing.go_back.Goals as goal

pub returns-clause-node : goal.returns-clause-node
returns-clause-node c = λ links t.
    let node = c.node_on-node.ensures ∙ ap (λ l. get_or (0 ∷ l) c.args.count 0) c.deref.ensures.value in
    back_to links c.args.trail.now.items c.truncate.new.self.items c.args.last.now.items c.truncate-2.new.self.items c.args.count c.node_on-node.result c.requires t c.truncate.ensures.items c.truncate-2.ensures.items node
