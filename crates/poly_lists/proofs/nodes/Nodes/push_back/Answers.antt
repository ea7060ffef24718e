use Rattle.std.proofs.Common.{None, [], ap, arith, length, ◌++◌, ◌∙◌, ◌∷◌}
use Rattle.poly_lists.specs.Words.{links_of}
use Rattle.poly_lists.specs.declared.nodes.Word.TheVariants.{Back}
use Rattle.poly_lists.proofs.Stored.{links_push}
use Rattle.poly_lists.proofs.nodes.Nodes.push_back.Goals as goal

pub returns-clause-ok : goal.returns-clause-ok
returns-clause-ok c =
    let os = c.self.inside.others.items in
    let ws = c.self.inside.words.items in
    let new = ap (λ v. links_of os 0 v) c.in_ok-push.ensures.items ∙ links_push os 0 (length ws) ws (Back c.in_ok-node.node) (omega arith) in
    new ∙ (λ i. c.self.view_is i ++ (record { before = c.in_ok-node.ensures.ok i; atom = None }) ∷ [])
