use Rattle.std.proofs.Common.{Some, [], ap, length, ◌++◌, ◌∙◌, ◌∷◌}
use Rattle.std.proofs.lemmas.Result.{err_from_is_err_and}
use Rattle.poly_lists.specs.Words.{links_of}
use Rattle.poly_lists.proofs.Stored.{links_more, links_over}
use Rattle.poly_lists.proofs.nodes.Nodes.push.Goals as goal

pub returns-in_err-word-clause-err : goal.returns-in_err-word-clause-err
returns-in_err-word-clause-err c =
    let p = err_from_is_err_and c.from_residual-in_err-word.result c.from_residual-in_err-word.ensures.1 in
    rw p.1 (ap (λ v. links_of c.store.new.others.items 0 v) c.reserve.ensures.items ∙ links_over c.self.inside.others.items c.store.new.others.items 0 c.self.inside.words.items c.store.ensures.more c.self.invariant ∙ c.self.view_is)

pub returns-clause-ok : goal.returns-clause-ok
returns-clause-ok c =
    let os = c.self.inside.others.items in
    let ws = c.self.inside.words.items in
    let is = c.push_reserved.ensures.items ∙ ap (λ v. v ++ c.in_ok-word.word ∷ []) c.reserve.ensures.items in
    let new = links_more os c.store.new.others.items ws c.push_reserved.new.self.items c.in_ok-word.word c.args.atom.now c.store.ensures.more c.self.invariant c.in_ok-word.ensures.ok is in
    new ∙ (λ i. c.self.view_is i ++ (record { before = length (c.self.view_is i); atom = Some c.args.atom.now }) ∷ [])
