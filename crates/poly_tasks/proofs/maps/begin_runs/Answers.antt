use Rattle.std.proofs.Common.{[], ap, map, sym, ◌++◌, ◌∙◌, ◌∷◌}
use Rattle.std.proofs.lemmas.List.{append-nil, take_all}
use Rattle.poly_tasks.specs.Mapped.{run_from}
use Rattle.poly_tasks.proofs.Spanning.{begun_more}
use Rattle.poly_tasks.proofs.maps.begin_runs.Goals as goal

pub loop-atom-init : goal.loop-atom-init
loop-atom-init c = sym (append-nil c.args.runs.now.items)

pub loop-atom-preserved : goal.loop-atom-preserved
loop-atom-preserved c =
    let n = c.args.number in
    let now = c.loop-atom.runs.items in
    c.in_ok-push.ensures.items ∙ ap (λ a. now ++ run_from n a ∷ []) c.atom-item.is
    ∙ begun_more c.args.runs.now.items now n c.args.atoms.now c.loop-atom.atom-index c.atom-item.result c.loop-atom-test.true c.loop-atom.invariant

pub returns-clause-ok : goal.returns-clause-ok
returns-clause-ok c = c.loop-atom.invariant ∙ ap (λ l. c.args.runs.now.items ++ map (λ a. run_from c.args.number a) l) (take_all c.loop-atom.atom-index c.args.atoms.now c.loop-atom-test.false)
