use Rattle.std.proofs.Common.{ap, arith, reverse, sym, ◌++◌, ◌∙◌, ◌≡◌}
use Rattle.std.proofs.lemmas.List.{append-nil}
use Rattle.poly_lists.specs.Linked.{at_node}
use Rattle.poly_lists.proofs.Linking.{no_node, read_on}
use Rattle.poly_lists.proofs.walk.read_back.Goals as goal

pub loop-left-smaller : goal.loop-left-smaller
loop-left-smaller c =
    let step = read_on c.args.nodes.now c.loop-left.left c.in_ok-left.left c.loop-left.buffer.items c.read_last.new.buffer.items c.requires.linked c.loop-left-test.true c.loop-left.invariant.0 c.in_ok-left.ensures.ok in
    step.0

pub loop-left-preserved : goal.loop-left-preserved
loop-left-preserved c =
    let step = read_on c.args.nodes.now c.loop-left.left c.in_ok-left.left c.loop-left.buffer.items c.read_last.new.buffer.items c.requires.linked c.loop-left-test.true c.loop-left.invariant.0 c.in_ok-left.ensures.ok in
    (omega (arith, step.0, c.loop-left.invariant.0), step.1 ∙ c.loop-left.invariant.1)

pub returns-clause-ok : goal.returns-clause-ok
returns-clause-ok c =
    let none : c.loop-left.left ≡ 0 = omega (arith, c.loop-left-test.false) in
    let read = c.loop-left.buffer.items in
    sym (append-nil read) ∙ ap (λ B. read ++ reverse B) (sym (no_node c.args.nodes.now)) ∙ ap (λ n. read ++ reverse (at_node c.args.nodes.now n)) (sym none) ∙ c.loop-left.invariant.1
