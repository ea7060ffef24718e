use Rattle.std.proofs.Common.{ap, arith, length, reverse, sym, ◌++◌, ◌-◌, ◌<◌, ◌∙◌, ◌≡◌}
use Rattle.std.proofs.lemmas.List.{append-nil}
use Rattle.std.specs.List.{filter}
use Rattle.poly_lists.specs.Linked.{at_node}
use Rattle.poly_lists.specs.Words.{is_other}
use Rattle.poly_lists.proofs.Linking.{jump_on, link_at, no_node}
use Rattle.poly_lists.proofs.others.others_back.Goals as goal

pub offset_bounds-jumps-link : goal.offset_bounds-jumps-link
offset_bounds-jumps-link c =
    let link = link_at c.args.nodes.now (c.loop-left.left - 1) c.link-link.result c.requires.linked (omega (arith, c.loop-left.invariant.0, c.loop-left-test.true)) (sym c.link-link.ensures) in
    let within : c.link-link.result.before < length c.args.jumps.now = omega (arith, link.1, c.loop-left.invariant.0, c.loop-left-test.true, c.requires.jumps.each) in
    omega arith

pub bounds-jumps-link : goal.bounds-jumps-link
bounds-jumps-link c =
    let link = link_at c.args.nodes.now (c.loop-left.left - 1) c.link-link.result c.requires.linked (omega (arith, c.loop-left.invariant.0, c.loop-left-test.true)) (sym c.link-link.ensures) in
    omega (arith, link.1, c.loop-left.invariant.0, c.loop-left-test.true, c.requires.jumps.each)

pub loop-left-smaller : goal.loop-left-smaller
loop-left-smaller c =
    let ls = c.args.nodes.now in
    let l = c.link-link.result in
    let link = link_at ls (c.loop-left.left - 1) l c.requires.linked (omega (arith, c.loop-left.invariant.0, c.loop-left-test.true)) (sym c.link-link.ensures) in
    let jump = c.requires.jumps.right l.before (omega (arith, link.1, c.loop-left.invariant.0, c.loop-left-test.true, c.requires.jumps.each)) in
    omega (arith, link.1, jump.back, c.loop-left-test.true)

pub loop-left-preserved : goal.loop-left-preserved
loop-left-preserved c =
    let ls = c.args.nodes.now in
    let l = c.link-link.result in
    let link = link_at ls (c.loop-left.left - 1) l c.requires.linked (omega (arith, c.loop-left.invariant.0, c.loop-left-test.true)) (sym c.link-link.ensures) in
    let jump = c.requires.jumps.right l.before (omega (arith, link.1, c.loop-left.invariant.0, c.loop-left-test.true, c.requires.jumps.each)) in
    let step = jump_on ls c.loop-left.left _ l c.loop-left.buffer.items c.push_other.new.buffer.items c.requires.linked c.loop-left-test.true c.loop-left.invariant.0 (sym c.link-link.ensures) jump c.in_ok-push_other.ensures.ok in
    (omega (arith, step.0, c.loop-left.invariant.0), step.1 ∙ c.loop-left.invariant.1)

pub returns-clause-ok : goal.returns-clause-ok
returns-clause-ok c =
    let none : c.loop-left.left ≡ 0 = omega (arith, c.loop-left-test.false) in
    let read = c.loop-left.buffer.items in
    let ls = c.args.nodes.now in
    sym (append-nil read) ∙ ap (λ B. read ++ reverse (filter is_other B)) (sym (no_node ls)) ∙ ap (λ n. read ++ reverse (filter is_other (at_node ls n))) (sym none) ∙ c.loop-left.invariant.1
