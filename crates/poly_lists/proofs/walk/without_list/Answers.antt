use Rattle.std.proofs.Common.{ap, arith, option_to_list, sym, ◌++◌, ◌-◌, ◌∙◌, ◌≡◌}
use Rattle.std.proofs.lemmas.List.{append-nil, append_assoc}
use Rattle.poly_lists.specs.Linked.{at_node}
use Rattle.poly_lists.proofs.Linking.{adds, ends_so, link_at, no_node}
use Rattle.poly_lists.proofs.walk.without_list.Goals as goal

pub loop-left-init : goal.loop-left-init
loop-left-init c = (c.requires.node, λ B. (λ yes. yes, λ yes. yes))

pub returns-in-None : goal.returns-in-None
returns-in-None c = λ B yes.
    let nodes = c.args.nodes.now in
    let l = c.link-link.result in
    let here = adds nodes c.loop-left.left l c.requires.linked c.loop-left-test.true c.loop-left.invariant.0 (sym c.link-link.ensures) in
    c.in-None.ensures (B ++ at_node nodes l.before) (append_assoc B (at_node nodes l.before) (option_to_list l.atom) ∙ ap (λ A. B ++ A) (sym here) ∙ (c.loop-left.invariant.1 B).1 yes)

pub loop-left-smaller : goal.loop-left-smaller
loop-left-smaller c =
    let link = link_at c.args.nodes.now (c.loop-left.left - 1) c.link-link.result c.requires.linked (omega (arith, c.loop-left.invariant.0, c.loop-left-test.true)) (sym c.link-link.ensures) in
    omega (arith, link.1, c.loop-left-test.true)

pub loop-left-preserved : goal.loop-left-preserved
loop-left-preserved c =
    let nodes = c.args.nodes.now in
    let link = link_at nodes (c.loop-left.left - 1) c.link-link.result c.requires.linked (omega (arith, c.loop-left.invariant.0, c.loop-left-test.true)) (sym c.link-link.ensures) in (
      omega (arith, link.1, c.loop-left.invariant.0, c.loop-left-test.true),
      λ B.
          let step = ends_so nodes c.loop-left.left c.link-link.result c.loop-left.rest.now c.in-Some.shorter.now B c.requires.linked c.loop-left-test.true c.loop-left.invariant.0 (sym c.link-link.ensures) c.in-Some.ensures in
          let before = c.loop-left.invariant.1 B in
          (λ same. before.0 (step.1 same), λ yes. step.0 (before.1 yes)),
    )

pub returns : goal.returns
returns c =
    let nodes = c.args.nodes.now in
    let rest = c.loop-left.rest.now in
    let none : c.loop-left.left ≡ 0 = omega (arith, c.loop-left-test.false) in
    (c.loop-left.invariant.1 rest).0 (ap (λ n. rest ++ at_node nodes n) none ∙ ap (λ B. rest ++ B) (no_node nodes) ∙ append-nil rest)
