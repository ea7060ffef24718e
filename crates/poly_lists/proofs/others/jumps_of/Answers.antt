use Rattle.std.proofs.Common.{ap, arith, length, subst, sym}
use Rattle.std.proofs.lemmas.List.{length_push}
use Rattle.poly_lists.specs.Jumps.{AreRight, IsJump}
use Rattle.poly_lists.proofs.Linking.{first_jump, jumps_push}
use Rattle.poly_lists.proofs.others.jumps_of.Goals as goal

pub loop-init : goal.loop-init
loop-init c = first_jump c.args.nodes.now c.in_ok-jumps.jumps.items c.push.new.self.items c.in_ok-jumps.ensures.items c.in_ok-push.ensures.items

pub next_jump-requires-clause-some : goal.next_jump-requires-clause-some
next_jump-requires-clause-some c = omega (arith, ap length c.deref.ensures.value, c.loop.invariant.0)

pub next_jump-requires-clause-next : goal.next_jump-requires-clause-next
next_jump-requires-clause-next c = omega (arith, ap length c.deref.ensures.value, c.loop.invariant.0, c.loop-test.true, c.len-count.ensures)

pub next_jump-requires-clause-right : goal.next_jump-requires-clause-right
next_jump-requires-clause-right c = subst (AreRight c.args.nodes.now) (sym c.deref.ensures.value) c.loop.invariant.1

pub loop-preserved : goal.loop-preserved
loop-preserved c =
    let ls = c.args.nodes.now in
    let jumps = c.loop.jumps.items in
    let is = c.in_ok-push-2.ensures.items in
    let one = subst (λ js. IsJump ls (length js) c.in_ok-jump.jump) c.deref.ensures.value c.in_ok-jump.ensures.ok in
    (omega (arith, ap length is, length_push jumps c.in_ok-jump.jump, c.loop.invariant.0), jumps_push ls jumps c.push-in-loop.new.self.items c.in_ok-jump.jump is c.loop.invariant.1 one)

pub returns-clause-ok : goal.returns-clause-ok
returns-clause-ok c = record {
  each = omega (arith, c.loop.invariant.0, c.loop-test.false, c.loop.auto.counter-end, c.len-count.ensures);
  right = c.loop.invariant.1;
}
