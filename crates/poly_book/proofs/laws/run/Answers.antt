use Rattle.std.proofs.Common.{ap, arith, length, rules, ◌∷◌, ◌≡◌}
use Rattle.std.specs.Vec.Iter.{into_iter_items}
use Rattle.poly_book.proofs.Running.{happen_end, happen_step}
use Rattle.poly_book.proofs.laws.run.Goals as goal

pub loop-event-preserved : goal.loop-event-preserved
loop-event-preserved c =
    let e : into_iter_items c.loop-event.event-iterator ≡ c.in-Some.event ∷ into_iter_items c.next.new.self = c.in-Some.ensures.steps.0 in
    let p = c.push_reserved.ensures in
    record {
      happen = rw c.push_reserved.ensures.items (happen_step c.args.events.items (into_iter_items c.loop-event.event-iterator) (into_iter_items c.next.new.self) c.args.book c.loop-event.book c.act-reply.new.book c.in-Some.event c.loop-event.replies.items c.act-reply.result e c.act-reply.ensures c.loop-event.invariant.happen);
      room = omega (arith, ap length e, c.loop-event.invariant.room, c.push_reserved.ensures.len, c.push_reserved.ensures.capacity);
    }

pub returns-clause-happen : goal.returns-clause-happen
returns-clause-happen c =
    let e : length (into_iter_items c.loop-event.event-iterator) ≡ 0 = search rules in
    happen_end c.args.events.items (into_iter_items c.loop-event.event-iterator) c.args.book c.loop-event.book c.loop-event.replies.items e c.loop-event.invariant.happen
