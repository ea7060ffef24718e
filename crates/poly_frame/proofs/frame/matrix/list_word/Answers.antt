use Rattle.std.proofs.Common.{arith, length, refl, rules, ◌*◌, ◌+◌, ◌<◌}
use Rattle.poly_frame.proofs.Listed.{rest_more, rest_none, rest_past, rest_room, rest_start}
use Rattle.poly_frame.proofs.frame.matrix.list_word.Goals as goal

pub loop-t-init : goal.loop-t-init
loop-t-init c = record {
  state = rest_start c.args.given.now c.args.given_homes.now c.args.row.now c.args.numbers.now.items c.args.homes.now.items c.args.k _ refl c.requires.listed;
  space = refl;
  room = refl;
}

pub push_reserved-requires : goal.push_reserved-requires
push_reserved-requires c =
    let given = c.args.given.now in
    let R = c.loop-t.invariant.state in
    let room = rest_room given c.args.given_homes.now c.args.row.now c.loop-t.numbers.items c.loop-t.homes.items c.args.k c.loop-t.rest R c.in-Some.t c.in-Some.ensures in
    omega (arith, room, c.if-j-given.false, c.requires.space, c.loop-t.invariant.space, c.loop-t.numbers.ok.0)

pub push_reserved-requires-in-Some : goal.push_reserved-requires-in-Some
push_reserved-requires-in-Some c =
    let given = c.args.given.now in
    let R = c.loop-t.invariant.state in
    let room = rest_room given c.args.given_homes.now c.args.row.now c.loop-t.numbers.items c.loop-t.homes.items c.args.k c.loop-t.rest R c.in-Some.t c.in-Some.ensures in
    omega (arith, room, R.listed.len, c.if-j-given.false, c.requires.room, c.loop-t.invariant.room, c.loop-t.homes.ok.0)

pub loop-t-preserved : goal.loop-t-preserved
loop-t-preserved c =
    let given = c.args.given.now in
    let fits : 64 * c.args.k + c.in-Some.t < length given = omega (arith, c.if-j-given.false) in
    record {
      state = rest_more given c.args.given_homes.now c.args.row.now c.loop-t.numbers.items c.loop-t.homes.items c.args.k c.loop-t.rest c.loop-t.invariant.state c.push_reserved.new.self.items c.push_reserved-in-Some.new.self.items c.without-rest.result c.in-Some.t c.in-Some.ensures fits
          c.push_reserved.ensures.items c.push_reserved-in-Some.ensures.items c.without-rest.ensures.bits;
      space = search rules;
      room = search rules;
    }

pub returns-then-j-given-clause-listed : goal.returns-then-j-given-clause-listed
returns-then-j-given-clause-listed c =
    rest_past c.args.given.now c.args.given_homes.now c.args.row.now c.loop-t.numbers.items c.loop-t.homes.items c.args.k c.loop-t.rest c.loop-t.invariant.state c.in-Some.t c.in-Some.ensures (omega (arith, c.if-j-given.true))

pub returns-clause-listed : goal.returns-clause-listed
returns-clause-listed c =
    rest_none c.args.given.now c.args.given_homes.now c.args.row.now c.loop-t.numbers.items c.loop-t.homes.items c.args.k c.loop-t.rest c.loop-t.invariant.state c.in_default.ensures
