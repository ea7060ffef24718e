use Rattle.std.proofs.Common.{Err, List, ap, arith, length, length-append, subst}
use Rattle.std.specs.List.{Contains}
use Rattle.poly_design.specs.declared.placement.Placement.{Placement}
use Rattle.poly_place.specs.Interned.{AreNumbersOf, GoesOnWith}
use Rattle.poly_place.proofs.Numbers.{goes_by, goes_none, goes_twice}
use Rattle.poly_place.proofs.Ordered.{has_number, order_none, order_pins, order_places}
use Rattle.poly_place.proofs.Righted.{right_from}
use Rattle.poly_place.proofs.RunOut.{passed_on, spent_pins, spent_places}
use Rattle.poly_place.proofs.numbered.Numbered.of.Goals as goal

pub returns-clause-right : goal.returns-clause-right
returns-clause-right c = λ d parts.
    right_from d c.args.parts.places.items c.args.parts.pins.items c.args.parts.bounds.items c.give_all.new.self c.in_ok-pins.ensures.gives.more c.give_all-2.new.self c.in_ok-live.live.items c.in_ok-pins.pins.items
    parts c.in_ok-pins.ensures.numbered
    (subst (λ (l : List Placement). AreNumbersOf c.give_all.new.self c.in_ok-live.live.items l) c.deref.ensures.value c.in_ok-live.ensures.ok)
    c.in_ok-pins.ensures.gives.appended
    (subst (λ (l : List Placement). AreNumbersOf c.give_all-2.new.self c.in_ok-pins.pins.items l) c.deref-2.ensures.value c.in_ok-pins.ensures.ok)

pub returns-in_err-live-clause-grows : goal.returns-in_err-live-clause-grows
returns-in_err-live-clause-grows c = goes_none c.args.names.now c.give_all.new.self c.in_err-live.ensures.err

pub returns-in_err-pins-clause-grows : goal.returns-in_err-pins-clause-grows
returns-in_err-pins-clause-grows c =
    goes_twice c.args.names.now c.give_all.new.self c.give_all-2.new.self (goes_by c.args.names.now c.deref.result.now c.give_all.new.self c.in_ok-live.ensures.gives c.in_ok-live.ensures.numbered)
    (goes_none c.give_all.new.self c.give_all-2.new.self c.in_err-pins.ensures.err)

pub returns-clause-grows : goal.returns-clause-grows
returns-clause-grows c =
    goes_twice c.args.names.now c.give_all.new.self c.give_all-2.new.self (goes_by c.args.names.now c.deref.result.now c.give_all.new.self c.in_ok-live.ensures.gives c.in_ok-live.ensures.numbered)
    (goes_by c.give_all.new.self c.deref-2.result.now c.give_all-2.new.self c.in_ok-pins.ensures.gives c.in_ok-pins.ensures.numbered)

pub returns-in_err-live-clause-spent : goal.returns-in_err-live-clause-spent
returns-in_err-live-clause-spent c = λ d parts s.
    let same = passed_on c.from_residual.result c.in_err-live.field-0.0 c.from_residual.ensures.1 s in
    spent_places d c.args.names.now c.deref.result.now (λ q h. (parts.places.exact q).0 (subst (λ (l : List Placement). Contains l q) c.deref.ensures.value h)) (c.in_err-live.ensures.spent (ap (λ x. Err x) same))

pub returns-in_err-pins-clause-spent : goal.returns-in_err-pins-clause-spent
returns-in_err-pins-clause-spent c = λ d parts s.
    let same = passed_on c.from_residual-in_err-pins.result c.in_err-pins.field-0.0 c.from_residual-in_err-pins.ensures.1 s in
    spent_pins d c.args.names.now c.give_all.new.self c.deref.result.now c.deref-2.result.now
    (λ q h. (parts.places.exact q).0 (subst (λ (l : List Placement). Contains l q) c.deref.ensures.value h))
    (λ q h. (parts.pins.exact q).0 (subst (λ (l : List Placement). Contains l q) c.deref-2.ensures.value h))
    c.in_ok-live.ensures.gives (c.in_err-pins.ensures.spent (ap (λ x. Err x) same))

pub returns-in_err-live-clause-order : goal.returns-in_err-live-clause-order
returns-in_err-live-clause-order c = λ d parts. order_none d c.args.names.now c.give_all.new.self c.in_err-live.ensures.err

pub returns-in_err-pins-clause-order : goal.returns-in_err-pins-clause-order
returns-in_err-pins-clause-order c = λ d parts.
    let places = c.args.parts.places.items in
    order_places d places c.args.names.now c.give_all.new.self c.give_all-2.new.self parts.places.ascending (λ p h. (parts.places.exact p).0 h)
    (subst (λ (l : List Placement). GoesOnWith c.args.names.now l c.give_all.new.self) c.deref.ensures.value c.in_ok-live.ensures.gives) c.in_err-pins.ensures.err

pub returns-clause-order : goal.returns-clause-order
returns-clause-order c = λ d parts.
    let places = c.args.parts.places.items in
    let between = c.give_all.new.self in
    order_pins d places c.args.parts.pins.items c.args.names.now between c.give_all-2.new.self parts.places.ascending (λ p h. (parts.places.exact p).0 h)
    (λ p h. has_number between c.in_ok-live.live.items places (subst (λ (l : List Placement). AreNumbersOf between c.in_ok-live.live.items l) c.deref.ensures.value c.in_ok-live.ensures.ok) p ((parts.places.exact p).1 h))
    parts.pins
    (subst (λ (l : List Placement). GoesOnWith c.args.names.now l between) c.deref.ensures.value c.in_ok-live.ensures.gives)
    (subst (λ (l : List Placement). GoesOnWith between l c.give_all-2.new.self) c.deref-2.ensures.value c.in_ok-pins.ensures.gives)

pub returns-in_err-live-clause-many : goal.returns-in_err-live-clause-many
returns-in_err-live-clause-many c = λ s.
    let same = passed_on c.from_residual.result c.in_err-live.field-0.0 c.from_residual.ensures.1 s in
    omega (arith, (c.in_err-live.ensures.spent (ap (λ x. Err x) same)).sum, ap length c.deref.ensures.value)

pub returns-in_err-pins-clause-many : goal.returns-in_err-pins-clause-many
returns-in_err-pins-clause-many c = λ s.
    let same = passed_on c.from_residual-in_err-pins.result c.in_err-pins.field-0.0 c.from_residual-in_err-pins.ensures.1 s in
    let live = c.in_ok-live.ensures.gives in
    omega (arith, (c.in_err-pins.ensures.spent (ap (λ x. Err x) same)).sum, ap length c.deref-2.ensures.value, ap length live.appended, length-append c.args.names.now live.more, live.few, ap length c.deref.ensures.value)
