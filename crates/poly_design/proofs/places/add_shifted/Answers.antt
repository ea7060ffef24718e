use Rattle.std.proofs.Common.{◌≡◌, ◌∙◌, refl, sym, subst}
use mathlib.Core.Bool.{true≢false}
use Rattle.std.specs.List.{Contains}
use Rattle.poly_design.specs.Moved.{IsShifted}
use Rattle.poly_design.proofs.Sets.{adds_no, adds_push}
use Rattle.poly_design.proofs.Shifts.{shifted_by, lands, lies_from}
use Rattle.poly_design.proofs.places.add_shifted.Goals as goal

pub returns-in_default-clause-adds : goal.returns-in_default-clause-adds
returns-in_default-clause-adds c = adds_no (IsShifted (Contains c.args.board.now) c.args.forbidden.now c.args.cells.now c.args.from c.args.to) c.args.list.now.items
    (λ k s. c.in_default.ensures.none s.right s.down s.shift)

pub returns-then-not-fits-clause-adds : goal.returns-then-not-fits-clause-adds
returns-then-not-fits-clause-adds c = adds_no (IsShifted (Contains c.args.board.now) c.args.forbidden.now c.args.cells.now c.args.from c.args.to) c.args.list.now.items
    (λ k s.
    let lies = shifted_by (Contains c.args.board.now) c.args.forbidden.now c.args.cells.now c.args.from c.args.to c.in-Some.right c.in-Some.down c.in-Some.ensures.some k s in
    true≢false (sym (c.if-not-fits.ensures.1 (rw c.as_slice.ensures.value (lands c.args.board.now c.args.forbidden.now c.args.cells.now c.in-Some.right c.in-Some.down k lies)))))

pub returns-in_default-translated-clause-adds : goal.returns-in_default-translated-clause-adds
returns-in_default-translated-clause-adds c = adds_no (IsShifted (Contains c.args.board.now) c.args.forbidden.now c.args.cells.now c.args.from c.args.to) c.args.list.now.items
    (λ k s.
    let lies = shifted_by (Contains c.args.board.now) c.args.forbidden.now c.args.cells.now c.args.from c.args.to c.in-Some.right c.in-Some.down c.in-Some.ensures.some k s in
    c.in_default-translated.ensures lies.in_range)

pub returns-then-contains-clause-adds : goal.returns-then-contains-clause-adds
returns-then-contains-clause-adds c = adds_no (IsShifted (Contains c.args.board.now) c.args.forbidden.now c.args.cells.now c.args.from c.args.to) c.args.list.now.items
    (λ k s.
    let lies = shifted_by (Contains c.args.board.now) c.args.forbidden.now c.args.cells.now c.args.from c.args.to c.in-Some.right c.in-Some.down c.in-Some.ensures.some k s in
    let same : c.in-Some-translated.place ≡ k = c.in-Some-translated.ensures.1 ∙ sym lies.moved in
    lies.allowed (subst (Contains c.args.forbidden.now) same (c.if-contains.ensures.found.0 refl)))

pub returns-clause-adds : goal.returns-clause-adds
returns-clause-adds c =
    let place = c.in-Some-translated.ensures in
    let land = rw c.as_slice.ensures.value at (c.if-not-fits.ensures.0 refl) in
    rw c.in_ok-push.ensures.items (adds_push (IsShifted (Contains c.args.board.now) c.args.forbidden.now c.args.cells.now c.args.from c.args.to) c.args.list.now.items c.in-Some-translated.place
    (record {
      right = c.in-Some.right;
      down = c.in-Some.down;
      shift = c.in-Some.ensures.some;
      lies = lies_from c.args.board.now c.args.forbidden.now c.args.cells.now c.in-Some.right c.in-Some.down c.in-Some-translated.place land place.1 (λ h. true≢false (sym (c.if-contains.ensures.found.1 h)));
    })
    (λ k s. place.1 ∙ sym (shifted_by (Contains c.args.board.now) c.args.forbidden.now c.args.cells.now c.args.from c.args.to c.in-Some.right c.in-Some.down c.in-Some.ensures.some k s).moved))
