use Rattle.std.proofs.Common.{◌<◌, ◌≤◌, length, refl, arith}
use Rattle.poly_design.specs.Layout.{Layout}
use Rattle.poly_design.proofs.Accepted.{none_if, room_known, room_last, room_left, some_if}
use Rattle.poly_design.proofs.design.Design.has_room.Goals as goal

pub returns-then-len-lt-MAX_CELLS-clause-room : goal.returns-then-len-lt-MAX_CELLS-clause-room
returns-then-len-lt-MAX_CELLS-clause-room c =
    let d : Layout = record { grid = c.self.inside.grid; cells = c.self.inside.cells.entries; pieces = c.self.inside.pieces.entries } in
    let left : length d.cells < 256 = omega (arith, c.if-len-lt-MAX_CELLS.true, c.len.ensures.len) in
    rw (← c.self.view_is) (λ _. room_left d c.args.cell c.args.mode left, λ _. refl)

pub returns-then-contains_key-clause-room : goal.returns-then-contains_key-clause-room
returns-then-contains_key-clause-room c =
    let d : Layout = record { grid = c.self.inside.grid; cells = c.self.inside.cells.entries; pieces = c.self.inside.pieces.entries } in
    let known = some_if _ c.if-contains_key.ensures in
    rw (← c.self.view_is) (λ _. room_known d c.args.cell c.args.mode known.0 c.self.invariant.design known.1, λ _. refl)

pub returns-clause-room : goal.returns-clause-room
returns-clause-room c =
    let d : Layout = record { grid = c.self.inside.grid; cells = c.self.inside.cells.entries; pieces = c.self.inside.pieces.entries } in
    let full : 256 ≤ length d.cells = omega (arith, c.if-len-lt-MAX_CELLS.false, c.len.ensures.len) in
    rw (← c.self.view_is) (room_last d c.args.cell c.args.mode _ c.same_mode.ensures c.self.invariant.design (none_if _ c.if-contains_key.ensures) full)
