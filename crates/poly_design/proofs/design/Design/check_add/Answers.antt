use Rattle.std.proofs.Common.{◌≡◌, None, inl, inr, refl, arith, length, ◌<◌, ◌≤◌}
use Rattle.poly_design.specs.declared.spec.Spec.{Spec}
use Rattle.poly_design.specs.Layout.{Layout}
use Rattle.poly_design.specs.Edits.{new_spec}
use Rattle.poly_design.proofs.Accepted.{accept_add, no_room, none_if, refuse_add}
use Rattle.poly_design.proofs.Early.{past_add}
use Rattle.poly_design.proofs.design.Design.check_add.Goals as goal

pub returns-then-len-ge-MAX_PIECES-clause-why : goal.returns-then-len-ge-MAX_PIECES-clause-why
returns-then-len-ge-MAX_PIECES-clause-why c =
    let d : Layout = record { grid = c.self.inside.grid; cells = c.self.inside.cells.entries; pieces = c.self.inside.pieces.entries } in
    let none = none_if _ c.if-contains_key.ensures in
    let grid = c.if-not-is_of.ensures.0 refl in
    let full : 64 ≤ length c.self.inside.pieces.entries = omega (arith, c.if-len-ge-MAX_PIECES.true, c.len.ensures.len) in
    rw (← c.self.view_is) (inr (inr (λ taken. taken none, inr (λ bad. bad grid, inl (refl, no_room d c.args.name (new_spec c.args.shape c.args.need c.args.mirror) none full)))))

pub returns-in-Ok-clause-ok : goal.returns-in-Ok-clause-ok
returns-in-Ok-clause-ok c =
    let d : Layout = record { grid = c.self.inside.grid; cells = c.self.inside.cells.entries; pieces = c.self.inside.pieces.entries } in
    let none = none_if _ c.if-contains_key.ensures in
    let grid = c.if-not-is_of.ensures.0 refl in
    let room : length c.self.inside.pieces.entries < 64 = omega (arith, c.if-len-ge-MAX_PIECES.false, c.len.ensures.len) in
    let made : Spec = record { shape = c.args.shape; copies = c.copies.result; mirror = c.args.mirror; pin = None; forbidden = c.new.result } in
    let same : made ≡ new_spec c.args.shape c.args.need c.args.mirror = λ i. record { shape = c.args.shape; copies = c.copies.ensures i; mirror = c.args.mirror; pin = None; forbidden = c.new.ensures i } in
    rw (← c.self.view_is) (accept_add d c.args.name c.args.shape c.args.need c.args.mirror _ c.self.invariant.design none grid room same (rw (← c.self.view_is) at c.in-Ok.ensures.ok))

pub returns-in-Err-clause-why : goal.returns-in-Err-clause-why
returns-in-Err-clause-why c =
    let d : Layout = record { grid = c.self.inside.grid; cells = c.self.inside.cells.entries; pieces = c.self.inside.pieces.entries } in
    let none = none_if _ c.if-contains_key.ensures in
    let grid = c.if-not-is_of.ensures.0 refl in
    let room : length c.self.inside.pieces.entries < 64 = omega (arith, c.if-len-ge-MAX_PIECES.false, c.len.ensures.len) in
    let made : Spec = record { shape = c.args.shape; copies = c.copies.result; mirror = c.args.mirror; pin = None; forbidden = c.new.result } in
    let same : made ≡ new_spec c.args.shape c.args.need c.args.mirror = λ i. record { shape = c.args.shape; copies = c.copies.ensures i; mirror = c.args.mirror; pin = None; forbidden = c.new.ensures i } in
    rw (← c.self.view_is) (refuse_add d c.args.name c.args.shape c.args.need c.args.mirror _ c.in-Err.refusal none grid room same (rw (← c.self.view_is) at c.in-Err.ensures.why))

pub returns-in-Err-clause-memory : goal.returns-in-Err-clause-memory
returns-in-Err-clause-memory c =
    let d : Layout = record { grid = c.self.inside.grid; cells = c.self.inside.cells.entries; pieces = c.self.inside.pieces.entries } in
    let none = none_if _ c.if-contains_key.ensures in
    let grid = c.if-not-is_of.ensures.0 refl in
    let room : length c.self.inside.pieces.entries < 64 = omega (arith, c.if-len-ge-MAX_PIECES.false, c.len.ensures.len) in
    λ _. rw (← c.self.view_is) (past_add d c.args.name c.args.shape c.args.need c.args.mirror none grid room)
