use Rattle.std.proofs.Common.{sym}
use Rattle.poly_design.specs.Layout.{Layout}
use Rattle.poly_design.proofs.Accepted.{accept_drop, is_there}
use Rattle.poly_design.proofs.design.Design.check_drop.Goals as goal

pub returns-clause-ok : goal.returns-clause-ok
returns-clause-ok c =
    let d : Layout = record { grid = c.self.inside.grid; cells = c.self.inside.cells.entries; pieces = c.self.inside.pieces.entries } in
    rw (← c.self.view_is) (accept_drop d c.args.name c.in-Some.spec.now c.in_ok-before.before c.self.invariant.design (sym c.in-Some.ensures.value) c.in_ok-before.ensures.ok)

pub returns-in_err-before-clause-memory : goal.returns-in_err-before-clause-memory
returns-in_err-before-clause-memory c =
    let d : Layout = record { grid = c.self.inside.grid; cells = c.self.inside.cells.entries; pieces = c.self.inside.pieces.entries } in
    λ _. rw (← c.self.view_is) (λ _. is_there d c.args.name c.in-Some.spec.now (sym c.in-Some.ensures.value), tt)
