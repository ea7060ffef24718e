use Rattle.std.proofs.Common.{Some, refl, sym, ap}
use mathlib.Core.Bool.{true≢false}
use Rattle.poly_design.specs.declared.spec.Spec.{Spec}
use Rattle.poly_design.specs.declared.edit.Edit.TheVariants as edit
use Rattle.poly_design.specs.Layout.{Layout}
use Rattle.poly_design.specs.Placements.{IsUnblocked}
use Rattle.poly_design.proofs.Accepted.{accept, few_here, few_with, is_there, not_idle, place_with_copies}
use Rattle.poly_design.proofs.design.Design.check_copies.Goals as goal

pub returns-clause-ok : goal.returns-clause-ok
returns-clause-ok c =
    let d : Layout = record { grid = c.self.inside.grid; cells = c.self.inside.cells.entries; pieces = c.self.inside.pieces.entries } in
    let s = c.in-Some.spec.now in
    let name = c.args.name in
    let f : Spec → Spec = λ v. record v { copies = c.args.copies } in
    let found = sym c.in-Some.ensures.value in
    let few = few_here d name f s (f s) found refl (few_with d name (Some s) s (f s) c.self.invariant.design.few_placements found (place_with_copies (IsUnblocked d) s c.args.copies)) in
    let other = not_idle d name f s found (λ e. true≢false (sym (c.if-same_copies.ensures.1 (ap (λ (v : Spec). v.copies) e)))) in
    rw (← c.self.view_is) (accept d (edit.Copies name c.args.copies) name f s _ c.changed_spec.result c.self.invariant.design found refl (ap f c.in_ok-after.ensures.ok) c.changed_spec.ensures.ok
    (is_there d name s found, (other, tt)) refl few)

pub returns-in_err-after-clause-memory : goal.returns-in_err-after-clause-memory
returns-in_err-after-clause-memory c =
    let d : Layout = record { grid = c.self.inside.grid; cells = c.self.inside.cells.entries; pieces = c.self.inside.pieces.entries } in
    let s = c.in-Some.spec.now in
    let name = c.args.name in
    let f : Spec → Spec = λ v. record v { copies = c.args.copies } in
    let found = sym c.in-Some.ensures.value in
    let other = not_idle d name f s found (λ e. true≢false (sym (c.if-same_copies.ensures.1 (ap (λ (v : Spec). v.copies) e)))) in
    λ _. rw (← c.self.view_is) (λ _. is_there d name s found, (λ _. other, tt))

pub returns-clause-memory : goal.returns-clause-memory
returns-clause-memory c =
    let d : Layout = record { grid = c.self.inside.grid; cells = c.self.inside.cells.entries; pieces = c.self.inside.pieces.entries } in
    let s = c.in-Some.spec.now in
    let name = c.args.name in
    let f : Spec → Spec = λ v. record v { copies = c.args.copies } in
    let found = sym c.in-Some.ensures.value in
    let other = not_idle d name f s found (λ e. true≢false (sym (c.if-same_copies.ensures.1 (ap (λ (v : Spec). v.copies) e)))) in
    λ _. rw (← c.self.view_is) (λ _. is_there d name s found, (λ _. other, tt))
