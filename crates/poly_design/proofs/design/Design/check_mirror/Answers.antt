use Rattle.std.proofs.Common.{Ok, refl, sym, ap}
use mathlib.Core.Bool.{true≢false}
use Rattle.poly_design.specs.declared.spec.Spec.{Spec}
use Rattle.poly_design.specs.declared.edit.Edit.TheVariants as edit
use Rattle.poly_design.specs.Layout.{Layout}
use Rattle.poly_design.proofs.Accepted.{accept, few_here, is_there, not_idle, refuse_many}
use Rattle.poly_design.proofs.design.Design.check_mirror.Goals as goal

pub returns-in-Ok-clause-ok : goal.returns-in-Ok-clause-ok
returns-in-Ok-clause-ok c =
    let d : Layout = record { grid = c.self.inside.grid; cells = c.self.inside.cells.entries; pieces = c.self.inside.pieces.entries } in
    let s = c.in-Some.spec.now in
    let name = c.args.name in
    let f : Spec → Spec = λ v. record v { mirror = c.args.mirror } in
    let found = sym c.in-Some.ensures.value in
    let same = ap f c.in_ok-after.ensures.ok in
    let few = few_here d name f s _ found same (rw c.in_ok-change.ensures.ok at (rw (← c.self.view_is) at c.in-Ok.ensures.ok)) in
    let other = not_idle d name f s found (λ e. true≢false (sym (c.if-has_mirror.ensures.1 (ap (λ (v : Spec). v.mirror) e)))) in
    rw (← c.self.view_is) (accept d (edit.Mirror name c.args.mirror) name f s _ (Ok c.in_ok-change.change) c.self.invariant.design found refl same c.in_ok-change.ensures.ok
    (is_there d name s found, (other, (λ no. no few, tt))) refl few)

pub returns-in-Err-clause-why : goal.returns-in-Err-clause-why
returns-in-Err-clause-why c =
    let d : Layout = record { grid = c.self.inside.grid; cells = c.self.inside.cells.entries; pieces = c.self.inside.pieces.entries } in
    let s = c.in-Some.spec.now in
    let name = c.args.name in
    let f : Spec → Spec = λ v. record v { mirror = c.args.mirror } in
    let found = sym c.in-Some.ensures.value in
    let same = ap f c.in_ok-after.ensures.ok in
    rw (← c.self.view_is) (refuse_many d name f s _ c.in-Err.refusal found (λ e. true≢false (sym (c.if-has_mirror.ensures.1 (ap (λ (v : Spec). v.mirror) e)))) same (rw c.in_ok-change.ensures.ok at (rw (← c.self.view_is) at c.in-Err.ensures.why)))

pub returns-in_err-after-clause-memory : goal.returns-in_err-after-clause-memory
returns-in_err-after-clause-memory c =
    let d : Layout = record { grid = c.self.inside.grid; cells = c.self.inside.cells.entries; pieces = c.self.inside.pieces.entries } in
    let s = c.in-Some.spec.now in
    let name = c.args.name in
    let f : Spec → Spec = λ v. record v { mirror = c.args.mirror } in
    let found = sym c.in-Some.ensures.value in
    let other = not_idle d name f s found (λ e. true≢false (sym (c.if-has_mirror.ensures.1 (ap (λ (v : Spec). v.mirror) e)))) in
    λ _. rw (← c.self.view_is) (λ _. is_there d name s found, (λ _. other, (λ late. absurd late, tt)))

pub returns-in_err-change-clause-memory : goal.returns-in_err-change-clause-memory
returns-in_err-change-clause-memory c =
    let d : Layout = record { grid = c.self.inside.grid; cells = c.self.inside.cells.entries; pieces = c.self.inside.pieces.entries } in
    let s = c.in-Some.spec.now in
    let name = c.args.name in
    let f : Spec → Spec = λ v. record v { mirror = c.args.mirror } in
    let found = sym c.in-Some.ensures.value in
    let other = not_idle d name f s found (λ e. true≢false (sym (c.if-has_mirror.ensures.1 (ap (λ (v : Spec). v.mirror) e)))) in
    λ _. rw (← c.self.view_is) (λ _. is_there d name s found, (λ _. other, (λ late. absurd late, tt)))

pub returns-in-Err-clause-memory : goal.returns-in-Err-clause-memory
returns-in-Err-clause-memory c =
    let d : Layout = record { grid = c.self.inside.grid; cells = c.self.inside.cells.entries; pieces = c.self.inside.pieces.entries } in
    let s = c.in-Some.spec.now in
    let name = c.args.name in
    let f : Spec → Spec = λ v. record v { mirror = c.args.mirror } in
    let found = sym c.in-Some.ensures.value in
    let other = not_idle d name f s found (λ e. true≢false (sym (c.if-has_mirror.ensures.1 (ap (λ (v : Spec). v.mirror) e)))) in
    λ _. rw (← c.self.view_is) (λ _. is_there d name s found, (λ _. other, (λ late. absurd late, tt)))
