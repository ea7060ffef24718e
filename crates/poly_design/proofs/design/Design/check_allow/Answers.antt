use Rattle.std.proofs.Common.{◌≡◌, ◌∙◌, List, Ok, inl, inr, refl, sym, ap}
use Rattle.std.specs.BTreeMap.{is_at}
use Rattle.std.specs.Set.{remove_key}
use Rattle.poly_grid.specs.Spot.{Spot}
use Rattle.poly_shape.specs.Order.{cells_cmp, cells_total}
use Rattle.poly_shape.proofs.Ascending.{same_cells}
use mathlib.Core.Bool.{true≢false}
use Rattle.poly_design.specs.declared.spec.Spec.{Spec}
use Rattle.poly_design.specs.declared.edit.Edit.TheVariants as edit
use Rattle.poly_design.specs.Layout.{Layout}
use Rattle.poly_design.proofs.Entries.{remove_absent}
use Rattle.poly_design.proofs.Accepted.{accept, few_here, is_idle, is_there, not_idle, refuse_many}
use Rattle.poly_design.proofs.Early.{allows_more}
use Rattle.poly_design.proofs.design.Design.check_allow.Goals as goal

pub returns-then-not-contains-clause-why : goal.returns-then-not-contains-clause-why
returns-then-not-contains-clause-why c =
    let d : Layout = record { grid = c.self.inside.grid; cells = c.self.inside.cells.entries; pieces = c.self.inside.pieces.entries } in
    let s = c.in-Some.spec.now in
    let name = c.args.name in
    let f : Spec → Spec = λ v. record v { forbidden = remove_key (is_at (cells_cmp c.args.cells)) v.forbidden } in
    let found = sym c.in-Some.ensures.value in
    let kept = remove_absent cells_total same_cells s.forbidden c.args.cells (λ h. true≢false (sym (c.if-not-contains.ensures.found.1 h))) in
    rw (← c.self.view_is) (inr (inr (is_there d name s found, inl (refl, is_idle d name f s found (λ i. record s { forbidden = kept i })))))

pub returns-in-Ok-clause-ok : goal.returns-in-Ok-clause-ok
returns-in-Ok-clause-ok c =
    let d : Layout = record { grid = c.self.inside.grid; cells = c.self.inside.cells.entries; pieces = c.self.inside.pieces.entries } in
    let s = c.in-Some.spec.now in
    let name = c.args.name in
    let f : Spec → Spec = λ v. record v { forbidden = remove_key (is_at (cells_cmp c.args.cells)) v.forbidden } in
    let found = sym c.in-Some.ensures.value in
    let list : c.remove.new.self ≡ remove_key (is_at (cells_cmp c.args.cells)) s.forbidden = c.remove.ensures.list ∙ ap (λ (l : List (List Spot)). remove_key (is_at (cells_cmp c.args.cells)) l) c.in_ok-forbidden.ensures.ok in
    let same : c.with_forbidden-after.result ≡ f s = c.with_forbidden-after.ensures ∙ (λ i. record s { forbidden = list i }) in
    let gone : s ≡ f s → ⊥ = allows_more s c.args.cells (c.if-not-contains.ensures.found.0 refl) in
    let few = few_here d name f s _ found same (rw c.in_ok-change.ensures.ok at (rw (← c.self.view_is) at c.in-Ok.ensures.ok)) in
    rw (← c.self.view_is) (accept d (edit.Allow name c.args.cells) name f s _ (Ok c.in_ok-change.change) c.self.invariant.design found refl same c.in_ok-change.ensures.ok
    (is_there d name s found, (not_idle d name f s found gone, (λ no. no few, tt))) refl few)

pub returns-in-Err-clause-why : goal.returns-in-Err-clause-why
returns-in-Err-clause-why c =
    let d : Layout = record { grid = c.self.inside.grid; cells = c.self.inside.cells.entries; pieces = c.self.inside.pieces.entries } in
    let s = c.in-Some.spec.now in
    let name = c.args.name in
    let f : Spec → Spec = λ v. record v { forbidden = remove_key (is_at (cells_cmp c.args.cells)) v.forbidden } in
    let found = sym c.in-Some.ensures.value in
    let list : c.remove.new.self ≡ remove_key (is_at (cells_cmp c.args.cells)) s.forbidden = c.remove.ensures.list ∙ ap (λ (l : List (List Spot)). remove_key (is_at (cells_cmp c.args.cells)) l) c.in_ok-forbidden.ensures.ok in
    let same : c.with_forbidden-after.result ≡ f s = c.with_forbidden-after.ensures ∙ (λ i. record s { forbidden = list i }) in
    let gone : s ≡ f s → ⊥ = allows_more s c.args.cells (c.if-not-contains.ensures.found.0 refl) in
    rw (← c.self.view_is) (refuse_many d name f s _ c.in-Err.refusal found gone same (rw c.in_ok-change.ensures.ok at (rw (← c.self.view_is) at c.in-Err.ensures.why)))

pub returns-in_err-forbidden-clause-memory : goal.returns-in_err-forbidden-clause-memory
returns-in_err-forbidden-clause-memory c =
    let d : Layout = record { grid = c.self.inside.grid; cells = c.self.inside.cells.entries; pieces = c.self.inside.pieces.entries } in
    let s = c.in-Some.spec.now in
    let name = c.args.name in
    let f : Spec → Spec = λ v. record v { forbidden = remove_key (is_at (cells_cmp c.args.cells)) v.forbidden } in
    let found = sym c.in-Some.ensures.value in
    let other = not_idle d name f s found (allows_more s c.args.cells (c.if-not-contains.ensures.found.0 refl)) in
    λ _. rw (← c.self.view_is) (λ _. is_there d name s found, (λ _. other, (λ late. absurd late, tt)))

pub returns-in_err-change-clause-memory : goal.returns-in_err-change-clause-memory
returns-in_err-change-clause-memory c =
    let d : Layout = record { grid = c.self.inside.grid; cells = c.self.inside.cells.entries; pieces = c.self.inside.pieces.entries } in
    let s = c.in-Some.spec.now in
    let name = c.args.name in
    let f : Spec → Spec = λ v. record v { forbidden = remove_key (is_at (cells_cmp c.args.cells)) v.forbidden } in
    let found = sym c.in-Some.ensures.value in
    let other = not_idle d name f s found (allows_more s c.args.cells (c.if-not-contains.ensures.found.0 refl)) in
    λ _. rw (← c.self.view_is) (λ _. is_there d name s found, (λ _. other, (λ late. absurd late, tt)))

pub returns-in-Err-clause-memory : goal.returns-in-Err-clause-memory
returns-in-Err-clause-memory c =
    let d : Layout = record { grid = c.self.inside.grid; cells = c.self.inside.cells.entries; pieces = c.self.inside.pieces.entries } in
    let s = c.in-Some.spec.now in
    let name = c.args.name in
    let f : Spec → Spec = λ v. record v { forbidden = remove_key (is_at (cells_cmp c.args.cells)) v.forbidden } in
    let found = sym c.in-Some.ensures.value in
    let other = not_idle d name f s found (allows_more s c.args.cells (c.if-not-contains.ensures.found.0 refl)) in
    λ _. rw (← c.self.view_is) (λ _. is_there d name s found, (λ _. other, (λ late. absurd late, tt)))
