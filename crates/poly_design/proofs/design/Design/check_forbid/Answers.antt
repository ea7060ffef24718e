use Rattle.std.proofs.Common.{◌≡◌, ◌∙◌, List, Some, inl, inr, refl, sym, ap, subst}
use Rattle.std.specs.List.{Contains}
use Rattle.std.specs.BTreeSet.{insert_key}
use Rattle.poly_grid.specs.Spot.{Spot}
use Rattle.poly_shape.specs.Order.{cells_cmp, cells_total}
use mathlib.Core.Bool.{true≢false}
use Rattle.poly_design.specs.declared.spec.Spec.{Spec}
use Rattle.poly_design.specs.declared.edit.Edit.TheVariants as edit
use Rattle.poly_design.specs.Layout.{Layout}
use Rattle.poly_design.specs.Placements.{IsUnblocked}
use Rattle.poly_design.proofs.Entries.{insert_contained}
use Rattle.poly_design.proofs.Accepted.{accept, few_here, few_with, is_idle, is_there, not_idle, place_with_forbidden}
use Rattle.poly_design.proofs.Early.{forbids_more}
use Rattle.poly_design.proofs.design.Design.check_forbid.Goals as goal

pub returns-then-contains-clause-why : goal.returns-then-contains-clause-why
returns-then-contains-clause-why c =
    let d : Layout = record { grid = c.self.inside.grid; cells = c.self.inside.cells.entries; pieces = c.self.inside.pieces.entries } in
    let s = c.in-Some.spec.now in
    let name = c.args.name in
    let f : Spec → Spec = λ v. record v { forbidden = insert_key cells_cmp v.forbidden c.args.cells } in
    let found = sym c.in-Some.ensures.value in
    let kept = insert_contained cells_total s.forbidden c.args.cells c.if-contains.ensures.ascending (c.if-contains.ensures.found.0 refl) in
    rw (← c.self.view_is) (inr (inr (is_there d name s found, inl (refl, is_idle d name f s found (λ i. record s { forbidden = kept i })))))

pub returns-then-not-branch-clause-why : goal.returns-then-not-branch-clause-why
returns-then-not-branch-clause-why c =
    let d : Layout = record { grid = c.self.inside.grid; cells = c.self.inside.cells.entries; pieces = c.self.inside.pieces.entries } in
    let s = c.in-Some.spec.now in
    let name = c.args.name in
    let f : Spec → Spec = λ v. record v { forbidden = insert_key cells_cmp v.forbidden c.args.cells } in
    let found = sym c.in-Some.ensures.value in
    let new : s ≡ f s → ⊥ = forbids_more s c.args.cells (λ h. true≢false (sym (c.if-contains.ensures.found.1 h))) in
    let lies = rw (← c.self.view_is) at c.in_ok-is_placement.ensures.ok.1 in
    rw (← c.self.view_is) (inr (inr (is_there d name s found, inr (not_idle d name f s found new, inl (refl, λ is. true≢false (sym (lies is) ∙ c.if-not-branch.true))))))

pub returns-clause-ok : goal.returns-clause-ok
returns-clause-ok c =
    let d : Layout = record { grid = c.self.inside.grid; cells = c.self.inside.cells.entries; pieces = c.self.inside.pieces.entries } in
    let s = c.in-Some.spec.now in
    let name = c.args.name in
    let f : Spec → Spec = λ v. record v { forbidden = insert_key cells_cmp v.forbidden c.args.cells } in
    let found = sym c.in-Some.ensures.value in
    let new : s ≡ f s → ⊥ = forbids_more s c.args.cells (λ h. true≢false (sym (c.if-contains.ensures.found.1 h))) in
    let lies = rw (← c.self.view_is) at (c.in_ok-is_placement.ensures.ok.0 c.if-not-branch.false) in
    let list : c.insert.new.self ≡ insert_key cells_cmp s.forbidden c.args.cells = c.in_ok-insert.ensures.list ∙ ap (λ (l : List (List Spot)). insert_key cells_cmp l c.args.cells) c.in_ok-forbidden.ensures.ok in
    let more : (k : List Spot) → Contains s.forbidden k → Contains (insert_key cells_cmp s.forbidden c.args.cells) k =
    λ k h. subst (λ (l : List (List Spot)). Contains l k) list ((c.in_ok-insert.ensures.adds k).1 (inl (subst (λ (l : List (List Spot)). Contains l k) (sym c.in_ok-forbidden.ensures.ok) h))) in
    let few = few_here d name f s (f s) found refl (few_with d name (Some s) s (f s) c.self.invariant.design.few_placements found (place_with_forbidden (IsUnblocked d) s (insert_key cells_cmp s.forbidden c.args.cells) more)) in
    rw (← c.self.view_is) (accept d (edit.Forbid name c.args.cells) name f s _ c.changed_spec.result c.self.invariant.design found refl (c.with_forbidden-after.ensures ∙ (λ i. record s { forbidden = list i })) c.changed_spec.ensures.ok
    (is_there d name s found, (not_idle d name f s found new, (λ no. no lies, tt))) refl few)

pub returns-in_err-is_placement-clause-memory : goal.returns-in_err-is_placement-clause-memory
returns-in_err-is_placement-clause-memory c =
    let d : Layout = record { grid = c.self.inside.grid; cells = c.self.inside.cells.entries; pieces = c.self.inside.pieces.entries } in
    let s = c.in-Some.spec.now in
    let name = c.args.name in
    let f : Spec → Spec = λ v. record v { forbidden = insert_key cells_cmp v.forbidden c.args.cells } in
    let found = sym c.in-Some.ensures.value in
    let other = not_idle d name f s found (forbids_more s c.args.cells (λ h. true≢false (sym (c.if-contains.ensures.found.1 h)))) in
    λ _. rw (← c.self.view_is) (λ _. is_there d name s found, (λ _. other, (λ late. absurd late, tt)))

pub returns-in_err-forbidden-clause-memory : goal.returns-in_err-forbidden-clause-memory
returns-in_err-forbidden-clause-memory c =
    let d : Layout = record { grid = c.self.inside.grid; cells = c.self.inside.cells.entries; pieces = c.self.inside.pieces.entries } in
    let s = c.in-Some.spec.now in
    let name = c.args.name in
    let f : Spec → Spec = λ v. record v { forbidden = insert_key cells_cmp v.forbidden c.args.cells } in
    let found = sym c.in-Some.ensures.value in
    let other = not_idle d name f s found (forbids_more s c.args.cells (λ h. true≢false (sym (c.if-contains.ensures.found.1 h)))) in
    λ _. rw (← c.self.view_is) (λ _. is_there d name s found, (λ _. other, (λ late. absurd late, tt)))

pub returns-in_err-insert-clause-memory : goal.returns-in_err-insert-clause-memory
returns-in_err-insert-clause-memory c =
    let d : Layout = record { grid = c.self.inside.grid; cells = c.self.inside.cells.entries; pieces = c.self.inside.pieces.entries } in
    let s = c.in-Some.spec.now in
    let name = c.args.name in
    let f : Spec → Spec = λ v. record v { forbidden = insert_key cells_cmp v.forbidden c.args.cells } in
    let found = sym c.in-Some.ensures.value in
    let other = not_idle d name f s found (forbids_more s c.args.cells (λ h. true≢false (sym (c.if-contains.ensures.found.1 h)))) in
    λ _. rw (← c.self.view_is) (λ _. is_there d name s found, (λ _. other, (λ late. absurd late, tt)))

pub returns-clause-memory : goal.returns-clause-memory
returns-clause-memory c =
    let d : Layout = record { grid = c.self.inside.grid; cells = c.self.inside.cells.entries; pieces = c.self.inside.pieces.entries } in
    let s = c.in-Some.spec.now in
    let name = c.args.name in
    let f : Spec → Spec = λ v. record v { forbidden = insert_key cells_cmp v.forbidden c.args.cells } in
    let found = sym c.in-Some.ensures.value in
    let other = not_idle d name f s found (forbids_more s c.args.cells (λ h. true≢false (sym (c.if-contains.ensures.found.1 h)))) in
    λ _. rw (← c.self.view_is) (λ _. is_there d name s found, (λ _. other, (λ late. absurd late, tt)))
