use Rattle.std.proofs.Common.{◌≡◌, ◌≢◌, ◌↔◌, ◌∙◌, List, refl, sym, ap, subst, arith}
use Rattle.std.specs.List.{Contains}
use Rattle.poly_design.specs.declared.mode.Mode.TheVariants.{Blocked}
use Rattle.poly_design.specs.declared.mode.Mode.{Mode}
use Rattle.poly_grid.specs.Spot.{Spot}
use Rattle.poly_design.specs.Changes.{set_mode}
use Rattle.poly_design.specs.Layout.{Layout, mode_of}
use Rattle.poly_design.specs.Listed.{IsListOf}
use Rattle.poly_design.specs.PlacementOrder.{placement_cmp, placement_total}
use Rattle.poly_design.specs.Placements.{IsPlacement}
use Rattle.poly_design.specs.Limits.{NoneBlocked}
use Rattle.poly_design.proofs.Accepted.{modes_unblocked}
use Rattle.poly_design.proofs.Counts.{count_part}
use Rattle.poly_design.proofs.Outside.{cell_kept, cell_recounted}
use Rattle.poly_design.proofs.design.Design.count_with_mode.Goals as goal

pub returns-then-are_alike-clause-ok : goal.returns-then-are_alike-clause-ok
returns-then-are_alike-clause-ok c =
    let d : Layout = record { grid = c.self.inside.grid; cells = c.self.inside.cells.entries; pieces = c.self.inside.pieces.entries } in
    let alike : (mode_of d c.args.cell ≢ Blocked) ↔ (c.args.mode ≢ Blocked) = subst (λ (m : Mode). (m ≢ Blocked) ↔ (c.args.mode ≢ Blocked)) (rw (← c.self.view_is) at c.mode.ensures) (c.if-are_alike.ensures refl) in
    rw (← c.self.view_is) (cell_kept d c.args.cell Blocked c.args.mode _ c.self.invariant.design alike c.self.invariant.counted)

pub placements_on-requires-2 : goal.placements_on-requires-2
placements_on-requires-2 c =
    let eq : c.put_mode.new.cells.entries ≡ set_mode c.self.inside.cells.entries c.args.cell c.args.mode = c.in_ok-put_mode.ensures.ok ∙ ap (λ (l : List (Spot × Mode)). set_mode l c.args.cell c.args.mode) c.in_ok-cells.ensures.ok in
    subst NoneBlocked (sym eq) (modes_unblocked c.self.inside.cells.entries c.args.cell c.args.mode c.self.invariant.design.unblocked)

pub overflow_sub-result : goal.overflow_sub-result
overflow_sub-result c =
    let d : Layout = record { grid = c.self.inside.grid; cells = c.self.inside.cells.entries; pieces = c.self.inside.pieces.entries } in
    let le = count_part placement_total (IsPlacement d) (λ p. Contains p.cells c.args.cell) c.self.inside.placement_count c.in_ok-gone.gone.items c.self.invariant.counted (c.in_ok-gone.ensures.ok d.grid) in
    omega (arith, le, c.len.ensures)

pub returns-clause-ok : goal.returns-clause-ok
returns-clause-ok c =
    let d : Layout = record { grid = c.self.inside.grid; cells = c.self.inside.cells.entries; pieces = c.self.inside.pieces.entries } in
    let eq : c.put_mode.new.cells.entries ≡ set_mode c.self.inside.cells.entries c.args.cell c.args.mode = c.in_ok-put_mode.ensures.ok ∙ ap (λ (l : List (Spot × Mode)). set_mode l c.args.cell c.args.mode) c.in_ok-cells.ensures.ok in
    let gone = c.in_ok-gone.ensures.ok d.grid in
    let come = subst (λ (l : List (Spot × Mode)). IsListOf placement_cmp (λ p. IsPlacement (record { grid = d.grid; cells = l; pieces = d.pieces }) p × Contains p.cells c.args.cell) c.in_ok-come.come.items) eq (c.in_ok-come.ensures.ok d.grid) in
    let le = count_part placement_total (IsPlacement d) (λ p. Contains p.cells c.args.cell) c.self.inside.placement_count c.in_ok-gone.gone.items c.self.invariant.counted gone in
    rw (← c.self.view_is) (cell_recounted d c.args.cell Blocked c.args.mode c.self.inside.placement_count _ c.in_ok-gone.gone.items c.in_ok-come.come.items c.self.invariant.counted gone come
    (omega (arith, le, c.len.ensures, c.len-2.ensures)))
