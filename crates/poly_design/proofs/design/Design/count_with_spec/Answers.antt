use Rattle.std.proofs.Common.{◌≡◌, Option, None, subst, arith}
use Rattle.std.specs.List.{Contains}
use Rattle.std.specs.Map.{keys_of}
use Rattle.poly_design.specs.declared.spec.Spec.{Spec}
use Rattle.poly_design.specs.Layout.{Layout}
use Rattle.poly_design.specs.Listed.{IsListOf}
use Rattle.poly_design.specs.PlacementOrder.{placement_cmp, placement_total}
use Rattle.poly_design.specs.Placements.{IsOfPiece, IsPlacement}
use Rattle.poly_design.proofs.Counts.{count_part}
use Rattle.poly_design.proofs.Outside.{counted_few, piece_listed, piece_recounted}
use Rattle.poly_design.proofs.design.Design.count_with_spec.Goals as goal

pub overflow_sub-result : goal.overflow_sub-result
overflow_sub-result c =
    let d : Layout = record { grid = c.self.inside.grid; cells = c.self.inside.cells.entries; pieces = c.self.inside.pieces.entries } in
    let gone = subst (λ (o : Option Spec). IsListOf placement_cmp (IsOfPiece (Contains (keys_of d.cells)) c.args.name o) c.in_ok-before.before.items) c.get.ensures.value c.in_ok-before.ensures.ok in
    let le = count_part placement_total (IsPlacement d) (λ p. p.name ≡ c.args.name) c.self.inside.placement_count c.in_ok-before.before.items c.self.invariant.counted (piece_listed d c.args.name c.in_ok-before.before.items c.self.invariant.design gone) in
    omega (arith, le, c.len.ensures)

pub overflow_add-result : goal.overflow_add-result
overflow_add-result c =
    let d : Layout = record { grid = c.self.inside.grid; cells = c.self.inside.cells.entries; pieces = c.self.inside.pieces.entries } in
    let few = counted_few d c.self.inside.placement_count c.self.invariant.counted c.self.invariant.design.few_placements in
    omega (arith, few, c.len-2.ensures, c.in_ok-after.after.small)

pub returns-clause-ok : goal.returns-clause-ok
returns-clause-ok c =
    let d : Layout = record { grid = c.self.inside.grid; cells = c.self.inside.cells.entries; pieces = c.self.inside.pieces.entries } in
    let gone = subst (λ (o : Option Spec). IsListOf placement_cmp (IsOfPiece (Contains (keys_of d.cells)) c.args.name o) c.in_ok-before.before.items) c.get.ensures.value c.in_ok-before.ensures.ok in
    let come = subst (λ (o : Option Spec). IsListOf placement_cmp (IsOfPiece (Contains (keys_of d.cells)) c.args.name o) c.in_ok-after.after.items) c.as_ref.ensures.value c.in_ok-after.ensures.ok in
    let le = count_part placement_total (IsPlacement d) (λ p. p.name ≡ c.args.name) c.self.inside.placement_count c.in_ok-before.before.items c.self.invariant.counted (piece_listed d c.args.name c.in_ok-before.before.items c.self.invariant.design gone) in
    rw (← c.self.view_is) (piece_recounted d c.args.name None c.args.spec.now c.self.inside.placement_count _ c.in_ok-before.before.items c.in_ok-after.after.items c.self.invariant.design c.self.invariant.counted gone come
    (omega (arith, le, c.len.ensures, c.len-2.ensures)))
