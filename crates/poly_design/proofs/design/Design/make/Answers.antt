use Rattle.std.proofs.Common.{◌≡◌, ◌∙◌, refl, sym, ap, subst}
use Rattle.poly_design.specs.declared.design.Design.TheInside.{Inside}
use Rattle.poly_design.specs.Changes.{changed}
use Rattle.poly_design.specs.Layout.{Layout}
use Rattle.std.specs.List.{All}
use Rattle.std.specs.Map.{keys_of}
use Rattle.poly_design.specs.Limits.{IsCounted, IsDesign, IsInRange}
use Rattle.poly_design.specs.Listed.{IsCount}
use Rattle.poly_design.specs.PlacementOrder.{placement_cmp}
use Rattle.poly_design.specs.Placements.{IsPlacement}
use Rattle.poly_design.proofs.design.Design.make.Goals.{in-Cell+in_ok-put_mode-in-Cell, in-Piece+in_ok-put_spec-in-Piece}
use Rattle.poly_design.proofs.design.Design.make.Goals as goal

abbrev layout_of : Inside → Layout
layout_of i = record { grid = i.grid; cells = i.cells.entries; pieces = i.pieces.entries }

pub invariant_of-self-2 : goal.invariant_of-self-2
invariant_of-self-2 c =
    let after = changed c.args.self.now c.args.change.now in
    let count = c.in_ok-placement_count.placement_count in
    let counted : (d : Layout) → d ≡ after → All IsInRange (keys_of d.cells) → IsCounted d count = λ d is range. record {
      design = subst IsDesign (sym is) c.requires;
      in_range = range;
      counted = subst (λ (l : Layout). IsCount placement_cmp (IsPlacement l) count) (sym is) c.in_ok-placement_count.ensures.ok;
    } in
    elim c.match-change.branch [
      | in-Cell+in_ok-put_mode-in-Cell w ↦
          let put : layout_of c.match-change.self-inside ≡ after =
          ap layout_of w.self-inside-is
          ∙ (λ i. record { grid = c.self.inside.grid; cells = w.in_ok-put_mode-in-Cell.ensures.ok i; pieces = c.self.inside.pieces.entries })
          ∙ (rw (w.in-Cell.is, ← c.self.view_is) refl) in
          counted (layout_of c.match-change.self-inside) put
          (subst (λ (l : Layout). All IsInRange (keys_of l.cells)) (sym (ap layout_of w.self-inside-is)) (w.in_ok-put_mode-in-Cell.ensures.in_range c.self.invariant.in_range))
      | in-Piece+in_ok-put_spec-in-Piece w ↦
          let put : layout_of c.match-change.self-inside ≡ after =
          ap layout_of w.self-inside-is
          ∙ (λ i. record { grid = c.self.inside.grid; cells = c.self.inside.cells.entries; pieces = w.in_ok-put_spec-in-Piece.ensures.ok i })
          ∙ (rw (w.in-Piece.is, ← c.self.view_is) refl) in
          counted (layout_of c.match-change.self-inside) put
          (subst (λ (l : Layout). All IsInRange (keys_of l.cells)) (sym (ap layout_of w.self-inside-is)) c.self.invariant.in_range)
    ]
