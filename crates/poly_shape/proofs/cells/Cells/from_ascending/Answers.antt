use Rattle.std.proofs.Common.{◌∷◌, sym, ap, subst, ◌∙◌, length, arith}
use Rattle.std.specs.List.{between}
use Rattle.std.proofs.lemmas.Slice.{first_rest}
use Rattle.poly_grid.specs.Spot.{Spot}
use Rattle.poly_shape.specs.Order.{IsAscending, spot_cmp}
use Rattle.poly_shape.proofs.cells.Cells.from_ascending.Goals as goal

pub joined-requires-clause-ascending : goal.joined-requires-clause-ascending
joined-requires-clause-ascending c =
    let e = first_rest c.args.cells.now c.index-cells-0.result (omega (arith, c.requires.some)) in
    let f = e ∙ ap (λ (v : Spot). v ∷ between 1 (length c.args.cells.now) c.args.cells.now) (sym c.index-cells-0.is) in
    subst (IsAscending spot_cmp) f c.requires.ascending
