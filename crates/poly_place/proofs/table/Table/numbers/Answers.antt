use Rattle.std.proofs.Common.{List, subst, sym, ℕ}
use Rattle.poly_tiling.specs.Puzzle.{View}
use Rattle.poly_place.specs.Index.{AreNumbersWith, row_in}
use Rattle.poly_place.proofs.Rows.{rows_up}
use Rattle.poly_place.proofs.table.Table.numbers.Goals as goal

pub numbers-requires : goal.numbers-requires
numbers-requires c = rows_up c.self.inside.index.rows.items c.self.inside.numbered.bounds.items c.self.invariant.index.items c.self.invariant.well.items_up

pub returns : goal.returns
returns c =
    let i = c.args.item.now in
    subst (λ (ns : List ℕ). AreNumbersWith c.args.self.now i ns) (sym c.numbers.ensures)
    (subst (λ (v : View). AreNumbersWith v i (row_in c.self.inside.index.rows.items i)) c.self.view_is (c.self.invariant.index.numbers i))
