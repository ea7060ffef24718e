use Rattle.std.proofs.Common.{inl, inr, arith}
use Rattle.poly_design.proofs.Rows.{few_from_list}
use Rattle.poly_design.specs.Layout.{Layout}
use Rattle.poly_design.proofs.design.Design.of_parts.Goals as goal

pub returns-in-Err-clause-many : goal.returns-in-Err-clause-many
returns-in-Err-clause-many c = λ is. elim (c.in-Err.ensures.why c.args.grid) [ inl memory ↦ absurd (cc) | inr many ↦ many.1 ]

pub returns-in-Err-clause-why : goal.returns-in-Err-clause-why
returns-in-Err-clause-why c = elim (c.in-Err.ensures.why c.args.grid) [ inl memory ↦ inr memory | inr many ↦ inl many.0 ]

pub invariant_of-result : goal.invariant_of-result
invariant_of-result c =
    let d : Layout = record { grid = c.args.grid; cells = c.args.cells.entries; pieces = c.args.pieces.entries } in
    let up = c.in-Ok.ensures.ascending in
    record {
      design = record {
        cells_ascend = up.0;
        few_cells = c.requires.few_cells;
        unblocked = c.requires.unblocked;
        pieces_ascend = up.1;
        few_pieces = c.requires.few_pieces;
        of_grid = c.requires.of_grid;
        few_placements = few_from_list d _ (c.in-Ok.ensures.ok c.args.grid) c.in-Ok.ensures.few;
      };
      in_range = c.in-Ok.ensures.in_range;
      counted = record { list = c.in-Ok.list.items; listed = c.in-Ok.ensures.ok c.args.grid; whole = omega (arith, c.len.ensures) };
    }

pub returns-in-Ok-clause-few : goal.returns-in-Ok-clause-few
returns-in-Ok-clause-few c =
    let d : Layout = record { grid = c.args.grid; cells = c.args.cells.entries; pieces = c.args.pieces.entries } in
    λ _. few_from_list d _ (c.in-Ok.ensures.ok c.args.grid) c.in-Ok.ensures.few
