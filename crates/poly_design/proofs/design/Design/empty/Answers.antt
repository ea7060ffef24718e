use Rattle.std.proofs.Common.{refl, arith}
use Rattle.poly_design.proofs.Sets.{lacks_nil}
use Rattle.poly_design.proofs.Rows.{few_without_pieces}
use Rattle.poly_design.proofs.Outside.{count_none}
use Rattle.poly_design.proofs.design.Design.empty.Goals as goal

pub invariant_of-result : goal.invariant_of-result
invariant_of-result c = rw (c.new.ensures.empty, c.new-2.ensures.empty) (record {
  design = record {
    cells_ascend = λ i j d lt le. absurd (omega arith);
    few_cells = omega arith;
    unblocked = λ v m h. absurd (lacks_nil (v, m) h);
    pieces_ascend = λ i j d lt le. absurd (omega arith);
    few_pieces = omega arith;
    of_grid = λ n s h. absurd (lacks_nil (n, s) h);
    few_placements = few_without_pieces _ refl;
  };
  in_range = λ i d lt. absurd (omega arith);
  counted = count_none _ refl;
})
