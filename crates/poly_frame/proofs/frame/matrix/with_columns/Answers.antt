use Rattle.std.proofs.Common.{List, ap, arith, get_or, length, refl, subst, sym, ℕ, ◌<◌, ◌∙◌}
use Rattle.poly_tiling.specs.Lists.{distinct}
use Rattle.poly_frame.specs.Matrices.{RowsShow, StandsShow}
use Rattle.poly_frame.proofs.frame.matrix.with_columns.Goals as goal

pub write_rows-requires-clause-wide : goal.write_rows-requires-clause-wide
write_rows-requires-clause-wide c = omega (arith, ap length c.deref.ensures.value, c.width_for.ensures.wide, c.len.ensures, c.args.begun.numbers.ok.0)

pub write_stands-requires-clause-once : goal.write_stands-requires-clause-once
write_stands-requires-clause-once c = ap distinct c.deref-3.ensures.value ∙ c.requires.once

pub write_stands-requires-clause-above : goal.write_stands-requires-clause-above
write_stands-requires-clause-above c = subst (λ (ns : List ℕ). (j : ℕ) → j < length ns → get_or ns j 0 < c.args.size) (sym c.deref-3.ensures.value) c.requires.above

pub returns-clause-made : goal.returns-clause-made
returns-clause-made c =
    let numbers = c.args.begun.numbers in
    let width = c.width_for in (
      record {
        well = c.requires.well;
        once = c.requires.once;
        fewer = c.requires.fewer;
        live = c.requires.live;
        stands = subst (λ (ns : List ℕ). StandsShow ns c.write_stands.new.stands.items) c.deref-3.ensures.value c.in-Ok-write_stands.ensures.value;
        lists = c.requires.lists;
        wide = omega (arith, width.ensures.wide, c.len.ensures, numbers.ok.0);
        narrow = omega (arith, width.ensures.small, c.len.ensures, numbers.ok.0, numbers.ok.1, numbers.small);
        rows = subst (λ (ns : List ℕ). RowsShow c.args.view.now ns width.result c.write_rows.new.rows.items) c.deref.ensures.value c.in-Ok.ensures.value;
        rows_len = c.in-Ok.ensures.len;
      },
      refl,
    )
