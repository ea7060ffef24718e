use Rattle.std.proofs.Common.{ap, length, subst, sym, ℕ, ◌∙◌}
use Rattle.poly_frame.specs.FrameSteps.{HasRoom, StepsKeep}
use Rattle.poly_frame.specs.FrameTable.{TableShows}
use Rattle.poly_frame.specs.Matrices.{RowOf, matrix_of}
use Rattle.poly_frame.specs.Open.{open_in}
use Rattle.poly_frame.specs.declared.frame.matrix.Matrix.{Matrix}
use Rattle.poly_frame.proofs.frame.levels.levels_of.Goals as goal

pub columns_of-requires : goal.columns_of-requires
columns_of-requires c = record { part = c.requires.part; len = c.requires.len }

pub start-requires : goal.start-requires
start-requires c =
    let v = c.args.view.now in
    let A = c.args.atoms.now in
    let f = λ (p : ℕ). open_in v A p in
    let m = matrix_of c.in_ok-columns.columns in
    let e = sym c.matrix.ensures in
    record {
      table = subst (λ (x : Matrix). TableShows v A x c.args.counted.table) e (c.requires.table m c.in_ok-columns.ensures.part (λ q l o. c.in_ok-columns.ensures.all f c.requires.row q (c.requires.all q l o) o));
      row_len = c.in_ok-columns.ensures.len ∙ ap (λ (x : Matrix). x.width) e;
      row = subst (λ (x : Matrix). RowOf f x c.in_ok-columns.row.items) e (c.in_ok-columns.ensures.row f c.requires.row);
      have = c.requires.have;
      len = c.requires.have_len;
    }

pub returns : goal.returns
returns c =
    let v = c.args.view.now in
    let A = c.args.atoms.now in
    let steps = c.start.new.steps in
    record {
      consistent = c.requires.consistent;
      steps = subst (λ (m : Matrix). StepsKeep v A (length A) m c.args.counted.table steps) c.matrix.ensures c.in-Ok.ensures.kept;
      room = subst (λ (m : Matrix). HasRoom m steps) c.matrix.ensures c.in-Ok.ensures.room;
      why = tt;
    }
