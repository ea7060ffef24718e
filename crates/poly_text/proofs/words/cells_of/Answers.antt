use Rattle.std.proofs.Common.{◌++◌, ◌∷◌, [], arith, rules, take, sym, ◌∙◌, ap, length-append}
use Rattle.poly_text.specs.Words.{cell_of}
use Rattle.poly_text.proofs.CellWords.{each_step, each_stop, each_end, kept_more, kept_same}
use Rattle.poly_text.proofs.words.cells_of.Goals as goal
use Rattle.poly_text.proofs.words.cells_of.Goals.{then-count-room, else-count-room}

pub loop-word-preserved : goal.loop-word-preserved
loop-word-preserved c =
    let i = c.loop-word.invariant in
    let cell = c.in_ok-cell.cell in
    let step = each_step cell_of c.args.words.now c.loop-word.word-index _ i.done cell _ c.loop-word-test.true (sym c.cell_of.ensures ∙ c.in_ok-cell.was) i.so_far in
    let more = length-append i.done (cell ∷ []) in
    elim c.if-count-room.branch [
      | then-count-room w ↦ record {
        done = i.done ++ cell ∷ [];
        so_far = step;
        kept = rw (w.count-is) (kept_more c.loop-word.room c.if-count-room.room i.done c.loop-word.count cell w.if-count-room.true w.room-is c.if-count-room.auto.room i.count i.kept);
        count = omega (arith, w.count-is, w.if-count-room.true, c.if-count-room.auto.room, i.count, more);
      }
      | else-count-room w ↦ record {
        done = i.done ++ cell ∷ [];
        so_far = step;
        kept = rw (w.count-is, w.room-is) (kept_same c.loop-word.room i.done c.loop-word.count cell w.if-count-room.false i.count i.kept);
        count = omega (arith, w.count-is, w.if-count-room.false, c.if-count-room.auto.room, i.count, more);
      }
    ]

pub returns-in_err-cell-clause-refused : goal.returns-in_err-cell-clause-refused
returns-in_err-cell-clause-refused c =
    let total = each_stop cell_of c.args.words.now c.loop-word.word-index _ c.loop-word.invariant.done c.in_err-cell.field-0.0 _ c.loop-word-test.true (sym c.cell_of.ensures ∙ c.in_err-cell.was) c.loop-word.invariant.so_far in
    search (rules, total)

pub returns : goal.returns
returns c =
    let i = c.loop-word.invariant in
    record {
      read = (i.done, each_end cell_of c.args.words.now c.loop-word.word-index i.done _ c.loop-word-test.false i.so_far, i.kept ∙ ap (λ k. take k i.done) c.loop-word.auto.room);
      within = omega (arith, i.count);
      refused = tt;
    }
