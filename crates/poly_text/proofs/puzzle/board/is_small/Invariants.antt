use Rattle.std.proofs.Common.{◌≡◌, ◌≤◌, take}
use Rattle.std.specs.Prelude.{count_by, sum_by}
use Rattle.serde_json.specs.View.{view}
use Rattle.poly_text.specs.Board.{is_open}
use Rattle.poly_text.specs.Json as json
use Rattle.poly_text.proofs.puzzle.board.is_small.Given as goal

abbrev pub invariant-loop-row : goal.invariant-loop-row
invariant-loop-row l = record {
  small : l.count ≤ 256;
  counted : l.count ≡ sum_by (λ v. count_by is_open (json.text (view v))) (take l.row-index l.rows);
}
