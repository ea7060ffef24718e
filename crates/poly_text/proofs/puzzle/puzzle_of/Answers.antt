use Rattle.serde_json.specs.View.{view}
use Rattle.poly_text.specs.Views.{head_view}
use Rattle.poly_text.proofs.Boards.{none_blocked}
use Rattle.poly_text.proofs.Puzzles.{puzzle_gives}
use Rattle.poly_text.proofs.puzzle.puzzle_of.Goals as goal

pub of_parts-requires-clause-unblocked : goal.of_parts-requires-clause-unblocked
of_parts-requires-clause-unblocked c = rw c.in_ok-cells.ensures.ok (none_blocked (head_view c.in_ok-head.head).rows)

pub returns : goal.returns
returns c =
    let o = c.of_parts.ensures in
    puzzle_gives c.args.line.now (view c.in_ok-value.value) (head_view c.in_ok-head.head) c.in_ok-cells.cells.entries c.in_ok-pieces.pieces.entries c.of_parts.result c.in_ok-value.ensures c.in_ok-head.ensures.head c.in_ok-pieces.ensures.says c.in_ok-cells.ensures.ok o.ok o.few o.many o.why
