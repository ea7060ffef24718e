use Rattle.std.proofs.Common.{◌≤◌, drop, length, [], Result}
use Rattle.poly_grid.specs.declared.refusal.Refusal.{Refusal}
use Rattle.poly_text.specs.Piece.{Pieces, PiecesSay}
use Rattle.poly_text.specs.Views.{views}
use Rattle.poly_text.proofs.PiecesRead.{OfGrid}
use Rattle.poly_text.proofs.puzzle.piece.pieces_of.Given as goal

abbrev pub invariant-loop-value : goal.invariant-loop-value
invariant-loop-value l = record {
  so_far : (r : Result Pieces Refusal) → PiecesSay l.format l.grid (views (drop l.value-index l.values)) l.taken.entries r → PiecesSay l.format l.grid (views l.values) [] r;
  few : length l.taken.entries ≤ l.value-index;
  of_grid : OfGrid l.grid l.taken.entries;
}
