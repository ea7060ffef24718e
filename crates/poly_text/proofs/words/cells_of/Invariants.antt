use Rattle.std.proofs.Common.{◌≡◌, List, map, min, take, drop, length}
use Rattle.poly_grid.specs.Spot.{Spot}
use Rattle.poly_text.specs.Words.{cells_of}
use Rattle.poly_text.proofs.CellWords.{onto}
use Rattle.poly_text.proofs.words.cells_of.Given as goal

abbrev pub invariant-loop-word : goal.invariant-loop-word
invariant-loop-word l = record {
  done : List Spot;
  so_far : onto done (cells_of (map (λ w. w.now) (drop l.word-index l.words))) ≡ cells_of (map (λ w. w.now) l.words);
  kept : take l.count l.room ≡ take (length l.room) done;
  count : l.count ≡ min (length done) (length l.room);
}
