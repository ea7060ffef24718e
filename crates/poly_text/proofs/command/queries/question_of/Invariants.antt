use Rattle.std.proofs.Common.{◌≡◌, List, map, drop}
use Rattle.poly_text.specs.Queries.{Query, query_of}
use Rattle.poly_text.specs.Words.{read_each}
use Rattle.poly_text.proofs.Asking.{Kept}
use Rattle.poly_text.proofs.CellWords.{onto}
use Rattle.poly_text.proofs.command.queries.question_of.Given as goal

abbrev pub invariant-loop-word : goal.invariant-loop-word
invariant-loop-word l = record {
  done : List Query;
  so_far : onto done (read_each query_of (map (λ w. w.now) (drop l.word-index l.words))) ≡ read_each query_of (map (λ w. w.now) l.words);
  kept : Kept done l.has.items l.lacks.items l.covers.items l.are_sets;
}
