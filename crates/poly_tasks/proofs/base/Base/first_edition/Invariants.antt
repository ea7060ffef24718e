use Rattle.std.proofs.Common.{get_or, ℕ, ◌<◌, ◌≤◌}
use Rattle.poly_tasks.specs.declared.excerpt.Excerpt.{Excerpt}
use Rattle.poly_tasks.specs.Meaning.{edition_of}
use Rattle.poly_tasks.proofs.base.Base.first_edition.Given as goal

abbrev pub invariant-loop-excerpt : goal.invariant-loop-excerpt
invariant-loop-excerpt l = record {
  so_far : (k : ℕ) (d : Excerpt) → k < l.excerpt-index → l.edition ≤ edition_of (get_or l.excerpt-items k d);
  low : l.edition ≤ l.fn.end;
}
