use Rattle.std.proofs.Common.{[], slice_index_or, take, ◌++◌, ◌≡◌}
use Rattle.std.specs.List.{filter}
use Rattle.poly_tasks.specs.Judged.{is_harmful}
use Rattle.poly_tasks.specs.Meaning.{excerpts_of}
use Rattle.poly_tasks.proofs.base.Base.append_harmful.Given as goal

abbrev pub invariant-loop-excerpt : goal.invariant-loop-excerpt
invariant-loop-excerpt l =
    l.atoms.items ≡ (l.fn.atoms.items ++ filter (is_harmful l.spots.placements.items) (slice_index_or l.self.lists l.self.index [])) ++ filter (is_harmful l.spots.placements.items) (excerpts_of l.log (take l.excerpt-index l.excerpt-items))
