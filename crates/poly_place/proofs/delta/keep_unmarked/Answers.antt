use Rattle.std.proofs.Common.{rules}
use Rattle.std.proofs.lemmas.Fn.{filter_same}
use Rattle.std.specs.Prelude.{false, not, slice_index_or}
use Rattle.poly_place.proofs.delta.keep_unmarked.Goals as goal

pub returns : goal.returns
returns c = filter_same _ (λ n. not (slice_index_or c.args.marks.now n false)) _ (λ x b f' k. search rules) _ _ c.retain.ensures.filtered
