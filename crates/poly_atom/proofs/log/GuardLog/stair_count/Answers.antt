use Rattle.std.proofs.Common.{[], ap, length, slice_index_or, sym, ◌∙◌}
use Rattle.poly_atom.proofs.Walks.{length-stairs}
use Rattle.poly_atom.proofs.log.GuardLog.stair_count.Goals as goal

pub returns : goal.returns
returns c = ap length c.guards_of.ensures.value ∙ sym (length-stairs (slice_index_or c.args.self.now c.args.edition []))
