use Rattle.std.proofs.lemmas.Slice.Eq.{slice_eq-Decides}
use Rattle.poly_lists.proofs.Exact.{atom_decides}
use Rattle.poly_tasks.proofs.task.is_same_list.Goals as goal

pub returns : goal.returns
returns c = slice_eq-Decides atom_decides c.args.one.now c.args.other.now c.eq.result c.eq.ensures
