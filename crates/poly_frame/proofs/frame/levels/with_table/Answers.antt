use Rattle.std.proofs.Common.{refl}
use Rattle.poly_frame.proofs.frame.levels.with_table.Goals as goal

pub returns : goal.returns
returns c = record { consistent = refl; have = refl; table = c.in_ok-table.ensures.value; why = tt }

pub table_of-requires : goal.table_of-requires
table_of-requires c = c.requires
