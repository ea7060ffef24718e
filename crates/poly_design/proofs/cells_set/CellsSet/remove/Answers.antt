use Rattle.poly_shape.specs.Order.{cells_total, cells_cmp}
use Rattle.std.proofs.lemmas.List.Quantifiers.{all_pairs_remove}
use Rattle.std.proofs.Common.{◌≡◌, Less}
use Rattle.poly_design.proofs.Entries.{remove_present, remove_at_gap}
use Rattle.poly_design.proofs.Sets.{gap_lacks, takes_none, takes_remove}
use Rattle.poly_design.proofs.cells_set.CellsSet.remove.Goals as goal

pub returns-in-Ok-clause-takes : goal.returns-in-Ok-clause-takes
returns-in-Ok-clause-takes c =
    let found = rw (← c.self.view_is) at c.in-Ok.ensures.found in
    rw (c.remove.ensures.items, ← c.self.view_is) (takes_remove cells_total c.self.inside.list.items c.in-Ok.at c.args.cells.now c.self.invariant found)

pub returns-in-Ok-clause-ascending : goal.returns-in-Ok-clause-ascending
returns-in-Ok-clause-ascending c =
    let found = rw (← c.self.view_is) at c.in-Ok.ensures.found in
    rw c.remove.ensures.items (all_pairs_remove (λ a b. cells_cmp a b ≡ Less) c.self.inside.list.items c.in-Ok.at found.within c.self.invariant)

pub returns-in-Err-clause-takes : goal.returns-in-Err-clause-takes
returns-in-Err-clause-takes c = takes_none cells_total c.args.cells.now c.args.self.now (gap_lacks cells_total c.args.cells.now c.args.self.now c.in-Err._at c.in-Err.ensures.gap)

pub returns-in-Ok-clause-list : goal.returns-in-Ok-clause-list
returns-in-Ok-clause-list c =
    let found = rw (← c.self.view_is) at c.in-Ok.ensures.found in
    rw (c.remove.ensures.items, ← c.self.view_is) (remove_present cells_total c.self.inside.list.items c.in-Ok.at c.args.cells.now c.self.invariant found)

pub returns-in-Err-clause-list : goal.returns-in-Err-clause-list
returns-in-Err-clause-list c = remove_at_gap cells_total c.args.self.now c.in-Err._at c.args.cells.now c.in-Err.ensures.gap
