use Rattle.poly_design.specs.declared.edit.Edit.TheVariants as edit
use Rattle.poly_design.proofs.Early.{refuses_early}
use Rattle.poly_design.proofs.design.Design.check.Goals as goal

pub returns-in-Add-clause-why : goal.returns-in-Add-clause-why
returns-in-Add-clause-why c = rw c.in-Add.is c.check_add.ensures.why

pub returns-in-Mirror-clause-why : goal.returns-in-Mirror-clause-why
returns-in-Mirror-clause-why c = rw c.in-Mirror.is c.check_mirror.ensures.why

pub returns-in-Cell-clause-why : goal.returns-in-Cell-clause-why
returns-in-Cell-clause-why c = rw c.in-Cell.is c.check_cell.ensures.why

pub returns-in-Allow-clause-why : goal.returns-in-Allow-clause-why
returns-in-Allow-clause-why c = rw c.in-Allow.is c.check_allow.ensures.why

pub returns-in-Add-clause-early : goal.returns-in-Add-clause-early
returns-in-Add-clause-early c = rw c.in-Add.is (refuses_early c.args.self.now (edit.Add c.in-Add.name c.in-Add.shape c.in-Add.need c.in-Add.mirror) c.check_add.result c.check_add.ensures.ok c.check_add.ensures.why c.check_add.ensures.memory)

pub returns-in-Drop-clause-early : goal.returns-in-Drop-clause-early
returns-in-Drop-clause-early c = rw c.in-Drop.is (refuses_early c.args.self.now (edit.Drop c.in-Drop.name) c.check_drop.result c.check_drop.ensures.ok c.check_drop.ensures.why c.check_drop.ensures.memory)

pub returns-in-Need-clause-early : goal.returns-in-Need-clause-early
returns-in-Need-clause-early c = rw c.in-Need.is (refuses_early c.args.self.now (edit.Need c.in-Need.name c.in-Need.need) c.check_need.result c.check_need.ensures.ok c.check_need.ensures.why c.check_need.ensures.memory)

pub returns-in-Copies-clause-early : goal.returns-in-Copies-clause-early
returns-in-Copies-clause-early c = rw c.in-Copies.is (refuses_early c.args.self.now (edit.Copies c.in-Copies.name c.in-Copies.copies) c.check_copies.result c.check_copies.ensures.ok c.check_copies.ensures.why c.check_copies.ensures.memory)

pub returns-in-Mirror-clause-early : goal.returns-in-Mirror-clause-early
returns-in-Mirror-clause-early c = rw c.in-Mirror.is (refuses_early c.args.self.now (edit.Mirror c.in-Mirror.name c.in-Mirror.mirror) c.check_mirror.result c.check_mirror.ensures.ok c.check_mirror.ensures.why c.check_mirror.ensures.memory)

pub returns-in-Cell-clause-early : goal.returns-in-Cell-clause-early
returns-in-Cell-clause-early c = rw c.in-Cell.is (refuses_early c.args.self.now (edit.Cell c.in-Cell.cell c.in-Cell.mode) c.check_cell.result c.check_cell.ensures.ok c.check_cell.ensures.why c.check_cell.ensures.memory)

pub returns-in-Pin-clause-early : goal.returns-in-Pin-clause-early
returns-in-Pin-clause-early c = rw c.in-Pin.is (refuses_early c.args.self.now (edit.Pin c.in-Pin.name c.in-Pin.cells) c.check_pin.result c.check_pin.ensures.ok c.check_pin.ensures.why c.check_pin.ensures.memory)

pub returns-in-Unpin-clause-early : goal.returns-in-Unpin-clause-early
returns-in-Unpin-clause-early c = rw c.in-Unpin.is (refuses_early c.args.self.now (edit.Unpin c.in-Unpin.name) c.check_unpin.result c.check_unpin.ensures.ok c.check_unpin.ensures.why c.check_unpin.ensures.memory)

pub returns-in-Forbid-clause-early : goal.returns-in-Forbid-clause-early
returns-in-Forbid-clause-early c = rw c.in-Forbid.is (refuses_early c.args.self.now (edit.Forbid c.in-Forbid.name c.in-Forbid.cells) c.check_forbid.result c.check_forbid.ensures.ok c.check_forbid.ensures.why c.check_forbid.ensures.memory)

pub returns-in-Allow-clause-early : goal.returns-in-Allow-clause-early
returns-in-Allow-clause-early c = rw c.in-Allow.is (refuses_early c.args.self.now (edit.Allow c.in-Allow.name c.in-Allow.cells) c.check_allow.result c.check_allow.ensures.ok c.check_allow.ensures.why c.check_allow.ensures.memory)
