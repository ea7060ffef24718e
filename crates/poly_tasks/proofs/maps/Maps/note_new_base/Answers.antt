use Rattle.std.proofs.Common.{arith}
use Rattle.poly_tasks.specs.declared.rows.Span.{Span}
use Rattle.poly_tasks.proofs.Mapping.{within}
use Rattle.poly_tasks.proofs.maps.Maps.note_new_base.Goals as goal

pub returns-clause-ok : goal.returns-clause-ok
returns-clause-ok c =
    let k = c.args.number in
    let s : Span = record { from = k; to = c.max.result } in
    c.in_ok-note_list.ensures.ok k (within s k (omega arith) (omega (arith, c.max.ensures)))

pub returns-in_err-note_list-clause-wider : goal.returns-in_err-note_list-clause-wider
returns-in_err-note_list-clause-wider c = c.note_list.ensures.wider

pub returns-in_err-extend_from_slice-clause-wider : goal.returns-in_err-extend_from_slice-clause-wider
returns-in_err-extend_from_slice-clause-wider c = c.note_list.ensures.wider

pub returns-clause-wider : goal.returns-clause-wider
returns-clause-wider c = c.note_list.ensures.wider
