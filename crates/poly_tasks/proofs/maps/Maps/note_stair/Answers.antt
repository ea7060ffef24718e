use Rattle.std.proofs.Common.{ap, arith, length, subst, sym, take, true, ◌∙◌, ◌≡◌, [], get_or}
use Rattle.poly_atom.specs.Atoms.{IsSmall, negated}
use Rattle.poly_atom.proofs.Walks.{small_at}
use Rattle.poly_tasks.specs.Mapped.{in_span}
use Rattle.poly_tasks.specs.declared.rows.Span.{Span}
use Rattle.poly_tasks.proofs.Mapping.{guards_noted, stair_noted, wide_atoms, within}
use Rattle.poly_tasks.proofs.maps.Maps.note_stair.Goals as goal

pub negated-requires : goal.negated-requires
negated-requires c =
    let low = c.requires.own.index_in in
    subst IsSmall (sym c.index-guards-stair.is) (small_at c.guards_of-guards.result.now c.args.stair.now.index c.index-guards-stair.result c.guards_of-guards.ensures.small (omega (arith, low, ap length c.guards_of-guards.ensures.value)))

pub returns-clause-prefix : goal.returns-clause-prefix
returns-clause-prefix c =
    let log = c.args.log.now in
    let s = c.args.stair.now in
    let w : Span = record { from = c.args.number; to = c.max.result } in
    λ n h. wide_atoms c.note_list.new.self c.note.new.self n (take s.index (get_or log s.edition [])) c.note.ensures.wider
    (guards_noted c.args.self.now c.note_list.new.self log c.args.prefix.now s w c.known_count-known.result c.guards_of-guards.result.now c.guards_of-guards.ensures.value
    c.note_list.ensures.wider c.requires.prefix c.known_count-known.ensures.low c.known_count-known.ensures.known c.in_ok-note_list.ensures.ok n h)

pub returns-clause-ok : goal.returns-clause-ok
returns-clause-ok c =
    let log = c.args.log.now in
    let s = c.args.stair.now in
    let k = c.args.number in
    let w : Span = record { from = k; to = c.max.result } in
    let one : Span = record { from = k; to = k } in
    let h : in_span w k ≡ true = within w k (omega arith) (omega (arith, c.max.ensures)) in
    stair_noted c.note.new.self log s k c.negated.result c.index-guards-stair.result c.guards_of-guards.result.now c.guards_of-guards.ensures.value c.requires.own
    (c.negated.ensures ∙ ap negated c.index-guards-stair.is)
    (wide_atoms c.note_list.new.self c.note.new.self k (take s.index (get_or log s.edition [])) c.note.ensures.wider
    (guards_noted c.args.self.now c.note_list.new.self log c.args.prefix.now s w c.known_count-known.result c.guards_of-guards.result.now c.guards_of-guards.ensures.value
    c.note_list.ensures.wider c.requires.prefix c.known_count-known.ensures.low c.known_count-known.ensures.known c.in_ok-note_list.ensures.ok k h))
    (c.in_ok-note.ensures.ok k (within one k (omega arith) (omega arith)))

pub returns-in_err-note_list-clause-wider : goal.returns-in_err-note_list-clause-wider
returns-in_err-note_list-clause-wider c = c.note_list.ensures.wider

pub returns-in_err-note-clause-wider : goal.returns-in_err-note-clause-wider
returns-in_err-note-clause-wider c = λ a n h. c.note.ensures.wider a n (c.note_list.ensures.wider a n h)

pub returns-clause-wider : goal.returns-clause-wider
returns-clause-wider c = λ a n h. c.note.ensures.wider a n (c.note_list.ensures.wider a n h)
