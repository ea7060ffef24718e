use Rattle.std.proofs.Common.{List, ap, arith, get_or, length, ltb, refl, subst, sym, ℕ, ◌++◌, ◌+◌, ◌-◌, ◌<◌, ◌∙◌, ◌≡◌}
use Rattle.std.proofs.lemmas.List.{length-append}
use Rattle.std.specs.List.{list_all}
use Rattle.poly_frame.specs.Bits.{has_bit}
use Rattle.poly_frame.specs.FrameItems.{times}
use Rattle.poly_atom.specs.Hopeless.{base}
use Rattle.poly_frame.specs.Matrices.{column_items}
use Rattle.poly_frame.proofs.Ahead.{bits_before, closes_without, last_again, last_row, noted_column, short_column}
use Rattle.poly_frame.proofs.FramePicks.{open_base}
use Rattle.poly_frame.proofs.FrameSteps.{Closes, have_small, own_taken, pick_made, raised_few, step_room, taken_before, taken_past}
use Rattle.poly_frame.proofs.frame.steps.pick_open.Goals as goal

pub append-requires : goal.append-requires
append-requires c =
    let s = c.args.steps.now in
    let K = c.requires.kept in
    omega (arith, s.live.ok.0, step_room c.args.node.now.view.now c.args.node.now.trail.now c.args.node.now.base c.args.node.now.matrix.now c.args.node.now.table.now s.live.items s.have.items s.raised.items s.marks.items K (omega (arith, K.steps, c.requires.few)), c.requires.room.live, c.requires.len)

pub append-requires-2 : goal.append-requires-2
append-requires-2 c =
    let s = c.args.steps.now in
    let n = c.args.node.now in
    let K = c.requires.kept in
    omega (arith, s.raised.ok.0, raised_few n.view.now n.trail.now n.base n.matrix.now n.table.now s.live.items s.have.items s.raised.items s.marks.items K, K.steps, c.requires.few, c.requires.room.raised, ap length c.items_of-indices.ensures, short_column n.view.now n.trail.now n.base n.matrix.now n.table.now s.live.items s.have.items s.raised.items s.marks.items K c.requires.alone c.args.j c.requires.number)

pub raise-requires-clause-small : goal.raise-requires-clause-small
raise-requires-clause-small c = λ b h.
    let s = c.args.steps.now in
    let n = c.args.node.now in
    let K = c.requires.kept in
    omega (arith, ap length c.items_of-indices.ensures, short_column n.view.now n.trail.now n.base n.matrix.now n.table.now s.live.items s.have.items s.raised.items s.marks.items K c.requires.alone c.args.j c.requires.number, have_small n.view.now n.trail.now n.base n.matrix.now n.table.now s.live.items s.have.items s.raised.items s.marks.items K b (omega (arith, h, K.have_len)), K.steps, c.requires.few)

pub returns-clause-kept : goal.returns-clause-kept
returns-clause-kept c =
    let s = c.args.steps.now in
    let v = c.args.node.now.view.now in
    let A = c.args.node.now.trail.now in
    let first = c.args.node.now.base in
    let m = c.args.node.now.matrix.now in
    let t = c.args.node.now.table.now in
    let j = c.args.j in
    let K = c.requires.kept in
    let live0 = s.live.items in
    let live1 = live0 ++ last_row m.width live0 in
    let live2 = c.append.new.onto.items in
    let live3 = c.take_out.new.words.items in
    let is = column_items m.lists m.homes.items j in
    let at : c.len-at.result ≡ length live0 = c.len-at.ensures ∙ s.live.ok.0 in
    let C = last_again m.width live0 K.wide in
    let more = λ (b : ℕ) (l : b < length s.have.items). c.raise.ensures.more b l ∙ ap (λ xs. get_or s.have.items b 0 + times xs b) c.items_of-indices.ensures in
    let closes = closes_without v A first m t live0 s.have.items s.raised.items s.marks.items K c.requires.alone j c.requires.number c.args.row.now c.raise.new.have.items c.requires.row more in
    pick_made v A first m t live0 s.have.items s.raised.items s.marks.items live1 K C (get_or m.numbers.items j 0) c.len-at.result _ (base v A) live2 live3 c.raise.new.have.items c.raise.new.have.items c.append-2.new.onto.items c.push_reserved.new.self.items is
    is is at (c.len.ensures ∙ s.raised.ok.0) (ap (λ n. n - m.width) at) refl refl (open_base v A (get_or m.numbers.items j 0) c.requires.open)
    (c.append-2.ensures.items ∙ ap (λ xs. s.raised.items ++ xs) c.items_of-indices.ensures)
    (noted_column v A first m t live0 s.have.items s.raised.items s.marks.items K c.requires.alone j c.requires.number)
    (short_column v A first m t live0 s.have.items s.raised.items s.marks.items K c.requires.alone j c.requires.number)
    c.push_reserved.ensures.items refl refl refl c.raise.ensures.len more
    (omega (arith, ap length c.append.ensures.items, length-append live0 c.args.row.now, c.requires.len, C.len))
    (λ x l. ap (λ ws. has_bit ws x) c.append.ensures.items ∙ bits_before live0 c.args.row.now x (omega (arith, l, at)) ∙ sym (bits_before live0 (last_row m.width live0) x (omega (arith, l, at))))
    (subst (λ (n : ℕ). Closes m t c.raise.new.have.items is n live1 live2) (sym at) (subst (λ (ws : List ℕ). Closes m t c.raise.new.have.items is (length live0) live1 ws) (sym c.append.ensures.items) closes))
    c.take_out.ensures.len (taken_before live2 live3 c.len-at.result j c.take_out.ensures.bits)
    (own_taken v A first m t live0 s.have.items s.raised.items s.marks.items K (get_or m.numbers.items j 0) j c.len-at.result live2 live3 (c.requires.number, refl) c.take_out.ensures.bits)
    (taken_past live2 live3 c.len-at.result j c.take_out.ensures.bits)

pub overflow_sub-at : goal.overflow_sub-at
overflow_sub-at c = omega (arith, c.requires.kept.wide, c.len-at.ensures, c.args.steps.now.live.ok.0)

pub push_reserved-requires : goal.push_reserved-requires
push_reserved-requires c = omega (arith, c.requires.kept.steps, c.requires.few, c.requires.room.marks, c.args.steps.now.marks.ok.0)

pub items_of-indices-requires-clause-shows : goal.items_of-indices-requires-clause-shows
items_of-indices-requires-clause-shows c = (c.args.node.now.view.now, c.requires.kept.table.matrix.lists)

pub items_of-indices-requires-clause-column : goal.items_of-indices-requires-clause-column
items_of-indices-requires-clause-column c = c.requires.number

pub raise-requires-clause-low : goal.raise-requires-clause-low
raise-requires-clause-low c =
    let s = c.args.steps.now in
    let n = c.args.node.now in
    let K = c.requires.kept in
    let noted = noted_column n.view.now n.trail.now n.base n.matrix.now n.table.now s.live.items s.have.items s.raised.items s.marks.items K c.requires.alone c.args.j c.requires.number in
    ap (λ is. list_all (λ b. ltb b (length s.have.items)) is) c.items_of-indices.ensures ∙ ap (λ u. list_all (λ b. ltb b u) (column_items n.matrix.now.lists n.matrix.now.homes.items c.args.j)) K.have_len ∙ noted.low

pub returns-clause-room : goal.returns-clause-room
returns-clause-room c =
    let r = c.requires.room in
    record {
      live = omega (arith, r.live, c.append.ensures.capacity, c.take_out.ensures.capacity);
      raised = omega (arith, r.raised, c.append-2.ensures.capacity);
      marks = omega (arith, r.marks, c.push_reserved.ensures.capacity);
    }

pub take_out-requires : goal.take_out-requires
take_out-requires c = omega (arith, c.requires.number, c.requires.kept.table.matrix.wide, c.requires.len, c.len-at.ensures, c.args.steps.now.live.ok.0, ap length c.append.ensures.items, length-append c.args.steps.now.live.items c.args.row.now)
