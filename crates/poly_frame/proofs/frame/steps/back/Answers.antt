use Rattle.std.proofs.Common.{None, ap, arith, drop, eqb, get_or, length, ltb, subst, sym, take, ℕ, ◌||◌, ◌*◌, ◌+◌, ◌-◌, ◌<◌, ◌∙◌, ◌≡◌, ◌≤◌}
use Rattle.std.specs.List.{list_all}
use Rattle.std.proofs.lemmas.Bool.{ne_eqb}
use Rattle.std.proofs.lemmas.List.{get_or_read, length-take, take_rest}
use Rattle.poly_frame.specs.Bits.{has_bit}
use Rattle.poly_frame.specs.FrameItems.{times}
use Rattle.poly_frame.specs.FrameSteps.{Kept, clears}
use Rattle.poly_frame.specs.declared.frame.steps.Mark.{Mark}
use Rattle.poly_frame.proofs.Words.{take_bits}
use Rattle.poly_frame.proofs.FrameSteps.{back_column, back_enough, back_low, back_room, kept_as, kept_back, mark_else, or_none, same_in_row}
use Rattle.poly_frame.proofs.frame.steps.back.Goals as goal

pub lower_and_note-requires-clause-low : goal.lower_and_note-requires-clause-low
lower_and_note-requires-clause-low c =
    let s = c.args.steps.now in
    let v = c.args.node.now.view.now in
    let A = c.args.node.now.trail.now in
    let first = c.args.node.now.base in
    let matrix = c.args.node.now.matrix.now in
    let t = c.args.node.now.table.now in
    let K = c.requires.kept in
    let n = length A - 1 - first in
    let next : n + 1 ≡ length s.marks.items = omega (arith, K.steps, c.requires.some) in
    let m = c.index-mark.result.now in
    let is : m ≡ get_or s.marks.items n (mark_else (length s.raised.items) (length s.live.items - matrix.width)) = get_or_read s.marks.items n m (omega (arith, next)) c.index-mark.ensures (mark_else (length s.raised.items) (length s.live.items - matrix.width)) in
    let d = take_rest c.deref-2.result.now m.raised ∙ ap (λ xs. drop m.raised xs) c.deref-2.ensures.value in
    ap (λ xs. list_all (λ b. ltb b (length s.have.items)) xs) d ∙ back_low v A first matrix t s.live.items s.have.items s.raised.items s.marks.items K n next m is

pub lower_and_note-requires-clause-enough : goal.lower_and_note-requires-clause-enough
lower_and_note-requires-clause-enough c = λ b h.
    let s = c.args.steps.now in
    let v = c.args.node.now.view.now in
    let A = c.args.node.now.trail.now in
    let first = c.args.node.now.base in
    let matrix = c.args.node.now.matrix.now in
    let t = c.args.node.now.table.now in
    let K = c.requires.kept in
    let n = length A - 1 - first in
    let next : n + 1 ≡ length s.marks.items = omega (arith, K.steps, c.requires.some) in
    let m = c.index-mark.result.now in
    let is : m ≡ get_or s.marks.items n (mark_else (length s.raised.items) (length s.live.items - matrix.width)) = get_or_read s.marks.items n m (omega (arith, next)) c.index-mark.ensures (mark_else (length s.raised.items) (length s.live.items - matrix.width)) in
    let d = take_rest c.deref-2.result.now m.raised ∙ ap (λ xs. drop m.raised xs) c.deref-2.ensures.value in
    omega (arith, ap (λ xs. times xs b) d, back_enough v A first matrix t s.live.items s.have.items s.raised.items s.marks.items K n next m is b h)

pub overflow_add-mark : goal.overflow_add-mark
overflow_add-mark c =
    let s = c.args.steps.now in
    let v = c.args.node.now.view.now in
    let A = c.args.node.now.trail.now in
    let first = c.args.node.now.base in
    let matrix = c.args.node.now.matrix.now in
    let t = c.args.node.now.table.now in
    let K = c.requires.kept in
    let n = length A - 1 - first in
    let next : n + 1 ≡ length s.marks.items = omega (arith, K.steps, c.requires.some) in
    let m = c.index-mark.result.now in
    let is : m ≡ get_or s.marks.items n (mark_else (length s.raised.items) (length s.live.items - matrix.width)) = get_or_read s.marks.items n m (omega (arith, next)) c.index-mark.ensures (mark_else (length s.raised.items) (length s.live.items - matrix.width)) in
    omega (arith, back_room v A first matrix t s.live.items s.have.items s.raised.items s.marks.items K n next m is, s.live.ok.0, s.live.small)

pub put_in-requires : goal.put_in-requires
put_in-requires c =
    let s = c.args.steps.now in
    let v = c.args.node.now.view.now in
    let A = c.args.node.now.trail.now in
    let first = c.args.node.now.base in
    let matrix = c.args.node.now.matrix.now in
    let t = c.args.node.now.table.now in
    let K = c.requires.kept in
    let n = length A - 1 - first in
    let next : n + 1 ≡ length s.marks.items = omega (arith, K.steps, c.requires.some) in
    let m = c.index-mark.result.now in
    let is : m ≡ get_or s.marks.items n (mark_else (length s.raised.items) (length s.live.items - matrix.width)) = get_or_read s.marks.items n m (omega (arith, next)) c.index-mark.ensures (mark_else (length s.raised.items) (length s.live.items - matrix.width)) in
    let room = back_room v A first matrix t s.live.items s.have.items s.raised.items s.marks.items K n next m is in
    let size : length c.truncate-3.new.self.items ≡ m.row + matrix.width = ap length c.truncate-3.ensures.items ∙ length-take (m.row + matrix.width) s.live.items ∙ omega (arith, room) in
    let low = back_column v A first matrix t s.live.items s.have.items s.raised.items s.marks.items K n next m is c.in-Some.j c.in-Some.is in
    omega (arith, size, low)

pub returns-in-Some-clause-kept : goal.returns-in-Some-clause-kept
returns-in-Some-clause-kept c =
    let s = c.args.steps.now in
    let v = c.args.node.now.view.now in
    let A = c.args.node.now.trail.now in
    let first = c.args.node.now.base in
    let matrix = c.args.node.now.matrix.now in
    let t = c.args.node.now.table.now in
    let K = c.requires.kept in
    let n = length A - 1 - first in
    let next : n + 1 ≡ length s.marks.items = omega (arith, K.steps, c.requires.some) in
    let m = c.index-mark.result.now in
    let is : m ≡ get_or s.marks.items n (mark_else (length s.raised.items) (length s.live.items - matrix.width)) = get_or_read s.marks.items n m (omega (arith, next)) c.index-mark.ensures (mark_else (length s.raised.items) (length s.live.items - matrix.width)) in
    let d = take_rest c.deref-2.result.now m.raised ∙ ap (λ xs. drop m.raised xs) c.deref-2.ensures.value in
    let last : first + n ≡ length A - 1 = omega (arith, K.low, c.requires.some) in
    let room = back_room v A first matrix t s.live.items s.have.items s.raised.items s.marks.items K n next m is in
    let cut : c.truncate-3.new.self.items ≡ take (m.row + matrix.width) s.live.items = c.truncate-3.ensures.items in
    let size : length c.truncate-3.new.self.items ≡ m.row + matrix.width = ap length cut ∙ length-take (m.row + matrix.width) s.live.items ∙ omega (arith, room) in
    let bit : (x : ℕ) → x < 64 * (m.row + matrix.width) → has_bit c.truncate-3.new.self.items x ≡ has_bit s.live.items x = λ x h. ap (λ ws. has_bit ws x) cut ∙ take_bits s.live.items (m.row + matrix.width) x h in
    subst (λ (i : ℕ). Kept v (take i A) first matrix t c.put_in.new.words.items c.lower_and_note.new.have.items c.truncate-2.new.self.items c.truncate.new.self.items) last
    (kept_as v (take (first + n) A) first matrix t c.put_in.new.words.items c.lower_and_note.new.have.items (take m.raised s.raised.items) (take n s.marks.items) c.truncate-2.new.self.items c.truncate.new.self.items c.truncate-2.ensures.items c.truncate.ensures.items
    (kept_back v A first matrix t s.live.items s.have.items s.raised.items s.marks.items K n next m is c.put_in.new.words.items c.lower_and_note.new.have.items (c.put_in.ensures.len ∙ size)
    (λ x h. c.put_in.ensures.bits x ∙ ap (λ b. has_bit c.truncate-3.new.self.items x || b) (ne_eqb (64 * m.row + c.in-Some.j) x (λ e. absurd (omega (arith, e, h)))) ∙ or_none (has_bit c.truncate-3.new.self.items x) ∙ bit x (omega (arith, h)))
    (λ j h. c.put_in.ensures.bits (64 * m.row + j) ∙ ap (λ b. has_bit c.truncate-3.new.self.items (64 * m.row + j) || b) (same_in_row m.row c.in-Some.j j) ∙ ap (λ b. b || eqb c.in-Some.j j) (bit (64 * m.row + j) (omega (arith, h)))
    ∙ ap (λ o. has_bit s.live.items (64 * m.row + j) || clears o j) (sym c.in-Some.is))
    c.lower_and_note.ensures.len (λ b h. ap (λ xs. get_or c.lower_and_note.new.have.items b 0 + times xs b) (sym d) ∙ c.lower_and_note.ensures.less b h)))

pub returns-in_default-clause-kept : goal.returns-in_default-clause-kept
returns-in_default-clause-kept c =
    let s = c.args.steps.now in
    let v = c.args.node.now.view.now in
    let A = c.args.node.now.trail.now in
    let first = c.args.node.now.base in
    let matrix = c.args.node.now.matrix.now in
    let t = c.args.node.now.table.now in
    let K = c.requires.kept in
    let n = length A - 1 - first in
    let next : n + 1 ≡ length s.marks.items = omega (arith, K.steps, c.requires.some) in
    let m = c.index-mark.result.now in
    let is : m ≡ get_or s.marks.items n (mark_else (length s.raised.items) (length s.live.items - matrix.width)) = get_or_read s.marks.items n m (omega (arith, next)) c.index-mark.ensures (mark_else (length s.raised.items) (length s.live.items - matrix.width)) in
    let d = take_rest c.deref-2.result.now m.raised ∙ ap (λ xs. drop m.raised xs) c.deref-2.ensures.value in
    let last : first + n ≡ length A - 1 = omega (arith, K.low, c.requires.some) in
    let room = back_room v A first matrix t s.live.items s.have.items s.raised.items s.marks.items K n next m is in
    let cut : c.truncate-3.new.self.items ≡ take (m.row + matrix.width) s.live.items = c.truncate-3.ensures.items in
    let size : length c.truncate-3.new.self.items ≡ m.row + matrix.width = ap length cut ∙ length-take (m.row + matrix.width) s.live.items ∙ omega (arith, room) in
    let bit : (x : ℕ) → x < 64 * (m.row + matrix.width) → has_bit c.truncate-3.new.self.items x ≡ has_bit s.live.items x = λ x h. ap (λ ws. has_bit ws x) cut ∙ take_bits s.live.items (m.row + matrix.width) x h in
    subst (λ (i : ℕ). Kept v (take i A) first matrix t c.truncate-3.new.self.items c.lower_and_note.new.have.items c.truncate-2.new.self.items c.truncate.new.self.items) last
    (kept_as v (take (first + n) A) first matrix t c.truncate-3.new.self.items c.lower_and_note.new.have.items (take m.raised s.raised.items) (take n s.marks.items) c.truncate-2.new.self.items c.truncate.new.self.items c.truncate-2.ensures.items c.truncate.ensures.items
    (kept_back v A first matrix t s.live.items s.have.items s.raised.items s.marks.items K n next m is c.truncate-3.new.self.items c.lower_and_note.new.have.items size
    (λ x h. bit x (omega (arith, h)))
    (λ j h. bit (64 * m.row + j) (omega (arith, h)) ∙ sym (or_none (has_bit s.live.items (64 * m.row + j))) ∙ ap (λ o. has_bit s.live.items (64 * m.row + j) || clears o j) (sym c.in_default.is))
    c.lower_and_note.ensures.len (λ b h. ap (λ xs. get_or c.lower_and_note.new.have.items b 0 + times xs b) (sym d) ∙ c.lower_and_note.ensures.less b h)))

pub returns-in-Some-clause-room : goal.returns-in-Some-clause-room
returns-in-Some-clause-room c =
    let r = c.requires.room in
    record {
      live = omega (arith, r.live, c.truncate-3.ensures.capacity, c.put_in.ensures.capacity);
      raised = omega (arith, r.raised, c.truncate-2.ensures.capacity);
      marks = omega (arith, r.marks, c.truncate.ensures.capacity);
    }

pub returns-in_default-clause-room : goal.returns-in_default-clause-room
returns-in_default-clause-room c =
    let r = c.requires.room in
    record {
      live = omega (arith, r.live, c.truncate-3.ensures.capacity);
      raised = omega (arith, r.raised, c.truncate-2.ensures.capacity);
      marks = omega (arith, r.marks, c.truncate.ensures.capacity);
    }

pub slice_bounds-lower_and_note-count : goal.slice_bounds-lower_and_note-count
slice_bounds-lower_and_note-count c =
    let s = c.args.steps.now in
    let K = c.requires.kept in
    let n = length c.args.node.now.trail.now - 1 - c.args.node.now.base in
    let m = c.index-mark.result.now in
    let low : n ≤ length s.marks.items = omega (arith, K.steps, c.requires.some) in
    let is = get_or_read s.marks.items n m (omega (arith, K.steps, c.requires.some)) c.index-mark.ensures (record { raised = length s.raised.items; row = 0; cleared = None }) in
    omega (arith, (K.levels n low).begun, ap (λ (x : Mark). x.raised) is, ap length c.deref-2.ensures.value)

pub slice_bounds-lower_and_note-start : goal.slice_bounds-lower_and_note-start
slice_bounds-lower_and_note-start c =
    let s = c.args.steps.now in
    let K = c.requires.kept in
    let n = length c.args.node.now.trail.now - 1 - c.args.node.now.base in
    let m = c.index-mark.result.now in
    let low : n ≤ length s.marks.items = omega (arith, K.steps, c.requires.some) in
    let is = get_or_read s.marks.items n m (omega (arith, K.steps, c.requires.some)) c.index-mark.ensures (record { raised = length s.raised.items; row = 0; cleared = None }) in
    omega (arith, (K.levels n low).begun, ap (λ (x : Mark). x.raised) is, ap length c.deref-2.ensures.value)

to_itself : (n : ℕ) → n ≤ n
to_itself n = omega arith

pub slice_bounds-lower_and_note-end : goal.slice_bounds-lower_and_note-end
slice_bounds-lower_and_note-end c = to_itself (length c.deref-2.result.now)

pub overflow_sub-n : goal.overflow_sub-n
overflow_sub-n c = omega (arith, c.requires.some)

pub overflow_sub-n-2 : goal.overflow_sub-n-2
overflow_sub-n-2 c = omega (arith, c.requires.some)

pub index-mark-requires : goal.index-mark-requires
index-mark-requires c = omega (arith, c.requires.kept.steps, c.requires.some)
