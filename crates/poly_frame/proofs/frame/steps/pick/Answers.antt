use Rattle.std.proofs.Common.{IfSome, List, MatchOption, None, Option, Some, ap, arith, drop, eqb, false, get_or, length, ltb, not, refl, sym, take, true, vec_len, ℕ, ◌&&◌, ◌*◌, ◌+◌, ◌++◌, ◌-◌, ◌/◌, ◌<◌, ◌∙◌, ◌≡◌, ◌≤◌}
use Rattle.std.specs.List.{list_all}
use Rattle.std.proofs.lemmas.List.{length-append}
use Rattle.poly_tiling.specs.Lists.{mem}
use Rattle.poly_tiling.specs.Puzzle.{View}
use Rattle.poly_atom.specs.declared.atom.Atom.{Atom}
use Rattle.poly_frame.specs.Bits.{has_bit}
use Rattle.poly_frame.specs.FrameSteps.{Kept}
use Rattle.poly_frame.specs.declared.frame.matrix.Matrix.{Matrix}
use Rattle.poly_frame.specs.declared.frame.steps.Mark.{Mark}
use Rattle.poly_frame.specs.declared.frame.table.Table.{Table}
use Rattle.poly_frame.proofs.FrameSteps.{added, copied_from, have_small, kept_as, own_none, own_taken, pick_again, pick_made, raised_few, step_room, taken_before, taken_past}
use Rattle.poly_frame.proofs.frame.steps.pick.Goals as goal

pub copy_last-requires-clause-room : goal.copy_last-requires-clause-room
copy_last-requires-clause-room c =
    let s = c.args.steps.now in
    let K = c.requires.kept in
    omega (arith, s.live.ok.0, step_room c.args.node.now.view.now c.args.node.now.trail.now c.args.node.now.base c.args.node.now.matrix.now c.args.node.now.table.now s.live.items s.have.items s.raised.items s.marks.items K (omega (arith, K.steps, c.requires.few)), c.requires.room.live)

pub note_number-requires-clause-room : goal.note_number-requires-clause-room
note_number-requires-clause-room c =
    let s = c.args.steps.now in
    let K = c.requires.kept in
    omega (arith, s.raised.ok.0, raised_few c.args.node.now.view.now c.args.node.now.trail.now c.args.node.now.base c.args.node.now.matrix.now c.args.node.now.table.now s.live.items s.have.items s.raised.items s.marks.items K, K.steps, c.requires.few, c.requires.room.raised)

pub raise_and_note-requires-clause-small : goal.raise_and_note-requires-clause-small
raise_and_note-requires-clause-small c = λ b h.
    let s = c.args.steps.now in
    let K = c.requires.kept in
    let indices = c.note_number.ensures.indices in
    let mk : c.len-mark.result ≡ length s.raised.items = c.len-mark.ensures ∙ s.raised.ok.0 in
    let all : c.deref-2.result.now ≡ s.raised.items ++ indices.0 = c.deref-2.ensures.value ∙ indices.1 in
    let few : length indices.0 ≤ 17 = omega (arith, c.note_number.ensures.len, s.raised.ok.0, c.note_number.new.noted.ok.0, ap length indices.1, length-append s.raised.items indices.0) in
    omega (arith, ap length (added s.raised.items indices.0 c.deref-2.result.now c.len-mark.result all mk), few, have_small c.args.node.now.view.now c.args.node.now.trail.now c.args.node.now.base c.args.node.now.matrix.now c.args.node.now.table.now s.live.items s.have.items s.raised.items s.marks.items K b (omega (arith, K.have_len)), K.steps, c.requires.few)

pub returns-then-is_member-clause-kept : goal.returns-then-is_member-clause-kept
returns-then-is_member-clause-kept c =
    let s = c.args.steps.now in
    let matrix = c.args.node.now.matrix.now in
    let t = c.args.node.now.table.now in
    let v = c.args.node.now.view.now in
    let A = c.args.node.now.trail.now in
    let K = c.requires.kept in
    let live1 = c.copy_last.new.words.items in
    let C = copied_from matrix.width (vec_len s.live) s.live.items live1 s.live.ok.0 (sym c.copy_last.new.words.ok.0 ∙ c.copy_last.ensures.len) c.copy_last.ensures.before c.copy_last.ensures.row in
    let at : c.len-at.result ≡ length s.live.items = c.len-at.ensures ∙ s.live.ok.0 in
    let mk : c.len-mark.result ≡ length s.raised.items = c.len-mark.ensures ∙ s.raised.ok.0 in
    kept_as v _ c.args.node.now.base matrix t live1 s.have.items s.raised.items _ s.raised.items c.push_reserved.new.self.items refl c.push_reserved.ensures.items
    (pick_again v A c.args.node.now.base matrix t s.live.items s.have.items s.raised.items s.marks.items live1 K C c.args.number _ (ap (λ xs. mem xs c.args.number) (sym c.requires.members) ∙ sym c.is_member.ensures ∙ c.if-is_member.true) mk (ap (λ n. n - matrix.width) at) refl)

-- without the bit of the column, if there is a column, the row at word `at` keeps the bits before it, and loses its number alone
low_column : (column : Option ℕ) (at width : ℕ) (ns : List ℕ) (p : ℕ) (live : List ℕ) → length ns ≤ 64 * width → at + width ≤ length live → MatchOption column (mem ns p ≡ false) (λ i. (i < length ns) × (get_or ns i 0 ≡ p)) → IfSome column (λ i. at + i / 64 < length live)
low_column None at width ns p live wide long m = tt
low_column (Some i) at width ns p live wide long m = omega (arith, m.0, wide, long)

before_row : (column : Option ℕ) (live2 live3 : List ℕ) (at : ℕ) → MatchOption column (live3 ≡ live2) (λ i. (x : ℕ) → has_bit live3 x ≡ (has_bit live2 x && not (eqb (64 * at + i) x))) → (x : ℕ) → x < 64 * at → has_bit live3 x ≡ has_bit live2 x
before_row None live2 live3 at w x h = ap (λ ws. has_bit ws x) w
before_row (Some i) live2 live3 at w x h = taken_before live2 live3 at i w x h

past_row : (column : Option ℕ) (live2 live3 : List ℕ) (at : ℕ) → MatchOption column (live3 ≡ live2) (λ i. (x : ℕ) → has_bit live3 x ≡ (has_bit live2 x && not (eqb (64 * at + i) x))) → (j : ℕ) → has_bit live2 (64 * at + j) ≡ false → has_bit live3 (64 * at + j) ≡ false
past_row None live2 live3 at w j e = ap (λ ws. has_bit ws (64 * at + j)) w ∙ e
past_row (Some i) live2 live3 at w j e = taken_past live2 live3 at i w j e

own_row : (v : View) (A : List Atom) (first : ℕ) (matrix : Matrix) (t : Table) (live have raised : List ℕ) (marks : List Mark) → Kept v A first matrix t live have raised marks → (p at : ℕ) (live2 live3 : List ℕ) (column : Option ℕ) →
    MatchOption column (mem matrix.numbers.items p ≡ false) (λ i. (i < length matrix.numbers.items) × (get_or matrix.numbers.items i 0 ≡ p)) →
    MatchOption column (live3 ≡ live2) (λ i. (x : ℕ) → has_bit live3 x ≡ (has_bit live2 x && not (eqb (64 * at + i) x))) →
    (j : ℕ) → j < length matrix.numbers.items → has_bit live3 (64 * at + j) ≡ (has_bit live2 (64 * at + j) && not (eqb p (get_or matrix.numbers.items j 0)))
own_row v A first matrix t live have raised marks K p at live2 live3 None m w j h = ap (λ ws. has_bit ws (64 * at + j)) w ∙ own_none matrix.numbers.items p at live2 m j h
own_row v A first matrix t live have raised marks K p at live2 live3 (Some i) m w j h = own_taken v A first matrix t live have raised marks K p i at live2 live3 m w j h

pub close_column-requires : goal.close_column-requires
close_column-requires c =
    let matrix = c.args.node.now.matrix.now in
    let K = c.requires.kept in
    let s = c.args.steps.now in
    low_column c.column_of-column.result c.len-at.result matrix.width matrix.numbers.items c.args.number c.close.new.live.items K.table.matrix.wide (omega (arith, c.close.ensures.len, c.copy_last.new.words.ok.0, c.copy_last.ensures.len, c.len-at.ensures)) c.column_of-column.ensures

pub returns-clause-kept : goal.returns-clause-kept
returns-clause-kept c =
    let s = c.args.steps.now in
    let matrix = c.args.node.now.matrix.now in
    let t = c.args.node.now.table.now in
    let v = c.args.node.now.view.now in
    let A = c.args.node.now.trail.now in
    let K = c.requires.kept in
    let live1 = c.copy_last.new.words.items in
    let C = copied_from matrix.width (vec_len s.live) s.live.items live1 s.live.ok.0 (sym c.copy_last.new.words.ok.0 ∙ c.copy_last.ensures.len) c.copy_last.ensures.before c.copy_last.ensures.row in
    let at : c.len-at.result ≡ length s.live.items = c.len-at.ensures ∙ s.live.ok.0 in
    let mk : c.len-mark.result ≡ length s.raised.items = c.len-mark.ensures ∙ s.raised.ok.0 in
    let indices = c.note_number.ensures.indices in
    let all3 : c.deref-2.result.now ≡ s.raised.items ++ indices.0 = c.deref-2.ensures.value ∙ indices.1 in
    let all5 : c.deref-4.result.now ≡ s.raised.items ++ indices.0 = c.deref-4.ensures.value ∙ indices.1 in
    let few : length indices.0 ≤ 17 = omega (arith, c.note_number.ensures.len, s.raised.ok.0, c.note_number.new.noted.ok.0, ap length indices.1, length-append s.raised.items indices.0) in
    let column = c.column_of-column.result in
    let live2 = c.close.new.live.items in
    let live3 = c.close_column.new.live.items in
    pick_made v A c.args.node.now.base matrix t s.live.items s.have.items s.raised.items s.marks.items live1 K C c.args.number c.len-at.result _ c.args.members.now live2 live3 c.raise_and_note.new.have.items c.deref-3.result.now c.note_number.new.noted.items c.push_reserved.new.self.items indices.0
    _ _ at mk (ap (λ n. n - matrix.width) at) refl c.requires.members (sym c.is_member.ensures ∙ c.if-is_member.false) indices.1 indices.2 few c.push_reserved.ensures.items (added s.raised.items indices.0 c.deref-2.result.now c.len-mark.result all3 mk) (added s.raised.items indices.0 c.deref-4.result.now c.len-mark.result all5 mk) c.deref-3.ensures.value c.raise_and_note.ensures.len c.raise_and_note.ensures.more
    c.close.ensures.len c.close.ensures.before c.close.ensures.row c.close_column.ensures.len
    (before_row column live2 live3 c.len-at.result c.close_column.ensures.bits)
    (own_row v A c.args.node.now.base matrix t s.live.items s.have.items s.raised.items s.marks.items K c.args.number c.len-at.result live2 live3 column c.column_of-column.ensures c.close_column.ensures.bits)
    (past_row column live2 live3 c.len-at.result c.close_column.ensures.bits)

pub overflow_sub-at : goal.overflow_sub-at
overflow_sub-at c = omega (arith, c.requires.kept.wide, c.len-at.ensures, c.args.steps.now.live.ok.0)

pub copy_last-requires-clause-some : goal.copy_last-requires-clause-some
copy_last-requires-clause-some c = omega (arith, c.requires.kept.wide, c.args.steps.now.live.ok.0)

pub push_reserved-requires : goal.push_reserved-requires
push_reserved-requires c = omega (arith, c.requires.kept.steps, c.requires.few, c.requires.room.marks, c.args.steps.now.marks.ok.0)

pub is_member-requires-clause-members : goal.is_member-requires-clause-members
is_member-requires-clause-members c = c.requires.members

pub is_member-requires-clause-opened : goal.is_member-requires-clause-opened
is_member-requires-clause-opened c = c.requires.opened

pub column_of-column-requires : goal.column_of-column-requires
column_of-column-requires c = c.requires.kept.table.matrix.stands

pub note_number-requires-clause-part : goal.note_number-requires-clause-part
note_number-requires-clause-part c = c.requires.kept.table.matrix

some_of : (column : Option ℕ) (A : Type 0) (B : ℕ → Type 0) → MatchOption column A B → IfSome column B
some_of None A B m = tt
some_of (Some i) A B m = m

pub note_number-requires-clause-column : goal.note_number-requires-clause-column
note_number-requires-clause-column c =
    let ns = c.args.node.now.matrix.now.numbers.items in
    some_of c.column_of-column.result (mem ns c.args.number ≡ false) (λ i. (i < length ns) × (get_or ns i 0 ≡ c.args.number)) c.column_of-column.ensures

-- the indices that were added, read from a list that holds them
low_added : (xs ys all : List ℕ) (k n m : ℕ) → all ≡ xs ++ ys → k ≡ length xs → m ≡ n → list_all (λ b. ltb b n) ys ≡ true → list_all (λ b. ltb b m) (take (length all - k) (drop k all)) ≡ true
low_added xs ys all k n m e f g low = ap (λ zs. list_all (λ b. ltb b m) zs) (added xs ys all k e f) ∙ ap (λ u. list_all (λ b. ltb b u) ys) g ∙ low

pub raise_and_note-requires-clause-low : goal.raise_and_note-requires-clause-low
raise_and_note-requires-clause-low c =
    let s = c.args.steps.now in
    let indices = c.note_number.ensures.indices in
    low_added s.raised.items indices.0 c.deref-2.result.now c.len-mark.result (length c.args.node.now.view.now.bounds) (length s.have.items) (c.deref-2.ensures.value ∙ indices.1) (c.len-mark.ensures ∙ s.raised.ok.0) c.requires.kept.have_len indices.2.low

pub close-requires-clause-low : goal.close-requires-clause-low
close-requires-clause-low c =
    let s = c.args.steps.now in
    let indices = c.note_number.ensures.indices in
    low_added s.raised.items indices.0 c.deref-4.result.now c.len-mark.result (length c.args.node.now.view.now.bounds) (length c.deref-3.result.now) (c.deref-4.ensures.value ∙ indices.1) (c.len-mark.ensures ∙ s.raised.ok.0) (ap length c.deref-3.ensures.value ∙ c.raise_and_note.ensures.len ∙ c.requires.kept.have_len) indices.2.low

pub close-requires-clause-limits : goal.close-requires-clause-limits
close-requires-clause-limits c = c.requires.kept.table.limits_len ∙ sym (ap length c.deref-3.ensures.value ∙ c.raise_and_note.ensures.len ∙ c.requires.kept.have_len)

pub close-requires-clause-rows : goal.close-requires-clause-rows
close-requires-clause-rows c = c.requires.kept.table.matrix.rows_len ∙ ap (λ n. c.args.node.now.matrix.now.width * n) (sym (ap length c.deref-3.ensures.value ∙ c.raise_and_note.ensures.len ∙ c.requires.kept.have_len))

pub close-requires-clause-live : goal.close-requires-clause-live
close-requires-clause-live c = omega (arith, c.len-at.ensures, c.copy_last.ensures.len, c.copy_last.new.words.ok.0)

to_itself : (n : ℕ) → n ≤ n
to_itself n = omega arith

pub slice_bounds-raise_and_note-count : goal.slice_bounds-raise_and_note-count
slice_bounds-raise_and_note-count c =
    let s = c.args.steps.now in
    let indices = c.note_number.ensures.indices in
    omega (arith, c.len-mark.ensures, s.raised.ok.0, ap length (c.deref-2.ensures.value ∙ indices.1), length-append s.raised.items indices.0)

pub slice_bounds-raise_and_note-start : goal.slice_bounds-raise_and_note-start
slice_bounds-raise_and_note-start c =
    let s = c.args.steps.now in
    let indices = c.note_number.ensures.indices in
    omega (arith, c.len-mark.ensures, s.raised.ok.0, ap length (c.deref-2.ensures.value ∙ indices.1), length-append s.raised.items indices.0)

pub slice_bounds-raise_and_note-end : goal.slice_bounds-raise_and_note-end
slice_bounds-raise_and_note-end c = to_itself (length c.deref-2.result.now)

pub slice_bounds-close-count : goal.slice_bounds-close-count
slice_bounds-close-count c =
    let s = c.args.steps.now in
    let indices = c.note_number.ensures.indices in
    omega (arith, c.len-mark.ensures, s.raised.ok.0, ap length (c.deref-4.ensures.value ∙ indices.1), length-append s.raised.items indices.0)

pub slice_bounds-close-start : goal.slice_bounds-close-start
slice_bounds-close-start c =
    let s = c.args.steps.now in
    let indices = c.note_number.ensures.indices in
    omega (arith, c.len-mark.ensures, s.raised.ok.0, ap length (c.deref-4.ensures.value ∙ indices.1), length-append s.raised.items indices.0)

pub slice_bounds-close-end : goal.slice_bounds-close-end
slice_bounds-close-end c = to_itself (length c.deref-4.result.now)

pub returns-then-is_member-clause-room : goal.returns-then-is_member-clause-room
returns-then-is_member-clause-room c =
    let r = c.requires.room in
    record {
      live = omega (arith, r.live, c.copy_last.ensures.capacity);
      raised = r.raised;
      marks = omega (arith, r.marks, c.push_reserved.ensures.capacity);
    }

pub returns-clause-room : goal.returns-clause-room
returns-clause-room c =
    let r = c.requires.room in
    record {
      live = omega (arith, r.live, c.copy_last.ensures.capacity, c.close.ensures.capacity, c.close_column.ensures.capacity);
      raised = omega (arith, r.raised, c.note_number.ensures.capacity);
      marks = omega (arith, r.marks, c.push_reserved.ensures.capacity);
    }
