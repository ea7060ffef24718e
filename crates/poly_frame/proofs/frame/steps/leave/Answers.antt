use Rattle.std.proofs.Common.{ap, arith, length, refl, subst, sym, ℕ, ◌&&◌, ◌*◌, ◌+◌, ◌-◌, ◌∙◌, ◌≡◌, eqb, not, true}
use Rattle.poly_frame.specs.Bits.{has_bit}
use Rattle.poly_frame.proofs.FrameSteps.{kept_as, leave_other, leave_own}
use Rattle.poly_frame.proofs.frame.steps.leave.Goals as goal

pub returns-in-Some-clause-kept : goal.returns-in-Some-clause-kept
returns-in-Some-clause-kept c =
    let s = c.args.steps.now in
    let matrix = c.args.node.now.matrix.now in
    let at : c.len.result - matrix.width ≡ length s.live.items - matrix.width = ap (λ n. n - matrix.width) (c.len.ensures ∙ s.live.ok.0) in
    let set : has_bit s.live.items (64 * (length s.live.items - matrix.width) + c.in-Some.j) ≡ true = ap (λ n. has_bit s.live.items (64 * n + c.in-Some.j)) (sym at) ∙ ap (λ ws. has_bit ws (64 * (c.len.result - matrix.width) + c.in-Some.j)) (sym c.deref.ensures.value) ∙ c.in-Some.ensures.2 in
    kept_as c.args.node.now.view.now _ c.args.node.now.base matrix c.args.node.now.table.now c.take_out.new.words.items s.have.items s.raised.items _ s.raised.items c.push_reserved.new.self.items refl c.push_reserved.ensures.items
    (leave_own c.args.node.now.view.now c.args.node.now.trail.now c.args.node.now.base matrix c.args.node.now.table.now s.live.items s.have.items s.raised.items s.marks.items c.requires.kept c.args.number c.in-Some.j c.take_out.new.words.items _ c.in-Some.ensures.0 c.in-Some.ensures.1 set c.take_out.ensures.len
    (subst (λ (n : ℕ). (x : ℕ) → has_bit c.take_out.new.words.items x ≡ (has_bit s.live.items x && not (eqb (64 * n + c.in-Some.j) x))) at c.take_out.ensures.bits) (c.len-2.ensures ∙ s.raised.ok.0) at c.in-Some.is)

pub returns-in_default-clause-kept : goal.returns-in_default-clause-kept
returns-in_default-clause-kept c =
    let s = c.args.steps.now in
    let matrix = c.args.node.now.matrix.now in
    let at : c.len.result - matrix.width ≡ length s.live.items - matrix.width = ap (λ n. n - matrix.width) (c.len.ensures ∙ s.live.ok.0) in
    kept_as c.args.node.now.view.now _ c.args.node.now.base matrix c.args.node.now.table.now s.live.items s.have.items s.raised.items _ s.raised.items c.push_reserved.new.self.items refl c.push_reserved.ensures.items
    (leave_other c.args.node.now.view.now c.args.node.now.trail.now c.args.node.now.base matrix c.args.node.now.table.now s.live.items s.have.items s.raised.items s.marks.items c.requires.kept c.args.number _
    (λ j h e. ap (λ n. has_bit s.live.items (64 * n + j)) (sym at) ∙ ap (λ ws. has_bit ws (64 * (c.len.result - matrix.width) + j)) (sym c.deref.ensures.value) ∙ c.in_default.ensures j h e) (c.len-2.ensures ∙ s.raised.ok.0) at c.in_default.is)

pub overflow_sub-at : goal.overflow_sub-at
overflow_sub-at c = omega (arith, c.requires.kept.wide, c.len.ensures, c.args.steps.now.live.ok.0)

pub push_reserved-requires : goal.push_reserved-requires
push_reserved-requires c = omega (arith, c.requires.kept.steps, c.requires.few, c.requires.room.marks, c.args.steps.now.marks.ok.0)

pub open_column-column-requires-clause-stands : goal.open_column-column-requires-clause-stands
open_column-column-requires-clause-stands c = c.requires.kept.table.matrix.stands

pub open_column-column-requires-clause-wide : goal.open_column-column-requires-clause-wide
open_column-column-requires-clause-wide c = c.requires.kept.table.matrix.wide

pub open_column-column-requires-clause-live : goal.open_column-column-requires-clause-live
open_column-column-requires-clause-live c = omega (arith, c.requires.kept.wide, c.len.ensures, c.args.steps.now.live.ok.0, ap length c.deref.ensures.value)

pub take_out-requires : goal.take_out-requires
take_out-requires c = omega (arith, c.requires.kept.wide, c.len.ensures, c.args.steps.now.live.ok.0, c.in-Some.ensures.0, c.requires.kept.table.matrix.wide)

pub returns-in-Some-clause-room : goal.returns-in-Some-clause-room
returns-in-Some-clause-room c =
    let r = c.requires.room in
    record {
      live = omega (arith, r.live, c.take_out.ensures.capacity);
      raised = r.raised;
      marks = omega (arith, r.marks, c.push_reserved.ensures.capacity);
    }

pub returns-in_default-clause-room : goal.returns-in_default-clause-room
returns-in_default-clause-room c =
    let r = c.requires.room in
    record {
      live = r.live;
      raised = r.raised;
      marks = omega (arith, r.marks, c.push_reserved.ensures.capacity);
    }
