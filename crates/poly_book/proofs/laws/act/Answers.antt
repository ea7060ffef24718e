use Rattle.std.proofs.Common.{subst, sym, ◌≡◌}
use Rattle.poly_book.specs.Happenings.{Happens}
use Rattle.poly_book.specs.States.{State}
use Rattle.poly_book.specs.declared.laws.Event.{Event}
use Rattle.poly_book.specs.declared.laws.Event.TheVariants.{Edit, HandIn, Redo, Undo}
use Rattle.poly_book.specs.declared.laws.Reply.{Reply}
use Rattle.poly_book.specs.declared.laws.Reply.TheVariants as reply
use Rattle.poly_book.proofs.laws.act.Goals as goal

-- what is told of an event happened, if it happened to an equal one
told : (e e2 : Event) (s t : State) (r : Reply) → e ≡ e2 → Happens e2 s t r → Happens e s t r
told e e2 s t r is h = subst (λ (x : Event). Happens x s t r) (sym is) h

pub returns-in-Ok : goal.returns-in-Ok
returns-in-Ok c = told c.args.event (Edit c.in-Edit.edit) c.args.book.now c.edit.new.self (reply.Done c.in-Ok.done) c.in-Edit.is c.in-Ok.ensures.ok

pub returns-in-Err : goal.returns-in-Err
returns-in-Err c = told c.args.event (Edit c.in-Edit.edit) c.args.book.now c.edit.new.self (reply.Refused c.in-Err.refusal) c.in-Edit.is (c.in-Err.ensures.err, c.in-Err.ensures.why)

pub returns-in-Ok-undo : goal.returns-in-Ok-undo
returns-in-Ok-undo c = told c.args.event Undo c.args.book.now c.undo.new.self (reply.Done c.in-Ok-undo.done) c.in-Undo.is c.in-Ok-undo.ensures.ok

pub returns-in-Err-undo : goal.returns-in-Err-undo
returns-in-Err-undo c = told c.args.event Undo c.args.book.now c.undo.new.self (reply.Refused c.in-Err-undo.refusal) c.in-Undo.is (c.in-Err-undo.ensures.err, c.in-Err-undo.ensures.why)

pub returns-in-Ok-redo : goal.returns-in-Ok-redo
returns-in-Ok-redo c = told c.args.event Redo c.args.book.now c.redo.new.self (reply.Done c.in-Ok-redo.done) c.in-Redo.is c.in-Ok-redo.ensures.ok

pub returns-in-Err-redo : goal.returns-in-Err-redo
returns-in-Err-redo c = told c.args.event Redo c.args.book.now c.redo.new.self (reply.Refused c.in-Err-redo.refusal) c.in-Redo.is (c.in-Err-redo.ensures.err, c.in-Err-redo.ensures.why)

pub returns-in-Ok-hand_in : goal.returns-in-Ok-hand_in
returns-in-Ok-hand_in c = told c.args.event (HandIn c.in-HandIn.report) c.args.book.now c.hand_in.new.self (reply.Applied _) c.in-HandIn.is c.in-Ok-hand_in.ensures.ok

pub returns-in-Err-hand_in : goal.returns-in-Err-hand_in
returns-in-Err-hand_in c = told c.args.event (HandIn c.in-HandIn.report) c.args.book.now c.hand_in.new.self (reply.Refused c.in-Err-hand_in.refusal) c.in-HandIn.is (c.in-Err-hand_in.ensures.err, c.in-Err-hand_in.ensures.why)
