-- Runs of events.
use Rattle.std.proofs.lemmas.List.{append-nil}
use Rattle.std.proofs.Common.{List, [], append_assoc, arith, length, refl, subst, sym, ℕ, ◌++◌, ◌∷◌, ◌≡◌}
use Rattle.poly_report.specs.Trees.{Plan}
use Rattle.poly_report.specs.Shapes.{plan_of}
use Rattle.poly_book.specs.declared.laws.Event.{Event}
use Rattle.poly_book.specs.declared.laws.Event.TheVariants.{Edit, HandIn, Redo, Undo}
use Rattle.poly_book.specs.declared.laws.Reply.{Reply}
use Rattle.poly_book.specs.declared.laws.Reply.TheVariants as reply
use Rattle.poly_design.specs.Changes.{inverse_of}
use Rattle.poly_book.specs.Events as event
use Rattle.poly_book.specs.Events.{LeadsBy, step}
use Rattle.poly_book.specs.Happenings.{AllHappen, Happens, HoldsNow, KeepsHolding}
use Rattle.poly_book.specs.States.{State}
use Rattle.poly_book.specs.Whole.{Runs, Whole}
use Rattle.poly_book.proofs.Lasting.{holds_now, holds_then}
use Rattle.poly_book.proofs.Proved.{run_holds}

pub happen_push : (es : List Event) (rs : List Reply) (s t u : State) (e : Event) (r : Reply) → AllHappen es s rs t → Happens e t u r → AllHappen (es ++ e ∷ []) s (rs ++ r ∷ []) u
happen_push [] [] s t u e r a h = (u, subst (λ z. Happens e z u r) a h, refl)
happen_push [] (q ∷ rs) s t u e r a h = absurd a
happen_push (f ∷ es) [] s t u e r a h = absurd a
happen_push (f ∷ es) (q ∷ rs) s t u e r a h = (a.0, a.1, happen_push es rs a.0 t u e r a.2 h)

-- what happens is a run of one event, or of none if it is refused
happening : (e : Event) (s t : State) (r : Reply) → Happens e s t r → (es : List event.Event) × Runs s es t
happening (Edit e) s t (reply.Done d) h = (event.Edit h.change h.made.view ∷ [], (t, h.made.leads, h.made.becomes, refl))
happening (Edit e) s t (reply.Applied a) h = absurd h
happening (Edit e) s t (reply.Refused r) h = ([], h.0)
happening Undo s t (reply.Done d) h = (event.Undo h.made.view ∷ [], (t, subst (λ ws. LeadsBy s inverse_of ws h.made.view) (sym h.top) h.made.leads, h.made.becomes, refl))
happening Undo s t (reply.Applied a) h = absurd h
happening Undo s t (reply.Refused r) h = ([], h.0)
happening Redo s t (reply.Done d) h = (event.Redo h.made.view ∷ [], (t, subst (λ ws. LeadsBy s (λ x. x) ws h.made.view) (sym h.top) h.made.leads, h.made.becomes, refl))
happening Redo s t (reply.Applied a) h = absurd h
happening Redo s t (reply.Refused r) h = ([], h.0)
happening (HandIn p) s t (reply.Done d) h = absurd h
happening (HandIn p) s t (reply.Applied a) h = (event.Report p.task (plan_of p.tree) ∷ [], (t, tt, h.becomes, refl))
happening (HandIn p) s t (reply.Refused r) h = ([], h.0)

runs_on : (es fs : List event.Event) (s t u : State) → Runs s es t → Runs t fs u → Runs s (es ++ fs) u
runs_on [] fs s t u a b = subst (λ z. Runs z fs u) a b
runs_on (e ∷ es) fs s t u a b = (a.0, a.1, a.2, runs_on es fs a.0 t u a.3 b)

pub happenings : (es : List Event) (rs : List Reply) (s t : State) → AllHappen es s rs t → (fs : List event.Event) × Runs s fs t
happenings [] [] s t a = ([], a)
happenings [] (r ∷ rs) s t a = absurd a
happenings (e ∷ es) [] s t a = absurd a
happenings (e ∷ es) (r ∷ rs) s t a =
    let first = happening e s a.0 r a.1 in
    let rest = happenings es rs a.0 t a.2 in
    (first.0 ++ rest.0, runs_on first.0 rest.0 s a.0 t first.1 rest.1)

pub still_holds_lem : (s t : State) (es : List Event) (rs : List Reply) (k : ℕ) (tree : Plan) → Whole s → HoldsNow s k tree → AllHappen es s rs t → KeepsHolding t k tree
still_holds_lem s t es rs k tree w h a = λ b found.
    let run = happenings es rs s t a in
    holds_then t k b tree (run_holds s t run.0 k tree w run.1 (holds_now s k h.0 tree w.rising h.1 h.2)) found

-- the loop over the events goes on with one more event and its reply
pub happen_step : (all items rest : List Event) (s u v : State) (e : Event) (reps : List Reply) (r : Reply) → items ≡ e ∷ rest → Happens e u v r → ((rs : List Reply) (t : State) → AllHappen items u rs t → AllHappen all s (reps ++ rs) t) →
    (rs : List Reply) (t : State) → AllHappen rest v rs t → AllHappen all s ((reps ++ r ∷ []) ++ rs) t
happen_step all items rest s u v e reps r is h before rs t a =
    let step : AllHappen (e ∷ rest) u (r ∷ rs) t = (v, h, a) in
    subst (λ z. AllHappen all s z t) (sym (append_assoc reps (r ∷ []) rs)) (before (r ∷ rs) t (subst (λ z. AllHappen z u (r ∷ rs) t) (sym is) step))

nothing : {X : Type 0} (xs : List X) → length xs ≡ 0 → xs ≡ []
nothing [] e = refl
nothing (x ∷ xs) e = absurd (omega (arith, e))

pub happen_end : (all items : List Event) (s u : State) (reps : List Reply) → length items ≡ 0 → ((rs : List Reply) (t : State) → AllHappen items u rs t → AllHappen all s (reps ++ rs) t) → AllHappen all s reps u
happen_end all items s u reps none before = let is = nothing items none in subst (λ z. AllHappen all s z u) (append-nil reps) (before [] u (subst (λ z. AllHappen z u [] u) (sym is) refl))
