-- Undoing or redoing a change that found nothing pending leaves all tilings of the design that stood before.
use Rattle.std.proofs.Common.{List, [], ap, map, subst, sym, true, ℕ, ◌∙◌, ◌∷◌, ◌≡◌}
use Rattle.poly_design.specs.Changes.{inverse_of}
use Rattle.poly_book.specs.declared.step.Done.{Done}
use Rattle.poly_book.specs.Events.{Event, Goes, LeadsBy, Redo, Undo, redone, step, undone}
use Rattle.poly_book.specs.Partition.{Becomes}
use Rattle.poly_book.specs.Quiet.{quiet_since}
use Rattle.poly_book.specs.QuietReturns.{HasOldTilings, ReturnsQuietly}
use Rattle.poly_book.specs.Replay.{LeadBack, design_before, origins}
use Rattle.poly_book.specs.States.{State}
use Rattle.poly_tasks.specs.Stored.{Way}
use Rattle.poly_book.specs.Steps.{IsRedone, IsUndone}
use Rattle.poly_book.specs.Whole.{Whole}
use Rattle.poly_book.proofs.Nexting.{partition_each}
use Rattle.poly_book.proofs.Proved.{quiet_redo_lem, quiet_undo_lem, steps_keep_whole_lem}

first_number : (m : ℕ) (rest : List ℕ) (b : Way) (ws : List Way) → map (λ (b : Way). b.made) (b ∷ ws) ≡ m ∷ rest → b.made ≡ m
first_number m rest b ws e = cc

-- once an event leaves nothing pending, all tilings are listed
old_tilings : (m : ℕ) (s t : State) (e : Event) → Whole s → Goes s e → Becomes (step s e) t → (step s e).pending ≡ [] → (step s e).design ≡ design_before m s.opened s.steps → HasOldTilings m s t
old_tilings m s t e p g b none design =
    let whole = steps_keep_whole_lem s t e p g b in
    let done : t.pending ≡ [] = ap (λ z. z.pending) b.same ∙ none in
    record {
      none = done;
      design = ap (λ z. z.design) b.same ∙ design;
      well = whole.consistent.well;
      shows = whole.consistent.shows;
      each = partition_each t whole.consistent.partition done;
    }

pub undone_returns : (s t : State) (done : Done) → Whole s → IsUndone s t done → ReturnsQuietly (origins s.steps).back s t
undone_returns s t done p u = λ m rest is quiet.
    let w = u.made.view in
    let g : Goes s (Undo w) = subst (λ ws. LeadsBy s inverse_of ws w) (sym u.top) u.made.leads in
    let number : u.way.made ≡ m = first_number m rest u.way u.rest (ap (λ ws. map (λ (b : Way). b.made) ws) (sym u.top) ∙ sym (ap (λ o. o.back) p.replay.origins_are) ∙ is) in
    let q : quiet_since u.way.made s.steps ≡ true = subst (λ k. quiet_since k s.steps ≡ true) (sym number) quiet in
    let leads = subst (λ ws. LeadBack inverse_of s.opened s.steps s.design ws) u.top p.replay.back_leads in
    let design = ap (λ ws. (undone s w ws).design) u.top ∙ leads.1 ∙ ap (λ k. design_before k s.opened s.steps) number in
    old_tilings m s t (Undo w) p g u.made.becomes (quiet_undo_lem s w u.way u.rest p g u.top q).none design

pub redone_returns : (s t : State) (done : Done) → Whole s → IsRedone s t done → ReturnsQuietly (origins s.steps).forth s t
redone_returns s t done p u = λ m rest is quiet.
    let w = u.made.view in
    let g : Goes s (Redo w) = subst (λ ws. LeadsBy s (λ x. x) ws w) (sym u.top) u.made.leads in
    let number : u.way.made ≡ m = first_number m rest u.way u.rest (ap (λ ws. map (λ (b : Way). b.made) ws) (sym u.top) ∙ sym (ap (λ o. o.forth) p.replay.origins_are) ∙ is) in
    let q : quiet_since u.way.made s.steps ≡ true = subst (λ k. quiet_since k s.steps ≡ true) (sym number) quiet in
    let leads = subst (λ ws. LeadBack (λ x. x) s.opened s.steps s.design ws) u.top p.replay.forth_leads in
    let design = ap (λ ws. (redone s w ws).design) u.top ∙ leads.1 ∙ ap (λ k. design_before k s.opened s.steps) number in
    old_tilings m s t (Redo w) p g u.made.becomes (quiet_redo_lem s w u.way u.rest p g u.top q).none design
