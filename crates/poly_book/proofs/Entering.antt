-- What the fields show while a change is entered, and how the facts of each part of this go together.
use Rattle.std.proofs.Common.{List, ap, refl, subst, sym, ℕ, ◌∙◌, ◌≡◌}
use Rattle.poly_grid.specs.declared.refusal.Refusal.{Refusal}
use Rattle.poly_design.specs.declared.change.Change.{Change}
use Rattle.poly_tiling.specs.Puzzle.{View}
use Rattle.poly_atom.specs.declared.atom.Atom.{Atom}
use Rattle.poly_book.specs.declared.parts.Parts.{Parts}
use Rattle.poly_book.specs.declared.prepare.Prepared.{Prepared}
use Rattle.poly_book.specs.declared.step.Kind.{Kind}
use Rattle.poly_book.specs.Changing.{IsTop, stood_by}
use Rattle.poly_book.specs.Entering.{IsEntered}
use Rattle.poly_book.specs.Events.{Leads}
use Rattle.poly_book.specs.Keeps.{Keeps, state_of}
use Rattle.poly_book.specs.Shown.{shown}
use Rattle.poly_book.specs.Refused.{IsNotMade}
use Rattle.poly_tasks.specs.Shelves.{returned}
use Rattle.poly_book.specs.States.{State}
use Rattle.poly_book.proofs.Cataloguing.{Enters, change_enters}

-- preparing a change doesn't alter what the book shows
pub same_shown : (p q : Parts) → q ≡ record p { table = q.table; tasks = q.tasks; steps = q.steps; endings = q.endings } → q.tasks.items ≡ p.tasks.items → q.steps.items ≡ p.steps.items → q.endings.items ≡ p.endings.items → state_of q ≡ state_of p
same_shown p q s tasks steps ends = ap (λ (z : Parts). shown z.opened z.design z.scene z.listed z.log q.tasks.items z.next z.history q.steps.items q.endings.items) s ∙ (λ i. shown p.opened p.design p.scene p.listed p.log (tasks i) p.next p.history (steps i) (ends i))

-- but for the log and the listed tilings, entering a change doesn't alter what the book shows
pub entered_shown : (p q : Parts) → q ≡ record p { table = q.table; listed = q.listed; log = q.log; tasks = q.tasks; register = q.register; steps = q.steps; endings = q.endings } → q.tasks.items ≡ p.tasks.items → q.steps.items ≡ p.steps.items → q.endings.items ≡ p.endings.items → state_of (record q { listed = p.listed; log = p.log }) ≡ state_of p
entered_shown p q s tasks steps ends = ap (λ (z : Parts). shown z.opened z.design z.scene p.listed p.log q.tasks.items z.next z.history q.steps.items q.endings.items) s ∙ (λ i. shown p.opened p.design p.scene p.listed p.log (tasks i) p.next p.history (steps i) (ends i))

pub still_not_made : (k : Kind) (x : Change) (s t : State) (e : Refusal) → s ≡ t → IsNotMade k x s e → IsNotMade k x t e
still_not_made k x s t e is n = subst (λ z. IsNotMade k x z e) is n

-- a change may be made on top of the same history
pub top_of : (k : Kind) (x : Change) (p q : Parts) → q ≡ record p { table = q.table; tasks = q.tasks; steps = q.steps; endings = q.endings } → IsTop k p.history x → IsTop k q.history x
top_of k x p q s t = subst (λ h. IsTop k h x) (sym (ap (λ (z : Parts). z.history) s)) t

pub entered_top : (k : Kind) (x : Change) (p q : Parts) → q ≡ record p { table = q.table; listed = q.listed; log = q.log; tasks = q.tasks; register = q.register; steps = q.steps; endings = q.endings } → IsTop k p.history x → IsTop k q.history x
entered_top k x p q s t = subst (λ h. IsTop k h x) (sym (ap (λ (z : Parts). z.history) s)) t

pub enters_by : (p : Parts) (k : Kind) (x : Change) (w : View) → Keeps p → IsTop k p.history x → Leads (state_of p) x w → Enters w p.listed (returned (stood_by p.log k p.history))
enters_by p k x w keeps top l = change_enters p.log k (state_of p) p.history x w refl refl top keeps.whole l

-- preparing a change doesn't alter the log or the listed tilings
pub as_before : (p b : Parts) → b ≡ record p { table = b.table; tasks = b.tasks; steps = b.steps; endings = b.endings } → b ≡ record b { listed = p.listed; log = p.log }
as_before p b s = subst (λ (z : Parts). z ≡ record z { listed = p.listed; log = p.log }) (sym s) refl

pub entered_stays : (p b : Parts) (ls : List (List ℕ)) (log : List (List Atom)) → b ≡ record p { table = b.table; tasks = b.tasks; steps = b.steps; endings = b.endings } → record b { listed = ls; log = log } ≡ record p { table = b.table; listed = ls; log = log; tasks = b.tasks; register = b.register; steps = b.steps; endings = b.endings }
entered_stays p b ls log s = subst (λ (z : Parts). record z { listed = ls; log = log } ≡ record p { table = z.table; listed = ls; log = log; tasks = z.tasks; register = z.register; steps = z.steps; endings = z.endings }) (sym s) refl

-- what is entered after tasks were noted is entered
pub entered_since : (k : Kind) (x : Change) (p n q : Parts) (r : Prepared) → n ≡ record p { register = n.register } → IsEntered k x n q r → IsEntered k x p q r
entered_since k x p n q r s e =
    let f : IsEntered k x (record p { register = n.register }) q r = subst (λ (z : Parts). IsEntered k x z q r) s e in
    record {
      entry = f.entry;
      stays = f.stays;
      tasks = f.tasks;
      steps = f.steps;
      endings = f.endings;
      keeps = f.keeps;
      prepared = f.prepared;
      log_is = f.log_is;
      listed_is = f.listed_is;
    }
