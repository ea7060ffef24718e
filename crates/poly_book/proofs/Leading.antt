-- The stored steps lead from design to design.
use Rattle.std.proofs.Common.{List, [], ap, append_assoc, reverse, subst, suc, sym, take, zero, refl, ℕ, ◌++◌, ◌∙◌, ◌∷◌, ◌≡◌}
use Rattle.std.proofs.lemmas.List.{append-nil, reverse-append, reverse-reverse}
use Rattle.poly_design.specs.Changes.{changed}
use Rattle.poly_design.specs.Layout.{Layout}
use Rattle.poly_design.specs.Limits.{IsDesign}
use Rattle.poly_design.specs.declared.change.Change.{Change}
use Rattle.poly_book.specs.declared.step.Kind.{Kind}
use Rattle.poly_book.specs.declared.step.Kind.TheVariants.{Edit, Redo, Undo}
use Rattle.poly_book.specs.declared.step.Step.{Step}
use Rattle.poly_book.specs.Replay.{AllDesigns, Trace, replayed, traced}
use Rattle.poly_book.specs.Vouched.{AllLead, led_to}

traced_design : (t : Trace) (k : Kind) (x : Change) → (traced t k x).design ≡ changed t.design x
traced_design t Edit x = refl
traced_design t Undo x = refl
traced_design t Redo x = refl

all_behind : (o : Layout) (new old : List Step) → AllDesigns o (new ++ old) → AllDesigns o old
all_behind o [] old h = h
all_behind o (x ∷ new) old h = all_behind o new old h.1

put_on : (x : Step) (ss old : List Step) → reverse (x ∷ ss) ++ old ≡ reverse ss ++ (x ∷ old)
put_on x ss old = ap (λ l. l ++ old) (reverse-append (x ∷ []) ss) ∙ append_assoc (reverse ss) (x ∷ []) old

lead_on : (o : Layout) (old ss : List Step) → AllDesigns o (reverse ss ++ old) → AllLead (replayed o old).design ss
lead_on o old [] h = tt
lead_on o old (x ∷ ss) h =
    let h2 = subst (λ l. AllDesigns o l) (put_on x ss old) h in
    let d = traced_design (replayed o old) x.kind x.change in
    (subst IsDesign d (all_behind o (reverse ss) (x ∷ old) h2).0, subst (λ z. AllLead z ss) d (lead_on o (x ∷ old) ss h2))

pub all_lead : (o : Layout) (ss : List Step) → AllDesigns o (reverse ss) → AllLead o ss
all_lead o ss h = lead_on o [] ss (subst (λ l. AllDesigns o l) (sym (append-nil (reverse ss))) h)

pub lead_first : (o : Layout) (n : ℕ) (ss : List Step) → AllLead o ss → AllLead o (take n ss)
lead_first o zero ss h = tt
lead_first o (suc n) [] h = tt
lead_first o (suc n) (x ∷ ss) h = (h.0, lead_first (changed o x.change) n ss h.1)

led_on : (o : Layout) (old ss : List Step) → led_to (replayed o old).design ss ≡ (replayed o (reverse ss ++ old)).design
led_on o old [] = refl
led_on o old (x ∷ ss) = ap (λ z. led_to z ss) (sym (traced_design (replayed o old) x.kind x.change)) ∙ led_on o (x ∷ old) ss ∙ ap (λ l. (replayed o l).design) (sym (put_on x ss old))

-- the steps, the oldest first, lead to the design that their replay gives
pub led_replay : (o : Layout) (ss : List Step) → led_to o (reverse ss) ≡ (replayed o ss).design
led_replay o ss = led_on o [] (reverse ss) ∙ ap (λ l. (replayed o l).design) (append-nil (reverse (reverse ss)) ∙ reverse-reverse ss)
