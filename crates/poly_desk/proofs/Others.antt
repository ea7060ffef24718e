-- A book's own refusals aren't `Unsettled`.
use Rattle.std.proofs.Common.{List, [], ap, false, inl, inr, refl, ℕ, ◌∙◌, ◌∷◌, ◌≡◌}
use Rattle.poly_grid.specs.declared.refusal.Refusal.{Refusal}
use Rattle.poly_design.specs.Edits.{IsFirst, causes}
use Rattle.poly_design.specs.Layout.{Layout}
use Rattle.poly_design.specs.declared.change.Change.{Change}
use Rattle.poly_design.specs.declared.edit.Edit.{Edit}
use Rattle.poly_design.specs.declared.edit.Edit.TheVariants as edit
use Rattle.poly_report.specs.Trees.{Plan}
use Rattle.poly_book.specs.declared.step.Kind.{Kind}
use Rattle.poly_book.specs.declared.step.Kind.TheVariants as kind
use Rattle.poly_book.specs.Refused.{IsNotApplied, IsNotEdited, IsNotMade, IsNotRedone, IsNotUndone, IsOver}
use Rattle.poly_book.specs.States.{State}
use Rattle.poly_desk.specs.Seen.{is_unsettled}

-- a refusal that equals one other than `Unsettled` isn't `Unsettled`
pub other : (e x : Refusal) → e ≡ x → is_unsettled x ≡ false → is_unsettled e ≡ false
other e x h k = ap is_unsettled h ∙ k

NoneUnsettled : List (Refusal × Type 0) → Type 0
NoneUnsettled [] = Unit {0}
NoneUnsettled (c ∷ cs) = (is_unsettled c.0 ≡ false) × NoneUnsettled cs

first_other : (cs : List (Refusal × Type 0)) (e : Refusal) → NoneUnsettled cs → IsFirst cs e → is_unsettled e ≡ false
unfolding NoneUnsettled
first_other [] e n h = absurd h
first_other (c ∷ cs) e n (inl h) = other e c.0 h.0 n.0
first_other (c ∷ cs) e n (inr h) = first_other cs e n.1 h.1

none_unsettled : (d : Layout) (x : Edit) → NoneUnsettled (causes d x)
unfolding NoneUnsettled
none_unsettled d (edit.Add name shape need mirror) = (refl, (refl, (refl, (refl, tt))))
none_unsettled d (edit.Drop name) = (refl, tt)
none_unsettled d (edit.Need name need) = (refl, (refl, tt))
none_unsettled d (edit.Copies name copies) = (refl, (refl, tt))
none_unsettled d (edit.Mirror name mirror) = (refl, (refl, (refl, tt)))
none_unsettled d (edit.Cell cell mode) = (refl, (refl, (refl, tt)))
none_unsettled d (edit.Pin name cells) = (refl, (refl, (refl, tt)))
none_unsettled d (edit.Unpin name) = (refl, (refl, tt))
none_unsettled d (edit.Forbid name cells) = (refl, (refl, (refl, tt)))
none_unsettled d (edit.Allow name cells) = (refl, (refl, (refl, tt)))

not_made : (k : Kind) (x : Change) (s : State) (e : Refusal) → IsNotMade k x s e → is_unsettled e ≡ false
not_made kind.Edit x s e (inl h) = other e _ h.0 refl
not_made kind.Edit x s e (inr (inl h)) = other e _ h.0 refl
not_made kind.Edit x s e (inr (inr h)) = other e _ h refl
not_made kind.Undo x s e (inl h) = other e _ h.0 refl
not_made kind.Undo x s e (inr (inl h)) = other e _ h.0 refl
not_made kind.Undo x s e (inr (inr h)) = other e _ h refl
not_made kind.Redo x s e (inl h) = other e _ h.0 refl
not_made kind.Redo x s e (inr (inl h)) = other e _ h.0 refl
not_made kind.Redo x s e (inr (inr h)) = other e _ h refl

pub edited_other : (x : Edit) (s : State) (e : Refusal) → IsNotEdited x s e → is_unsettled e ≡ false
edited_other x s e (inl h) = first_other (causes s.design x) e (none_unsettled s.design x) h
edited_other x s e (inr (inl h)) = not_made kind.Edit h.0 s e h.2
edited_other x s e (inr (inr h)) = other e _ h refl

pub undone_other : (s : State) (e : Refusal) → IsNotUndone s e → is_unsettled e ≡ false
undone_other s e (inl h) = other e _ h.0 refl
undone_other s e (inr h) = not_made kind.Undo _ s e h.3

pub redone_other : (s : State) (e : Refusal) → IsNotRedone s e → is_unsettled e ≡ false
redone_other s e (inl h) = other e _ h.0 refl
redone_other s e (inr h) = not_made kind.Redo _ s e h.3

over_other : (k : ℕ) (tree : Plan) (s : State) (e : Refusal) → IsOver k tree s e → is_unsettled e ≡ false
over_other k tree s e (inl h) = other e _ h.0 refl
over_other k tree s e (inr (inl h)) = other e _ h.0 refl
over_other k tree s e (inr (inr h)) = other e _ h refl

pub applied_other : (k : ℕ) (tree : Plan) (s : State) (e : Refusal) → IsNotApplied k tree s e → is_unsettled e ≡ false
applied_other k tree s e (inl h) = other e _ h.0 refl
applied_other k tree s e (inr (inl (t, found, inl h))) = other e _ h.0 refl
applied_other k tree s e (inr (inl (t, found, inr h))) = other e _ h.0 refl
applied_other k tree s e (inr (inr h)) = over_other k tree s e h
