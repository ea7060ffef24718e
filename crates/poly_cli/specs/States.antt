-- The state of a session, and how edits, undo and redo change it.
use Rattle.std.specs.Prelude.{Bool, List, None, Option, Some, [], false, true, ℕ, ◌+◌, ◌++◌, ◌∷◌, ◌≡◌, ◌⊎◌}
use Rattle.poly_grid.specs.declared.refusal.Refusal.{Refusal}
use Rattle.poly_grid.specs.declared.refusal.Refusal.TheVariants.{CatalogueFull, Memory, NothingToRedo, NothingToUndo, Spent, TooWide, Unfinished}
use Rattle.poly_design.specs.Layout.{Layout}
use Rattle.poly_design.specs.Changes.{changed, inverse_of}
use Rattle.poly_design.specs.Edits.{IsAccepted, IsRefused}
use Rattle.poly_design.specs.declared.change.Change.{Change}
use Rattle.poly_design.specs.declared.edit.Edit.{Edit}
use Rattle.poly_tiling.specs.Listings.{HasOverTilings}
use Rattle.poly_undo.specs.Steps.{newest}
use Rattle.poly_book.specs.Amounts.{AreAllTilingsOf, AreTilingsOf, IsNarrow, IsWide}
use Rattle.poly_book.specs.declared.book.Numbers.{Numbers}
use Rattle.poly_tiling.specs.declared.lister.TheConstants.{MAX_TILINGS}

-- The design, how often it was changed, and the changes that can be undone and redone: each list ends with the change that is
-- undone or redone next. `settled` says whether a question about all tilings was answered since the last change. `failed` is
-- the refusal with which the engine failed, if it did: it answers with that refusal ever after.
pub record State : Type 0 where
  pub design : Layout
  pub edition : ℕ
  pub undo : List Change
  pub redo : List Change
  pub settled : Bool
  pub failed : Option Refusal

-- the state with which a session on the design begins
abbrev pub opened : Layout → State
opened design = record { design = design; edition = 0; undo = []; redo = []; settled = false; failed = None }

-- the state after a question about all tilings was answered
abbrev pub answered : State → State
answered s = record { design = s.design; edition = s.edition; undo = s.undo; redo = s.redo; settled = true; failed = s.failed }

-- the state after the engine failed with the refusal: all else stays
abbrev pub after_failure : State → Refusal → State
after_failure s e = record { design = s.design; edition = s.edition; undo = s.undo; redo = s.redo; settled = s.settled; failed = Some e }

-- the state after an edit has made the change: of the changes that can be undone, this one included, the newest 256 are kept,
-- and nothing can be redone
abbrev pub after_edit : State → Change → State
after_edit s change = record { design = changed s.design change; edition = s.edition + 1; undo = newest (s.undo ++ change ∷ []); redo = []; settled = false; failed = s.failed }

-- the edit is accepted, its change isn't too wide, and it leads to t
pub record Edits (s : State) (edit : Edit) (t : State) : Type 0 where
  pub change : Change
  pub accepted : IsAccepted s.design edit change
  pub narrow : IsNarrow s.design (changed s.design change)
  pub is : t ≡ after_edit s change

-- the last change that can be undone is undone, and can then be redone
pub record Undoes (s t : State) : Type 0 where
  pub change : Change
  pub left : List Change
  pub taken : s.undo ≡ left ++ change ∷ []
  pub is : t ≡ record { design = changed s.design (inverse_of change); edition = s.edition + 1; undo = left; redo = s.redo ++ change ∷ []; settled = false; failed = s.failed }

-- the change that was undone last is redone, and can then be undone
pub record Redoes (s t : State) : Type 0 where
  pub change : Change
  pub left : List Change
  pub taken : s.redo ≡ left ++ change ∷ []
  pub is : t ≡ record { design = changed s.design change; edition = s.edition + 1; undo = s.undo ++ change ∷ []; redo = left; settled = false; failed = s.failed }

-- The edit is refused for one of its causes. If it has none, its change may be too wide, or a counter may be used up.
abbrev pub EditRefused : State → Edit → Refusal → Type 0
EditRefused s edit e = IsRefused s.design edit e ⊎ ((change : Change) × IsAccepted s.design edit change × (((e ≡ TooWide) × IsWide s.design (changed s.design change)) ⊎ (e ≡ Spent)))

-- why an undo or redo that leads to the design is refused: a counter is used up, or the design has too many tilings
abbrev pub StepRefused : Layout → Refusal → Type 0
StepRefused d e = (e ≡ Spent) ⊎ ((e ≡ CatalogueFull) × HasOverTilings MAX_TILINGS d)

-- why an undo is refused: there is no undo step, or a cause of `StepRefused` applies to the design that the undo leads to
abbrev pub UndoRefused : State → Refusal → Type 0
UndoRefused s e = ((e ≡ NothingToUndo) × (s.undo ≡ [])) ⊎ ((change : Change) × (left : List Change) × (s.undo ≡ left ++ change ∷ []) × StepRefused (changed s.design (inverse_of change)) e)

-- why a redo is refused: there is no redo step, or a cause of `StepRefused` applies to the design that the redo leads to
abbrev pub RedoRefused : State → Refusal → Type 0
RedoRefused s e = ((e ≡ NothingToRedo) × (s.redo ≡ [])) ⊎ ((change : Change) × (left : List Change) × (s.redo ≡ left ++ change ∷ []) × StepRefused (changed s.design change) e)

-- why the search for all tilings of the design didn't end: the turns or a counter are used up, or there are too many tilings
abbrev pub IsUnfinished : Layout → Refusal → Type 0
IsUnfinished d e = (e ≡ Unfinished) ⊎ (e ≡ Spent) ⊎ ((e ≡ CatalogueFull) × HasOverTilings MAX_TILINGS d)

-- Why a question about all tilings isn't answered: memory ran out, or, only if no such question was answered since the last
-- change, the search for them didn't end.
abbrev pub IsUnanswered : State → Refusal → Type 0
IsUnanswered s e = (e ≡ Memory) ⊎ ((s.settled ≡ false) × IsUnfinished s.design e)

-- An engine fails with one of its refusals while it searches for all tilings, so only if no question about them was answered
-- since the last change. It may stay failed.
abbrev pub Fails : (Refusal → Type 0) → State → Refusal → State → Type 0
Fails Failures s e t = (s.failed ≡ None) × (s.settled ≡ false) × Failures e × ((t ≡ s) ⊎ (t ≡ after_failure s e))

-- why a call is refused: for one of these causes, or, if the engine has failed before, with the refusal with which it failed
abbrev pub IsRefusedFor : (Refusal → Type 0) → Option Refusal → Refusal → Type 0
IsRefusedFor Causes None e = Causes e
IsRefusedFor Causes (Some failure) e = e ≡ failure

-- a question about all tilings isn't answered: it is refused, or the engine fails
abbrev pub IsNotAnswered : (Refusal → Type 0) → State → Refusal → State → Type 0
IsNotAnswered Failures s e t = ((t ≡ s) × IsRefusedFor (IsUnanswered s) s.failed e) ⊎ Fails Failures s e t

-- The edition, how many tilings are listed and how many tasks are pending. No more tilings are listed than the design has;
-- if nothing is pending, as in a settled state, all of them are listed.
pub record AreNumbers (s : State) (n : Numbers) : Type 0 where
  pub edition : n.edition ≡ s.edition
  pub some : AreTilingsOf n.listed s.design
  pub whole : n.pending ≡ 0 → AreAllTilingsOf n.listed s.design
  pub none : s.settled ≡ true → n.pending ≡ 0
