-- What undoing or redoing a change leaves if the change found nothing pending.
use Rattle.std.specs.Prelude.{List, [], true, ℕ, ◌∷◌, ◌≡◌}
use Rattle.poly_tiling.specs.Lister.{HasEachOnce}
use Rattle.poly_tiling.specs.Names.{WellNamed}
use Rattle.poly_tiling.specs.Shows.{Shows}
use Rattle.poly_book.specs.Quiet.{quiet_since}
use Rattle.poly_book.specs.Replay.{design_before}
use Rattle.poly_book.specs.States.{State}

-- Nothing is pending after the call, and the design is the one that stood before step m. The listed tilings are all tilings of
-- this design, each once.
pub record HasOldTilings (m : ℕ) (s t : State) : Type 0 where
  pub none : t.pending ≡ []
  pub design : t.design ≡ design_before m s.opened s.steps
  pub well : WellNamed t.view
  pub shows : Shows t.view t.design
  pub each : HasEachOnce t.view t.listed

-- Suppose that the step that is undone or redone, the first of these numbers, found nothing pending, and that each undo and
-- redo since had a kept shelf. Then the call leaves all tilings of the design that stood before that step.
abbrev pub ReturnsQuietly : List ℕ → State → State → Type 0
ReturnsQuietly numbers s t = (m : ℕ) (rest : List ℕ) → numbers ≡ m ∷ rest → quiet_since m s.steps ≡ true → HasOldTilings m s t
