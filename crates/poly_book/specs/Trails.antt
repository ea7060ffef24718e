-- The views that undo and redo lead back to. A book does not keep them: they say what its shelves mean.
use Rattle.std.specs.Prelude.{List, Option, [], length, ℕ, ◌+◌, ◌∷◌, ◌≡◌}
use Rattle.poly_design.specs.Changes.{HasBefore, changed, inverse_of}
use Rattle.poly_design.specs.Layout.{Layout}
use Rattle.poly_design.specs.Limits.{IsDesign}
use Rattle.poly_design.specs.declared.change.Change.{Change}
use Rattle.poly_tiling.specs.Puzzle.{View}
use Rattle.poly_tiling.specs.Names.{Names, WellNamed}
use Rattle.poly_tiling.specs.Shows.{Shows}
use Rattle.poly_book.specs.States.{State}
use Rattle.poly_tasks.specs.Stored.{Stored, Way}
use Rattle.poly_book.specs.Ways.{newest, shelf_of}
use Rattle.poly_book.specs.Events.{Edit, Event, Redo, Report, Undo}
use Rattle.poly_book.specs.Partition.{IsShelf, Partition}
use Rattle.poly_undo.specs.declared.history.TheConstants.{MAX_STEPS}

-- an earlier view, the number of the step that led away from it, and what that step stored, if that was kept
pub record Led : Type 0 where
  pub to : View
  pub made : ℕ
  pub shelf : Option Stored

-- the views of the undo ways and of the redo ways, the newest first
pub record Trail : Type 0 where
  pub back : List Led
  pub forth : List Led

abbrev pub led_back : State → View → Led
led_back s w = record { to = s.view; made = length s.steps + 1; shelf = shelf_of s w }

abbrev pub trail_undone : State → View → List Led → Trail → Trail
trail_undone s w [] t = t
trail_undone s w (u ∷ us) t = record { back = us; forth = led_back s w ∷ t.forth }

abbrev pub trail_redone : State → View → List Led → Trail → Trail
trail_redone s w [] t = t
trail_redone s w (u ∷ us) t = record { back = newest MAX_STEPS (led_back s w ∷ t.back); forth = us }

-- the trail after an event
abbrev pub trailed : State → Event → Trail → Trail
trailed s (Edit x w) t = record { back = newest MAX_STEPS (led_back s w ∷ t.back); forth = [] }
trailed s (Undo w) t = trail_undone s w t.back t
trailed s (Redo w) t = trail_redone s w t.forth t
trailed s (Report k tree) t = t

-- each view is well named, and its shelf is right for the change from the view before it; the view before the first is `from`
abbrev pub Ways : View → List Led → Type 0
Ways from [] = Unit {0}
Ways from (u ∷ us) = WellNamed u.to × IsShelf from u.to u.shelf × Ways u.to us

-- the view `v` names all that these views name, by the same numbers
abbrev pub Earlier : View → List Led → Type 0
Earlier v [] = Unit {0}
Earlier v (u ∷ us) = Names u.to v × Earlier v us

-- the view of `u` shows the design that the change `x` makes, and the way `b` has the number and the shelf of `u`
pub record Links (d : Layout) (x : Change) (u : Led) (b : Way) : Type 0 where
  pub before : HasBefore d x
  pub design : IsDesign (changed d x)
  pub shows : Shows u.to (changed d x)
  pub made : u.made ≡ b.made
  pub shelf : u.shelf ≡ b.shelf

-- Each view shows the design after one more change. For a redo this is the way's change, for an undo the inverse of that:
-- `f` says which.
abbrev pub Follows : (Change → Change) → Layout → List Led → List Way → Type 0
Follows f d [] [] = Unit {0}
Follows f d [] (b ∷ bs) = ⊥
Follows f d (u ∷ us) [] = ⊥
Follows f d (u ∷ us) (b ∷ bs) = Links d (f b.change) u b × Follows f (changed d (f b.change)) us bs

-- what holds of every state that a run from an opening state reaches, with the trail of that run
pub record Consistent (s : State) (t : Trail) : Type 0 where
  pub design : IsDesign s.design
  pub well : WellNamed s.view
  pub shows : Shows s.view s.design
  pub partition : Partition s
  pub served : Ways s.view t.back
  pub led : Ways s.view t.forth
  pub back_named : Earlier s.view t.back
  pub forth_named : Earlier s.view t.forth
  pub back_follows : Follows inverse_of s.design t.back s.back
  pub forth_follows : Follows (λ x. x) s.design t.forth s.forth
