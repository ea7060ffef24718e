-- Numbers that depend on designs alone: how many tilings a design has, and how many guards a change between two designs has.
use Rattle.std.specs.Prelude.{List, length, ℕ, ◌<◌, ◌∷◌, ◌≡◌, ◌≤◌, ◌⊎◌}
use Rattle.poly_atom.specs.Width.{HasWidth}
use Rattle.poly_design.specs.Changes.{changed, inverse_of}
use Rattle.poly_design.specs.Layout.{Layout}
use Rattle.poly_design.specs.declared.placement.Placement.{Placement}
use Rattle.poly_tiling.specs.Listings.{HasOverTilings, IsListOfTilings}
use Rattle.poly_tiling.specs.declared.lister.TheConstants.{MAX_TILINGS}
use Rattle.poly_book.specs.States.{State}
use Rattle.poly_tasks.specs.Stored.{Way}
use Rattle.poly_book.specs.declared.prepare.TheConstants.{MAX_GUARDS}

-- the design has at least n tilings
abbrev pub AreTilingsOf : ℕ → Layout → Type 0
AreTilingsOf n d = (all : List (List Placement)) → IsListOfTilings d all → n ≤ length all

-- the design has n tilings
abbrev pub AreAllTilingsOf : ℕ → Layout → Type 0
AreAllTilingsOf n d = (all : List (List Placement)) → IsListOfTilings d all → n ≡ length all

-- there is a change to undo, and undoing the newest leads to a design with over 1,000,000 tilings
abbrev pub UndoIsFull : State → Type 0
UndoIsFull s = (way : Way) × (rest : List Way) × (s.back ≡ way ∷ rest) × HasOverTilings MAX_TILINGS (changed s.design (inverse_of way.change))

-- there is a change to redo, and redoing the one that was undone last leads to a design with over 1,000,000 tilings
abbrev pub RedoIsFull : State → Type 0
RedoIsFull s = (way : Way) × (rest : List Way) × (s.forth ≡ way ∷ rest) × HasOverTilings MAX_TILINGS (changed s.design way.change)

-- the change from the first design to the second, or the change back, has more than 20,000 guards
abbrev pub IsWide : Layout → Layout → Type 0
IsWide d e = (n : ℕ) × (MAX_GUARDS < n) × (HasWidth d e n ⊎ HasWidth e d n)

-- the change from the first design to the second and the change back have at most 20,000 guards each
pub record IsNarrow (d e : Layout) : Type 0 where
  pub forth : ℕ
  pub back : ℕ
  pub forth_width : HasWidth d e forth
  pub back_width : HasWidth e d back
  pub few_forth : forth ≤ MAX_GUARDS
  pub few_back : back ≤ MAX_GUARDS
