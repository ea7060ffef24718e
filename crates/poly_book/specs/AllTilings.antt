-- All tilings of a design.
use Rattle.std.specs.List.Sorted.{IsSorted}
use Rattle.std.specs.Prelude.{List, [], length, ℕ, ◌≡◌}
use Rattle.poly_design.specs.Layout.{Layout}
use Rattle.poly_design.specs.Limits.{IsDesign}
use Rattle.poly_tiling.specs.Lister.{HasEachOnce}
use Rattle.poly_tiling.specs.Names.{WellNamed}
use Rattle.poly_tiling.specs.Puzzle.{View}
use Rattle.poly_tiling.specs.Shows.{Shows}
use Rattle.poly_tiling.specs.TilingOrder.{tiling_cmp}
use Rattle.poly_book.specs.States.{State}

-- a design at an edition, and tilings by the numbers of a view
pub record AllTilings : Type 0 where
  pub design : Layout
  pub edition : ℕ
  pub view : View
  pub tilings : List (List ℕ)

-- the view shows the design, and the tilings are all of its tilings, in the order of tilings, each once
pub record HasAll (q : AllTilings) : Type 0 where
  pub is_design : IsDesign q.design
  pub well : WellNamed q.view
  pub shows : Shows q.view q.design
  pub each : HasEachOnce q.view q.tilings
  pub order : IsSorted (tiling_cmp q.view) q.tilings

-- nothing is pending in the state, and `q` has the state's design, edition and view
pub record IsQuietOf (s : State) (q : AllTilings) : Type 0 where
  pub none : s.pending ≡ []
  pub design : q.design ≡ s.design
  pub edition : q.edition ≡ length s.steps
  pub view : q.view ≡ s.view
