-- How many guards a change has, by the two designs alone.
use Rattle.std.specs.Prelude.{List, length, ℕ, ◌+◌, ◌≡◌}
use Rattle.poly_design.specs.Layout.{Layout}
use Rattle.poly_design.specs.Listed.{IsListOf}
use Rattle.poly_design.specs.Name.{name_cmp}
use Rattle.poly_design.specs.PlacementOrder.{placement_cmp}
use Rattle.poly_design.specs.Placements.{IsPlacement}
use Rattle.poly_design.specs.declared.placement.Placement.{Placement}
use Rattle.poly_place.specs.Between.{IsChangeOf}
use Rattle.poly_place.specs.Delta.{LeastRises, MostFalls}
use Rattle.poly_place.specs.declared.delta.Delta.{Delta}
use Rattle.poly_tiling.specs.Names.{item_cmp}
use Rattle.poly_tiling.specs.Puzzle.{View}
use Rattle.poly_tiling.specs.Tilings.{IsPin}
use Rattle.poly_tiling.specs.declared.item.Item.{Item}
use Rattle.poly_atom.specs.Guards.{guards}

-- The change from the first design to the second has n guards: one for each placement that is new, each item whose least
-- fell, each piece of both designs whose most rose, and each pin that was taken away.
pub record HasWidth (d e : Layout) (n : ℕ) : Type 0 where
  pub fresh : List Placement
  pub unneeded : List Item
  pub widened : List (List ℕ)
  pub unpinned : List Placement
  pub are_fresh : IsListOf placement_cmp (λ p. IsPlacement e p × (¬ IsPlacement d p)) fresh
  pub are_unneeded : IsListOf item_cmp (LeastRises e d) unneeded
  pub are_widened : IsListOf name_cmp (MostFalls e d) widened
  pub are_unpinned : IsListOf placement_cmp (λ p. IsPin d p × (¬ IsPin e p)) unpinned
  pub whole : n ≡ length fresh + (length unneeded + (length widened + length unpinned))

-- A change and its inverse each have as many guards as HasWidth says of the two designs.
abbrev pub WidthsShow : Type 0
WidthsShow = (v w : View) (x : Delta) → (c : IsChangeOf v w x) → HasWidth c.before c.after (length (guards v w)) × HasWidth c.after c.before (length (guards w v))

-- The change from one design to another has only one width.
abbrev pub WidthIsOne : Type 0
WidthIsOne = (d e : Layout) (m n : ℕ) → HasWidth d e m → HasWidth d e n → m ≡ n
