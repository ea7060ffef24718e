-- The listed tilings that cover an item.
use Rattle.std.specs.Prelude.{Bool, List, false, length, slice_index_or, ℕ, ◌≡◌}
use Rattle.std.specs.List.{list_any}
use Rattle.poly_tiling.specs.declared.item.Item.{Item}
use Rattle.poly_tiling.specs.Puzzle.{View, has_item}
use Rattle.poly_catalogue.specs.Rows.{row}

-- a mark for each tiling of the list; it is set exactly if one of the tiling's placements has the item
pub record AreCovering (w : View) (i : Item) (list : List (List ℕ)) (marks : List Bool) : Type 0 where
  pub long : length marks ≡ length list
  pub exact : (t : ℕ) → slice_index_or marks t false ≡ list_any (λ p. has_item w p i) (row list t)
