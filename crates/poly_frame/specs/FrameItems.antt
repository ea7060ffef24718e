-- Items by their indices among the items of a view.
use Rattle.std.specs.Prelude.{List, length, nat_lt, slice_index_or, true, ℕ, ◌<◌, ◌==◌, ◌≡◌, ◌≤◌}
use Rattle.std.specs.List.{list_all, list_any}
use Rattle.poly_tiling.specs.declared.bound.Bound.{Bound}
use Rattle.poly_tiling.specs.declared.item.Item.{Item}
use Rattle.poly_tiling.specs.declared.item.Item.TheVariants.{Cell}
use Rattle.poly_tiling.specs.Lists.{one, tally}
use Rattle.poly_tiling.specs.Puzzle.{View, same_item}

abbrev pub no_bound : Bound
no_bound = record { item = Cell (record { x = 0; y = 0 }); least = 0; most = 0 }

abbrev pub item_at : List Bound → ℕ → Item
item_at bounds b = (slice_index_or bounds b no_bound).item

-- the item at an index of the view's items
abbrev pub item_of : View → ℕ → Item
item_of v b = item_at v.bounds b

-- how often a list has a number
abbrev pub times : List ℕ → ℕ → ℕ
times xs b = tally (λ x. x == b) xs

-- `indices` has the index of each item of `is` that is an item of the view, each once
pub record Noted (bounds : List Bound) (is : List Item) (indices : List ℕ) : Type 0 where
  pub few : length indices ≤ length is
  pub low : list_all (λ b. nat_lt b (length bounds)) indices ≡ true
  pub once : (b : ℕ) → b < length bounds → times indices b ≡ one (list_any (λ i. same_item i (item_at bounds b)) is)
