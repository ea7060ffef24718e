-- Whether the most of a piece falls from one list of bounds to another.
use Rattle.std.specs.Prelude.{ℕ, ◌&&◌, List, None, Option, Some, nat_lt, if◌then◌else◌}
use Rattle.std.specs.List.{list_any}
use Rattle.poly_tiling.specs.declared.bound.Bound.{Bound}
use Rattle.poly_tiling.specs.declared.item.Item.{Item}
use Rattle.poly_tiling.specs.declared.item.Item.TheVariants.{Cell, Piece}
use Rattle.poly_tiling.specs.Puzzle.{bound_in, same_item}

-- the piece's name, if the item is a piece that the list has with a lower most than the given one; otherwise none
abbrev pub falls_at : List Bound → Item → ℕ → Option (List ℕ)
falls_at to (Cell c) most = None
falls_at to (Piece name) most = if (list_any (λ b. same_item b.item (Piece name)) to && nat_lt (bound_in to (Piece name) (λ b. b.most)) most) then Some name else None

abbrev pub falls : List Bound → Bound → Option (List ℕ)
falls to b = falls_at to b.item b.most
