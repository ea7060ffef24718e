-- The numbers of the placements that have an item, item by item.
use Rattle.std.specs.Prelude.{ℕ, ◌≡◌, ◌≢◌, ◌&&◌, ◌++◌, Bool, List, None, Option, Some, [], ◌∷◌, cond, filter, map, not, slice_get, suc}
use Rattle.std.specs.List.{AllPairs, list_any}
use Rattle.std.specs.Option.{option_map}
use Rattle.std.specs.declared.cmp.Ordering.TheVariants.{Less}
use Rattle.poly_design.specs.declared.change.Change.{Change}
use Rattle.poly_design.specs.declared.change.Change.TheVariants.{Cell as CellChange, Piece as PieceChange}
use Rattle.poly_design.specs.declared.placement.Placement.{Placement}
use Rattle.poly_tiling.specs.declared.bound.Bound.{Bound}
use Rattle.poly_tiling.specs.declared.item.Item.{Item}
use Rattle.poly_tiling.specs.declared.item.Item.TheVariants.{Cell, Piece}
use Rattle.poly_tiling.specs.Lists.{mem}
use Rattle.poly_tiling.specs.Names.{WellNamed, item_cmp}
use Rattle.poly_tiling.specs.Puzzle.{View, has_item, items_of, same_item}

-- an item, and the numbers in its row
abbrev pub Row : Type 0
Row = Item × List ℕ

-- the numbers of the item; none if it has no row
abbrev pub row_in : List Row → Item → List ℕ
row_in [] i = []
row_in (r ∷ rs) i = cond (same_item r.0 i) r.1 (row_in rs i)

-- the index of the item's row; none if it has no row
abbrev pub row_index : List Row → Item → Option ℕ
row_index [] i = None
row_index (r ∷ rs) i = cond (same_item r.0 i) (Some 0) (option_map suc (row_index rs i))

-- the rows are in item order, one for each item
abbrev pub AreRows : List Row → Type 0
AreRows rows = AllPairs (λ r s. item_cmp r.0 s.0 ≡ Less) rows

-- the live numbers whose placements have the item, each once
pub record AreNumbersWith (v : View) (i : Item) (numbers : List ℕ) : Type 0 where
  pub exact : (n : ℕ) → mem numbers n ≡ (mem v.live n && has_item v n i)
  pub apart : AllPairs (λ x y. x ≢ y) numbers

-- each item of the design has its row, in item order, and each row has the numbers of its item
pub record IsIndex (v : View) (rows : List Row) : Type 0 where
  pub items : map (λ r. r.0) rows ≡ map (λ b. b.item) v.bounds
  pub numbers : (i : Item) → AreNumbersWith v i (row_in rows i)

-- what holds of every table: its view is well named, and its rows are the index of this view
pub record IsIndexed (v : View) (rows : List Row) : Type 0 where
  pub well : WellNamed v
  pub index : IsIndex v rows

-- whether the placement of a number has the item
abbrev pub has_of : List Placement → ℕ → Item → Bool
has_of all n i = list_any (λ j. same_item j i) (items_of (slice_get all n))

-- each row, followed by those of the numbers that have its item
abbrev pub with_numbers : (ℕ → Item → Bool) → List ℕ → List Row → List Row
with_numbers has numbers rows = map (λ r. (r.0, r.1 ++ filter (λ n. has n r.0) numbers)) rows

-- a row for each bound's item, with the unmarked numbers of the item's old row
abbrev pub rows_without : (ℕ → Bool) → List Row → List Bound → List Row
rows_without marked old bounds = map (λ b. (b.item, filter (λ n. not (marked n)) (row_in old b.item))) bounds

-- the cell or the piece that changes
abbrev pub item_of : Change → Item
item_of (CellChange c before after) = Cell c
item_of (PieceChange name before after) = Piece name
