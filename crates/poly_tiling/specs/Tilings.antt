-- What a tiling of a design is, by the design's own placements: an exact cover with primary and secondary items and with
-- multiplicities (Knuth, The Art of Computer Programming, volume 4B, section 7.2.2.1). Nothing here knows of an order,
-- of placement numbers, of tables or of a search.
use Rattle.std.specs.List.{AllPairs, Contains, list_any}
use Rattle.std.specs.Prelude.{Bool, List, None, Option, Some, ℕ, ◌≡◌, ◌≢◌, ◌≤◌}
use Rattle.poly_grid.specs.Spot.{Spot}
use Rattle.poly_design.specs.Bounds.{Bounds}
use Rattle.poly_design.specs.Layout.{Layout, mode_of, spec_of}
use Rattle.poly_design.specs.Placements.{IsPlacement}
use Rattle.poly_design.specs.declared.mode.Mode.{Mode}
use Rattle.poly_design.specs.declared.mode.Mode.TheVariants.{Blocked, Optional, Required}
use Rattle.poly_design.specs.declared.placement.Placement.{Placement}
use Rattle.poly_design.specs.declared.spec.Spec.{Spec}
use Rattle.poly_tiling.specs.declared.item.Item.{Item}
use Rattle.poly_tiling.specs.declared.item.Item.TheVariants.{Cell, Piece}
use Rattle.poly_tiling.specs.Lists.{tally}
use Rattle.poly_tiling.specs.Puzzle.{items_of, same_item}

-- two placements are in conflict if they are different and share a cell
pub record Conflict (p q : Placement) : Type 0 where
  pub differ : p ≢ q
  pub shared : Spot
  pub in_first : Contains p.cells shared
  pub in_second : Contains q.cells shared

abbrev pub bounds_of_mode : Mode → Bounds
bounds_of_mode Required = record { least = 1; most = 1 }
bounds_of_mode Optional = record { least = 0; most = 1 }
bounds_of_mode Blocked = record { least = 0; most = 0 }

abbrev pub bounds_of_piece : Option Spec → Bounds
bounds_of_piece None = record { least = 0; most = 0 }
bounds_of_piece (Some spec) = spec.copies

-- how many members of a tiling have an item, at least and at most: 1 and 1 for a required cell, 0 and 1 for an optional
-- cell, the least and the most of its copies for a piece, and 0 and 0 for an item that the design doesn't have
abbrev pub bounds_of : Layout → Item → Bounds
bounds_of d (Cell c) = bounds_of_mode (mode_of d c)
bounds_of d (Piece name) = bounds_of_piece (spec_of d name)

-- the placement that a piece is pinned to, whether or not it is a placement of the design
pub record IsPin (d : Layout) (p : Placement) : Type 0 where
  pub spec : Spec
  pub has : Contains d.pieces (p.name, spec)
  pub pinned : spec.pin ≡ Some p.cells

-- the item is the placement's piece or one of its cells
abbrev pub carries : Placement → Item → Bool
carries p i = list_any (λ j. same_item j i) (items_of (Some p))

-- how many members have the item
abbrev pub how_many : List Placement → Item → ℕ
how_many T i = tally (λ p. carries p i) T

-- A tiling of a design. A list without repeats represents the set of its members: its order means nothing.
pub record IsTiling (d : Layout) (T : List Placement) : Type 0 where
  pub single : AllPairs (λ p q. p ≢ q) T
  pub inside : (p : Placement) → Contains T p → IsPlacement d p
  pub free : (p q : Placement) → Contains T p → Contains T q → ¬ Conflict p q
  pub least : (i : Item) → (bounds_of d i).least ≤ how_many T i
  pub most : (i : Item) → how_many T i ≤ (bounds_of d i).most
  pub pinned : (p : Placement) → IsPin d p → Contains T p
