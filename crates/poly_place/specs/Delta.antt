-- What a change of a design does to numbers, items and pieces.
use Rattle.std.specs.Prelude.{ℕ, ◌<◌, ◌≡◌, ◌↔◌, ◌++◌, List, true}
use Rattle.std.specs.List.{Contains}
use Rattle.std.specs.Map.{keys_of}
use Rattle.poly_shape.specs.Order.{IsAscending}
use Rattle.poly_design.specs.Layout.{Layout}
use Rattle.poly_design.specs.Listed.{IsListOf}
use Rattle.poly_design.specs.Name.{name_cmp}
use Rattle.poly_design.specs.PlacementOrder.{placement_cmp}
use Rattle.poly_design.specs.Placements.{IsPlacement}
use Rattle.poly_design.specs.declared.placement.Placement.{Placement}
use Rattle.poly_tiling.specs.declared.item.Item.{Item}
use Rattle.poly_tiling.specs.declared.item.Item.TheVariants.{Piece}
use Rattle.poly_tiling.specs.Names.{Names, in_order, item_cmp}
use Rattle.poly_tiling.specs.Puzzle.{View}
use Rattle.poly_tiling.specs.Shows.{IsNamed, given}
use Rattle.poly_tiling.specs.Tilings.{IsPin, bounds_of}
use Rattle.poly_place.specs.declared.delta.Delta.{Delta}
use Rattle.poly_place.specs.Right.{IsRight}

-- the numbers of the placements that satisfy P, each once, in placement order
pub record AreNumbersFor (v : View) (P : Placement → Type 0) (numbers : List ℕ) : Type 0 where
  pub given_out : given v numbers ≡ true
  pub up : in_order v numbers ≡ true
  pub exact : (p : Placement) → IsNamed v numbers p ↔ P p

-- an item whose least is higher in the second design; the least is 0 if a design doesn't have the item
abbrev pub LeastRises : Layout → Layout → Item → Type 0
LeastRises d e i = (bounds_of d i).least < (bounds_of e i).least

-- a piece of both designs whose most is lower in the second
pub record MostFalls (d e : Layout) (name : List ℕ) : Type 0 where
  pub in_first : Contains (keys_of d.pieces) name
  pub in_second : Contains (keys_of e.pieces) name
  pub lower : (bounds_of e (Piece name)).most < (bounds_of d (Piece name)).most

-- the eight differences between two designs; the view names the placements of both
pub record IsDelta (v : View) (before after : Layout) (x : Delta) : Type 0 where
  pub gone : AreNumbersFor v (λ p. IsPlacement before p × (¬ IsPlacement after p)) x.gone.items
  pub fresh : AreNumbersFor v (λ p. IsPlacement after p × (¬ IsPlacement before p)) x.fresh.items
  pub needed : IsListOf item_cmp (LeastRises before after) x.needed.items
  pub unneeded : IsListOf item_cmp (LeastRises after before) x.unneeded.items
  pub narrowed : IsListOf name_cmp (MostFalls before after) x.narrowed.items
  pub widened : IsListOf name_cmp (MostFalls after before) x.widened.items
  pub pinned : AreNumbersFor v (λ p. IsPin after p × (¬ IsPin before p)) x.pinned.items
  pub unpinned : AreNumbersFor v (λ p. IsPin before p × (¬ IsPin after p)) x.unpinned.items

-- new numbers go to placements of the design, in their order, and then to those of its pins that are no placements, in their
-- order; nothing else has a new number
pub record GivesInOrder (d : Layout) (old new : List Placement) : Type 0 where
  pub places : List Placement
  pub pins : List Placement
  pub all : new ≡ (old ++ places) ++ pins
  pub places_up : IsAscending placement_cmp places
  pub are_places : (p : Placement) → Contains places p → IsPlacement d p
  pub pins_up : IsAscending placement_cmp pins
  pub are_pins : (p : Placement) → Contains pins p → IsPin d p × (¬ IsPlacement d p)

-- what a plan promises: its view is right for the second design and keeps the table's numbers, new numbers are given in
-- order, and the delta has the differences between the two designs
pub record IsPlanFor (t : View) (before after : Layout) (v : View) (x : Delta) : Type 0 where
  pub right : IsRight v after
  pub names : Names t v
  pub order : GivesInOrder after t.placements v.placements
  pub delta : IsDelta v before after x
