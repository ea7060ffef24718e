-- A design by numbers, as a view shows it.
use Rattle.std.specs.Prelude.{List}
use Rattle.poly_design.specs.declared.placement.Placement.{Placement}
use Rattle.poly_tiling.specs.Puzzle.{View}
use Rattle.poly_place.specs.declared.numbered.Numbered.{Numbered}

-- the view of the numbered design, in which a number is the index of the placement that it names
abbrev pub numbered_view : List Placement → Numbered → View
numbered_view names numbered = record { placements = names; live = numbered.live.items; bounds = numbered.bounds.items; pins = numbered.pins.items }
