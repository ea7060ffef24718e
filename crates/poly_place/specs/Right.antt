-- When a table is right for a design.
use Rattle.poly_design.specs.Layout.{Layout}
use Rattle.poly_tiling.specs.Names.{WellNamed}
use Rattle.poly_tiling.specs.Puzzle.{View}
use Rattle.poly_tiling.specs.Shows.{Shows}

-- The table's live numbers name exactly the design's placements, and the table's pins name exactly the design's pins: each
-- once, in placement order. The bounds of the table are those of the design's items.
pub record IsRight (t : View) (d : Layout) : Type 0 where
  pub well : WellNamed t
  pub shows : Shows t d
