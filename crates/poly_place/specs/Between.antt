-- A change of a design, as the views before and after it show it.
use Rattle.poly_design.specs.Layout.{Layout}
use Rattle.poly_design.specs.Limits.{IsDesign}
use Rattle.poly_tiling.specs.Names.{Names}
use Rattle.poly_tiling.specs.Puzzle.{View}
use Rattle.poly_place.specs.declared.delta.Delta.{Delta}
use Rattle.poly_place.specs.Delta.{IsDelta}
use Rattle.poly_place.specs.Right.{IsRight}

-- The first view shows the design before the change, and the second view shows the design after it. The second view keeps
-- the numbers of the first and may have more. The delta has the differences between the two designs.
pub record IsChangeOf (v w : View) (x : Delta) : Type 0 where
  pub before : Layout
  pub after : Layout
  pub shown : IsRight v before
  pub updated : IsRight w after
  pub first : IsDesign before
  pub second : IsDesign after
  pub names : Names v w
  pub delta : IsDelta w before after x
