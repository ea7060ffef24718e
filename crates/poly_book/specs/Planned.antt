-- What a book's plan of a change promises.
use Rattle.std.specs.Arc.{arc_value}
use Rattle.poly_design.specs.Layout.{Layout}
use Rattle.poly_tiling.specs.Names.{Grown}
use Rattle.poly_tiling.specs.Puzzle.{View}
use Rattle.poly_place.specs.Delta.{IsPlanFor}
use Rattle.poly_place.specs.Right.{IsRight}
use Rattle.poly_place.specs.declared.plan.Plan.{Plan}

-- the plan of a table that shows the design before the change, by the view's numbers and perhaps more
pub record IsPlanOver (v : View) (before after : Layout) (p : Plan) : Type 0 where
  pub table : View
  pub first : Grown v table
  pub right : IsRight table before
  pub plan : IsPlanFor table before after (arc_value p.view) p.delta
