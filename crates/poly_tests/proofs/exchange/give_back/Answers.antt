use Rattle.std.proofs.Common.{List, subst, sym, ℕ}
use Rattle.std.specs.Arc.{arc_value}
use Rattle.poly_design.specs.Changes.{changed}
use Rattle.poly_tiling.specs.Puzzle.{View}
use Rattle.poly_catalogue.specs.Listed.{AreOfEither}
use Rattle.poly_catalogue.proofs.Parted.{of_plan}
use Rattle.poly_tests.proofs.exchange.give_back.Goals as goal

pub exchange_twice-requires : goal.exchange_twice-requires
exchange_twice-requires c =
    let p = c.in-Ok.plan in
    subst (λ (w : View). AreOfEither w p.delta c.args.catalogue.now) (sym c.deref.ensures)
    (of_plan c.args.table.now (arc_value p.view) c.args.design.now (changed c.args.design.now c.in_ok-change.change) p.delta c.args.catalogue.now c.requires.right c.in-Ok.ensures.ok c.requires.listed)
