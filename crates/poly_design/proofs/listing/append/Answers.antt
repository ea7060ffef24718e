use Rattle.std.proofs.Common.{◌∙◌, ◌++◌, List, ap, map}
use Rattle.std.proofs.lemmas.List.{take_all}
use Rattle.poly_grid.specs.Spot.{Spot}
use Rattle.poly_design.specs.declared.placement.Placement.{Placement}
use Rattle.poly_design.proofs.Sets.{appended_more}
use Rattle.poly_design.proofs.listing.append.Goals as goal

pub loop-cells-preserved : goal.loop-cells-preserved
loop-cells-preserved c =
    let f : List Spot → Placement = λ k. record { name = c.args.name; cells = k } in
    appended_more f c.args.list.now.items c.loop-cells.list.items c.push.new.self.items c.args.places.now c.loop-cells.cells-index c.cells-item.result c.loop-cells.invariant c.in_ok-push.ensures.items c.loop-cells-test.true c.cells-item.is

pub returns-clause-ok : goal.returns-clause-ok
returns-clause-ok c =
    let f : List Spot → Placement = λ k. record { name = c.args.name; cells = k } in
    c.loop-cells.invariant ∙ ap (λ l. c.args.list.now.items ++ map f l) (take_all c.loop-cells.cells-index c.args.places.now c.loop-cells-test.false)
