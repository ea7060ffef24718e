use Rattle.std.proofs.Common.{◌∙◌, ◌++◌, [], List, map, ap, subst}
use Rattle.std.specs.List.{Contains}
use Rattle.std.specs.Map.{keys_of}
use Rattle.poly_grid.specs.Spot.{Spot}
use Rattle.poly_shape.specs.Order.{cells_cmp}
use Rattle.poly_design.specs.Listed.{IsListOf}
use Rattle.poly_design.specs.Placements.{IsPlace}
use Rattle.poly_design.specs.declared.placement.Placement.{Placement}
use Rattle.poly_design.proofs.Rows.{named, named_listed}
use Rattle.poly_design.proofs.listing.placements_of.Goals as goal

pub returns-clause-ok : goal.returns-clause-ok
returns-clause-ok c =
    named_listed c.args.name (IsPlace (Contains (keys_of c.args.cells.now.entries)) c.args.spec.now) c.in_ok-found.found.items c.append.new.list.items
    (subst (λ (b : List Spot). IsListOf cells_cmp (IsPlace (Contains b) c.args.spec.now) c.in_ok-found.found.items) c.in_ok-board.ensures.ok c.in_ok-found.ensures.ok)
    (c.in_ok-append.ensures.ok ∙ ap (λ (l : List Placement). l ++ map (named c.args.name) c.deref.result.now) c.new-list.ensures.items ∙ ap (λ (l : List (List Spot)). [] ++ map (named c.args.name) l) c.deref.ensures.value)
