use Rattle.std.proofs.Common.{◌∙◌, List, get_or, sym, ap, subst}
use Rattle.std.specs.List.{Contains}
use Rattle.std.proofs.lemmas.List.Elements.{Decides-contains, contains_decides}
use Rattle.poly_grid.specs.Spot.{Spot}
use Rattle.poly_design.specs.declared.placement.Placement.{Placement}
use Rattle.poly_design.proofs.Same.{placement_decides, placement_test}
use Rattle.poly_design.proofs.design.Design.is_placement.Goals as goal

pub returns-clause-ok : goal.returns-clause-ok
returns-clause-ok c =
    let p : Placement = record { name = c.args.name; cells = c.args.cells.now } in
    let first = c.index-as_slice-0.result in
    let here : Contains c.args.cells.now first = (0, c.as_slice.ensures.some, sym (c.index-as_slice-0.is ∙ ap (λ (l : List Spot). get_or l 0 first) c.as_slice.ensures.value)) in
    let tests = Decides-contains c.deref.result.now p _ (contains_decides placement_test placement_decides c.deref.result.now p _ c.contains.ensures.cases) in (
      λ t. ((c.in_ok-list.ensures.ok.exact p).0 (subst (λ (l : List Placement). Contains l p) c.deref.ensures.value (tests.0 t))).0,
      λ is. tests.1 (subst (λ (l : List Placement). Contains l p) (sym c.deref.ensures.value) ((c.in_ok-list.ensures.ok.exact p).1 (is, here))),
    )
