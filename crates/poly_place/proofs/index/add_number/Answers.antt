use Rattle.std.proofs.Common.{[], Option, ap, false, refl, sym, ◌∙◌, ◌∷◌}
use Rattle.std.specs.List.{list_any}
use Rattle.poly_design.specs.declared.placement.Placement.{Placement}
use Rattle.poly_tiling.specs.Puzzle.{items_of, same_item}
use Rattle.poly_place.specs.Index.{with_numbers}
use Rattle.poly_place.proofs.Rows.{all_none}
use Rattle.poly_place.proofs.index.add_number.Goals as goal

pub returns-in-None-clause-ok : goal.returns-in-None-clause-ok
returns-in-None-clause-ok c =
    let n = c.args.number in
    sym (all_none (λ i. false) n c.args.rows.now (λ r j. refl))
    ∙ ap (λ (o : Option Placement). with_numbers (λ m i. list_any (λ j. same_item j i) (items_of o)) (n ∷ []) c.args.rows.now) (sym c.in-None.is ∙ c.placement.ensures)
