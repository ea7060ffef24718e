use Rattle.std.proofs.Common.{List, [], ap, append_assoc, map, subst, ◌++◌, ◌∙◌, ◌∷◌}
use Rattle.poly_grid.specs.Spot.{Spot}
use Rattle.poly_tiling.specs.declared.bound.Bound.{Bound}
use Rattle.poly_tiling.specs.Puzzle.{items_of}
use Rattle.poly_tiling.specs.declared.item.Item.{Item}
use Rattle.poly_tiling.specs.declared.item.Item.TheVariants.{Cell, Piece}
use Rattle.poly_frame.specs.FrameItems.{Noted}
use Rattle.poly_frame.proofs.FrameItems.{noted_piece}
use Rattle.poly_frame.proofs.frame.items.note_items.Goals as goal

pub returns-in-Some-clause-indices : goal.returns-in-Some-clause-indices
returns-in-Some-clause-indices c =
    let v = c.args.view.now in
    let one = c.note_item.ensures.indices in
    let more = c.note_cells.ensures.indices in
    let n = c.in-Some.placement.name in
    let first = subst (λ (bs : List Bound). Noted bs (Piece n ∷ []) one.0) c.items.ensures.value one.2 in
    let rest = subst (λ (cs : List Spot). Noted v.bounds (map (λ c. Cell c) cs) more.0) c.as_slice.ensures.value (subst (λ (bs : List Bound). Noted bs (map (λ c. Cell c) c.as_slice.result.now) more.0) c.items-in-Some.ensures.value more.2) in (
      one.0 ++ more.0,
      more.1 ∙ ap (λ xs. xs ++ more.0) one.1 ∙ append_assoc c.args.noted.now.items one.0 more.0,
      subst (λ (is : List Item). Noted v.bounds is (one.0 ++ more.0)) (ap items_of c.in-Some.ensures) (noted_piece v.bounds n c.in-Some.placement.cells one.0 more.0 first rest),
    )
