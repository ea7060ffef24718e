use Rattle.std.proofs.Common.{List, false, length, subst, ℕ, ◌<◌, ◌∙◌, ◌≡◌}
use Rattle.poly_tiling.specs.declared.bound.Bound.{Bound}
use Rattle.poly_tiling.specs.Puzzle.{same_item}
use Rattle.poly_frame.specs.FrameItems.{item_at}
use Rattle.poly_frame.proofs.FrameQueries.{none_has}
use Rattle.poly_frame.proofs.frame.queries.list_options.Goals as goal

pub returns-in-None-clause-items : goal.returns-in-None-clause-items
returns-in-None-clause-items c =
    let s = c.args.steps.now in
    let v = c.args.node.now.view.now in
    c.clear.ensures.items ∙ none_has v c.args.node.now.trail.now c.args.node.now.base c.args.node.now.matrix.now c.args.node.now.table.now s.live.items s.have.items s.raised.items s.marks.items c.requires.kept c.args.item
    (subst (λ (bs : List Bound). (b : ℕ) → b < length bs → same_item (item_at bs b) c.args.item ≡ false) c.items.ensures.value (λ b h. c.in-None.ensures b h))
