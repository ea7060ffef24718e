use Rattle.std.proofs.Common.{List, false, length, subst, sym, ℕ, ◌<◌, ◌≡◌}
use Rattle.poly_tiling.specs.declared.bound.Bound.{Bound}
use Rattle.poly_tiling.specs.Puzzle.{same_item}
use Rattle.poly_frame.specs.FrameItems.{item_at}
use Rattle.poly_frame.proofs.Elsewhere.{none_elsewhere}
use Rattle.poly_frame.proofs.frame.allowed.count.Goals as goal

pub returns-in-None : goal.returns-in-None
returns-in-None c =
    let none = subst (λ (bs : List Bound). (b : ℕ) → b < length bs → same_item (item_at bs b) c.args.item.now ≡ false) c.items.ensures.value c.in-None.ensures in
    sym (none_elsewhere c.args.node.now.view.now c.args.node.now.trail.now c.args.item.now c.requires.kept.table.matrix.well none)
