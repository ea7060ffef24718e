use Rattle.poly_tiling.specs.Puzzle.{has_item}
use Rattle.poly_browse.specs.Gathering.{has_it}
use Rattle.poly_browse.proofs.Worded.{all_not, none_small}
use Rattle.poly_browse.proofs.covers.are_there.Goals as goal

pub returns-then-not-is_there : goal.returns-then-not-is_there
returns-then-not-is_there c = λ e T small.
    let v = c.args.view.now in
    all_not (λ i. has_it v T i) c.args.items.now c.loop-item.item-index c.item-item.result c.loop-item-test.true c.item-item.is (none_small (λ n. has_item v n c.item-item.result) T small (c.is_there.ensures c.if-not-is_there.true))
