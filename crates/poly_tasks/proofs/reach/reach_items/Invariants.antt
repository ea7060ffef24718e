use Rattle.std.proofs.Common.{take, true, ◌≡◌}
use Rattle.std.specs.List.{list_any}
use Rattle.poly_tiling.specs.Puzzle.{same_item}
use Rattle.poly_tiling.specs.declared.item.Item.{Item}
use Rattle.poly_tasks.specs.Mapped.{key_of, spanned}
use Rattle.poly_tasks.specs.Reaching.{IsFarther, IsReached}
use Rattle.poly_tasks.proofs.reach.reach_items.Given as goal

abbrev pub invariant-loop-item : goal.invariant-loop-item
invariant-loop-item l = record {
  farther : IsFarther l.fn.reach.items l.reach.items;
  reached : (q : Item) → list_any (λ x. same_item x q) (take l.item-index l.items) ≡ true → IsReached l.reach.items l.tasks (λ n. spanned l.rows.entries (key_of q) n);
}
