use Rattle.std.proofs.Common.{take, true, ◌≡◌}
use Rattle.std.specs.List.{list_any}
use Rattle.poly_tiling.specs.Puzzle.{same_item}
use Rattle.poly_tiling.specs.declared.item.Item.{Item}
use Rattle.poly_tiling.specs.declared.item.Item.TheVariants.{Piece}
use Rattle.poly_tasks.specs.Mapped.{key_of, spanned}
use Rattle.poly_tasks.specs.Reaching.{IsFarther, IsReached}
use Rattle.poly_tasks.proofs.reach.reach_names.Given as goal

abbrev pub invariant-loop-name : goal.invariant-loop-name
invariant-loop-name l = record {
  farther : IsFarther l.fn.reach.items l.reach.items;
  reached : (q : Item) → list_any (λ x. same_item (Piece x) q) (take l.name-index l.names) ≡ true → IsReached l.reach.items l.tasks (λ n. spanned l.rows.entries (key_of q) n);
}
