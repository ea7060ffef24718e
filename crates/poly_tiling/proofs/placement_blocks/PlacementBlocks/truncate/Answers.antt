use Rattle.std.proofs.Common.{ap, take, ◌*◌, ◌/◌, ◌∙◌}
use Rattle.poly_tiling.proofs.Blocked.{cut_count, cut_joined, cut_size}
use Rattle.poly_tiling.proofs.placement_blocks.PlacementBlocks.truncate.Goals as goal

pub invariant_of-self : goal.invariant_of-self
invariant_of-self c = (
  cut_size (c.args.count / 1024) c.truncate.new.self.items c.self.inside.blocks.items c.self.invariant.0 c.truncate.ensures.items,
  c.min-self-inside.ensures ∙ cut_count (c.args.count / 1024) c.self.inside.count c.truncate.new.self.items c.self.inside.blocks.items c.self.invariant.0 c.self.invariant.1 c.truncate.ensures.items,
)

pub returns : goal.returns
returns c = cut_joined (c.args.count / 1024) c.truncate.new.self.items c.self.inside.blocks.items c.self.invariant.0 c.truncate.ensures.items ∙ ap (λ l. take (c.args.count / 1024 * 1024) l) c.self.view_is
