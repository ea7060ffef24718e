use Rattle.std.proofs.Common.{ap, drop, nat_lt, sym, ◌++◌, ◌+◌, ◌∙◌}
use Rattle.poly_atom.specs.declared.atom.Atom.TheVariants.{AtMost}
use Rattle.poly_atom.proofs.Merge.{bound_below, rose, same_bound, walk, walk_done, walk_rose, walk_step}
use Rattle.poly_atom.proofs.change.with_risen.Goals as goal

pub loop-bound-preserved : goal.loop-bound-preserved
loop-bound-preserved c = record {
  inside = c.skip_items-at.ensures.inside;
  walked =
      ap (λ out. out ++ walk bound_below same_bound rose (λ b. AtMost b.item b.most) (drop (c.loop-bound.bound-index + 1) c.args.old.now) (drop c.skip_items-at.result c.args.new.now)) c.in_ok-add_if.ensures
      ∙ walk_step bound_below same_bound rose (λ b. AtMost b.item b.most) c.args.old.now c.loop-bound.bound-index c.bound-item.result (drop c.loop-bound.at c.args.new.now) (drop c.skip_items-at.result c.args.new.now)
      c.loop-bound.atoms.items _ c.loop-bound-test.true c.bound-item.is c.skip_items-at.ensures.rest (ap (λ n. nat_lt c.bound-item.result.most n) c.bounds_at.ensures.most)
      ∙ c.loop-bound.invariant.walked;
}

pub returns : goal.returns
returns c =
    sym (walk_done bound_below same_bound rose (λ b. AtMost b.item b.most) c.args.old.now c.loop-bound.bound-index (drop c.loop-bound.at c.args.new.now) c.loop-bound.atoms.items c.loop-bound-test.false)
    ∙ c.loop-bound.invariant.walked ∙ ap (λ w. c.args.atoms.items ++ w) (walk_rose (λ b. AtMost b.item b.most) c.args.old.now c.args.new.now c.requires.old_up c.requires.new_up)
