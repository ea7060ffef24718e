use Rattle.std.proofs.Common.{◌∙◌}
use Rattle.std.specs.List.{list_all}
use Rattle.std.specs.Slice.Iter.{chunks_rest}
use Rattle.poly_browse.specs.Gathering.{has_it}
use Rattle.poly_browse.specs.Lines.{have_all}
use Rattle.poly_browse.proofs.Masked.{some_done, some_more}
use Rattle.poly_browse.proofs.covers.covers_of.Goals as goal

pub loop-some-preserved : goal.loop-some-preserved
loop-some-preserved c =
    let steps = c.in-Some.ensures.steps in
    record {
      size = steps.0 ∙ c.loop-some.invariant.size;
      so_far = λ T small.
          some_more (λ m. have_all m T) (λ i. has_it c.args.view.now T i) c.loop-some.masks.items _ c.in_ok-masks_of.field-0 c.in-Some.some.now (chunks_rest c.loop-some.some-iterator) (chunks_rest c.next.new.self) c.args.items.now
          c.in_ok-push.ensures.items (c.in_ok-masks_of.ensures.ok T small) steps.1.0 (c.loop-some.invariant.so_far T small);
    }

pub returns-clause-ok : goal.returns-clause-ok
returns-clause-ok c = λ T small.
    some_done (list_all (λ m. have_all m T) c.loop-some.masks.items) (λ i. has_it c.args.view.now T i) (chunks_rest c.loop-some.some-iterator) c.args.items.now c.in-None.ensures.steps.1.0 (c.loop-some.invariant.so_far T small)
