use Rattle.std.proofs.Common.{arith, length, get_or, subst, sym, take, ℕ, ◌+◌, ◌<◌, ◌∙◌, ◌≡◌}
use Rattle.std.proofs.Math.ListN.{set}
use Rattle.std.proofs.lemmas.List.{get_or_read, length-set}
use Rattle.poly_frame.specs.FrameItems.{times}
use Rattle.poly_frame.proofs.FrameItems.{at_low, raise_fits, raise_step}
use Rattle.poly_frame.proofs.frame.notes.raise_and_note.Goals as goal

pub overflow_add-index_mut : goal.overflow_add-index_mut
overflow_add-index_mut c =
    let old = c.args.have.now.items in
    let have = c.loop-b.have.items in
    let xs = c.args.indices.now in
    let k = c.loop-b.b-index in
    let low : get_or xs k 0 < length have = omega (arith, at_low old have xs k c.loop-b-test.true c.loop-b.invariant.len c.requires.low) in
    omega (arith, get_or_read have (get_or xs k 0) c.index_mut.result.now low c.index_mut.ensures.value 0, raise_fits old have xs k c.loop-b-test.true c.loop-b.invariant.len c.requires.low c.requires.small c.loop-b.invariant.more)

pub loop-b-preserved : goal.loop-b-preserved
loop-b-preserved c =
    let old = c.args.have.now.items in
    let have = c.loop-b.have.items in
    let xs = c.args.indices.now in
    let k = c.loop-b.b-index in
    let low : get_or xs k 0 < length have = omega (arith, at_low old have xs k c.loop-b-test.true c.loop-b.invariant.len c.requires.low) in
    let read = get_or_read have (get_or xs k 0) c.index_mut.result.now low c.index_mut.ensures.value 0 in
    record {
      len = length-set have (get_or xs k 0) (c.index_mut.result.now + 1) ∙ c.loop-b.invariant.len;
      more = λ b h. subst (λ (w : ℕ). get_or (set have (get_or xs k 0) (w + 1)) b 0 ≡ get_or old b 0 + times (take (k + 1) xs) b) (sym read)
          (raise_step old have xs k c.loop-b-test.true c.loop-b.invariant.len c.requires.low c.loop-b.invariant.more b h);
    }
