use Rattle.std.proofs.Common.{List, ap, arith, get_or, length, refl, subst, sym, take, ℕ, ◌+◌, ◌-◌, ◌<◌, ◌∙◌, ◌≡◌}
use Rattle.std.proofs.Math.ListN.{set}
use Rattle.std.proofs.lemmas.List.{get_or_read, length-set, take_all}
use Rattle.poly_frame.specs.FrameItems.{times}
use Rattle.poly_frame.proofs.FrameItems.{at_low, lowered_fits, lowered_step}
use Rattle.poly_frame.proofs.frame.notes.lower_and_note.Goals as goal

pub overflow_sub-index_mut : goal.overflow_sub-index_mut
overflow_sub-index_mut c =
    let old = c.args.have.now.items in
    let have = c.loop-b.have.items in
    let xs = c.args.indices.now in
    let k = c.loop-b.b-index in
    let low : get_or xs k 0 < length have = omega (arith, at_low old have xs k c.loop-b-test.true c.loop-b.invariant.len c.requires.low) in
    omega (arith, get_or_read have (get_or xs k 0) c.index_mut.result.now low c.index_mut.ensures.value 0, lowered_fits old have xs k c.loop-b-test.true c.loop-b.invariant.len c.requires.low c.requires.enough c.loop-b.invariant.less)

pub loop-b-preserved : goal.loop-b-preserved
loop-b-preserved c =
    let old = c.args.have.now.items in
    let have = c.loop-b.have.items in
    let xs = c.args.indices.now in
    let k = c.loop-b.b-index in
    let low : get_or xs k 0 < length have = omega (arith, at_low old have xs k c.loop-b-test.true c.loop-b.invariant.len c.requires.low) in
    let read = get_or_read have (get_or xs k 0) c.index_mut.result.now low c.index_mut.ensures.value 0 in
    record {
      len = length-set have (get_or xs k 0) (c.index_mut.result.now - 1) ∙ c.loop-b.invariant.len;
      less = λ b h. subst (λ (w : ℕ). get_or (set have (get_or xs k 0) (w - 1)) b 0 + times (take (k + 1) xs) b ≡ get_or old b 0) (sym read)
          (lowered_step old have xs k c.loop-b-test.true c.loop-b.invariant.len c.requires.low (lowered_fits old have xs k c.loop-b-test.true c.loop-b.invariant.len c.requires.low c.requires.enough c.loop-b.invariant.less) c.loop-b.invariant.less b h);
    }

pub loop-b-init : goal.loop-b-init
loop-b-init c = record {
  len = refl;
  less = λ b h. omega arith;
}

pub returns-clause-less : goal.returns-clause-less
returns-clause-less c = λ b h. ap (λ (xs : List ℕ). get_or c.loop-b.have.items b 0 + times xs b) (sym (take_all c.loop-b.b-index c.args.indices.now c.loop-b-test.false)) ∙ c.loop-b.invariant.less b h
