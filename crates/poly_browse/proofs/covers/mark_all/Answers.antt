use Rattle.std.proofs.Common.{ap, arith, bit_or, eqb, false, get_or, length, true, take, ◌%◌, ◌&&◌, ◌*◌, ◌<◌, ◌^◌, ◌||◌, ◌∙◌, ◌≡◌}
use Rattle.std.proofs.Math.ListN.{set}
use Rattle.std.proofs.lemmas.List.{get_or_read, take_all}
use Rattle.poly_browse.specs.Lines.{in_mask}
use Rattle.poly_browse.proofs.Rows.{flag_more}
use Rattle.poly_browse.proofs.Masked.{length_set, marked_same, marked_up}
use Rattle.poly_browse.proofs.covers.mark_all.Goals.{then-flags-at, else-flags-at}
use Rattle.poly_browse.proofs.covers.mark_all.Goals as goal

pub loop-at-preserved : goal.loop-at-preserved
loop-at-preserved c =
    let flags = c.args.flags.now in
    let first = c.args.masks.now.items in
    let old = c.loop-at.masks.items in
    let at = c.loop-at.at in
    let bit = c.args.bit in
    let i = c.loop-at.invariant in
    elim c.if-flags-at.branch [
      | then-flags-at w ↦
          let here : at < length old = omega (arith, c.loop-at-test.true, c.requires.long, i.long) in
          let read = get_or_read old at w.index_mut.result.now here w.index_mut.ensures.value 0 in
          let is : c.if-flags-at.masks.items ≡ set old at (bit_or (get_or old at 0) (1 * 2 ^ bit % 2 ^ 64)) = ap (λ l. l.items) w.masks-is ∙ ap (λ x. set old at (bit_or x (1 * 2 ^ bit % 2 ^ 64))) read in
          record {
            marked = λ n t.
                ap (λ l. in_mask l n t) is
                ∙ marked_up old at bit n t (in_mask first n t) (get_or (take at flags) n false) _ c.requires.bit here (flag_more at flags true c.loop-at-test.true w.if-flags-at.true n) (i.marked n t);
            long = ap length is ∙ length_set old at _ ∙ i.long;
          }
      | else-flags-at w ↦
          let is = ap (λ l. l.items) w.masks-is in
          record {
            marked = λ n t.
                ap (λ l. in_mask l n t) is
                ∙ marked_same old at bit n t (in_mask first n t) (get_or (take at flags) n false) _ (flag_more at flags false c.loop-at-test.true w.if-flags-at.false n) (i.marked n t);
            long = ap length is ∙ i.long;
          }
    ]

pub returns : goal.returns
returns c = λ n t. c.loop-at.invariant.marked n t ∙ ap (λ l. in_mask c.args.masks.now.items n t || (get_or l n false && eqb c.args.bit t)) (take_all c.loop-at.at c.args.flags.now c.loop-at-test.false)
