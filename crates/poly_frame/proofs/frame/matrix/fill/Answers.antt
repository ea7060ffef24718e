use Rattle.std.proofs.lemmas.List.{length-replicate}
use Rattle.std.proofs.Common.{List, ap, eqb, get_or, length, ltb, rules, subst, ℕ, ◌∙◌, ◌≡◌, ◌||◌}
use Rattle.std.specs.List.{list_all, list_any}
use Rattle.poly_tiling.specs.Puzzle.{has_item}
use Rattle.poly_frame.specs.Bits.{has_bit}
use Rattle.poly_frame.specs.FrameItems.{item_of}
use Rattle.poly_frame.specs.Matrices.{list_at, bit_index}
use Rattle.poly_frame.proofs.FrameOpen.{rows_start, rows_step}
use Rattle.poly_frame.proofs.frame.matrix.fill.Goals as goal

pub loop-j-init : goal.loop-j-init
loop-j-init c =
    let zeros = c.requires.rows in
    record {
      len = ap length zeros ∙ length-replicate _ 0;
      bits = λ b i l g. rows_start c.args.rows.now _ (bit_index c.args.width b i) i (has_item c.args.view.now (get_or c.args.numbers.now i 0) (item_of c.args.view.now b)) zeros;
    }

pub list_of-requires-clause-high : goal.list_of-requires-clause-high
list_of-requires-clause-high c = c.requires.lists.inside c.loop-j.j c.loop-j-test.true

pub list_of-requires-clause-order : goal.list_of-requires-clause-order
list_of-requires-clause-order c = (c.requires.lists.each c.loop-j.j c.loop-j-test.true).up

pub list_of-requires-clause-end : goal.list_of-requires-clause-end
list_of-requires-clause-end c = (c.requires.lists.each c.loop-j.j c.loop-j-test.true).end

pub put_each-requires-clause-low : goal.put_each-requires-clause-low
put_each-requires-clause-low c =
    let items = ap length c.items-items.ensures.value in
    ap (λ xs. list_all (λ b. ltb b (length c.items-items.result.now)) xs) c.list_of.ensures ∙ ap (λ n. list_all (λ b. ltb b n) (list_at c.args.starts.now c.args.indices.now (get_or c.args.homes.now c.loop-j.j 0))) items ∙ (c.requires.lists.each c.loop-j.j c.loop-j-test.true).noted.low

pub loop-j-preserved : goal.loop-j-preserved
loop-j-preserved c =
    let inv = c.loop-j.invariant in
    let bits = subst (λ (xs : List ℕ). (x : ℕ) → has_bit c.put_each.new.rows x ≡ (has_bit c.loop-j.rows x || list_any (λ b. eqb (bit_index c.args.width b c.loop-j.j) x) xs)) c.list_of.ensures c.put_each.ensures.bits in
    record {
      len = search rules;
      bits = rows_step c.args.view.now c.args.numbers.now c.args.width c.loop-j.j c.loop-j.rows c.put_each.new.rows _ c.loop-j-test.true c.requires.wide (c.requires.lists.each c.loop-j.j c.loop-j-test.true).noted inv.bits bits;
    }
