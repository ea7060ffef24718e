use Rattle.std.proofs.Common.{◌≡◌, ◌≤◌, length, refl, sym, rules, arith}
use mathlib.Core.Bool.{true≢false}
use Rattle.std.proofs.lemmas.List.{get_or_read}
use Rattle.std.specs.List.{Contains}
use Rattle.poly_shape.proofs.Taken.{taken_more, taken_all, repeated}
use Rattle.poly_shape.proofs.cells.Cells.new.Goals as goal

pub returns-then-contains-clause-when : goal.returns-then-contains-clause-when
returns-then-contains-clause-when c = (
  λ h. absurd (true≢false (sym h)),
  λ ok. absurd (repeated c.args.cells.now c.loop-i.i c.loop-i.set c.index-cells-i.result c.loop-i.invariant.taken c.loop-i-test.true
      (λ d. sym (get_or_read c.args.cells.now c.loop-i.i c.index-cells-i.result c.loop-i-test.true c.index-cells-i.is d)) (c.if-contains.ensures.0 refl) ok),
)

pub loop-i-preserved : goal.loop-i-preserved
loop-i-preserved c =
    let fresh : Contains c.loop-i.set c.index-cells-i.result → ⊥ = λ h. true≢false (sym (c.if-contains.ensures.1 h)) in
    record {
      taken = taken_more c.args.cells.now c.loop-i.i c.loop-i.set c.with-set.result c.index-cells-i.result c.loop-i.invariant.taken c.loop-i-test.true
          (λ d. sym (get_or_read c.args.cells.now c.loop-i.i c.index-cells-i.result c.loop-i-test.true c.index-cells-i.is d)) fresh c.with-set.ensures.adds (c.with-set.ensures.fresh fresh);
      ascending = c.with-set.ensures.ascending;
    }

pub returns-clause-ok : goal.returns-clause-ok
returns-clause-ok c =
    let some : 1 ≤ length c.args.cells.now = search rules in
    let end : c.loop-i.i ≡ length c.args.cells.now = omega (arith, c.loop-i.auto.i-end some, c.loop-i-test.false) in
    taken_all c.args.cells.now c.loop-i.set (rw (← end) c.loop-i.invariant.taken)

pub returns-clause-kept : goal.returns-clause-kept
returns-clause-kept c =
    let some : 1 ≤ length c.args.cells.now = search rules in
    record {
      some = omega (arith, c.loop-i.invariant.taken.len);
      few = omega (arith, c.loop-i.invariant.taken.len, c.loop-i.auto.i-end some);
      ascending = c.loop-i.invariant.ascending;
    }
