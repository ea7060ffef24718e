use Rattle.std.proofs.Common.{refl, sym, subst}
use mathlib.Core.Bool.{true≢false}
use Rattle.std.proofs.lemmas.List.{get_or_read}
use Rattle.std.proofs.lemmas.List.Elements.{AllWithin-more, AllWithin-upto, All-from_all_within}
use Rattle.poly_design.specs.Moved.{LandsOn}
use Rattle.poly_design.proofs.places.fits.Goals as goal

pub returns-then-not-has_moved : goal.returns-then-not-has_moved
returns-then-not-has_moved c = (
  λ t. absurd (true≢false (sym t)),
  λ all. absurd (true≢false (sym (c.if-not-has_moved.ensures.1 (subst (LandsOn c.args.board.now c.args.right c.args.down) (sym c.cell-item.is) (all c.loop-cell.cell-index c.cell-item.result c.loop-cell-test.true))))),
)

pub loop-cell-preserved : goal.loop-cell-preserved
loop-cell-preserved c =
    AllWithin-more (LandsOn c.args.board.now c.args.right c.args.down) c.args.cells.now 0 c.loop-cell.cell-index c.loop-cell.invariant
    (λ d. subst (LandsOn c.args.board.now c.args.right c.args.down) (get_or_read c.args.cells.now c.loop-cell.cell-index c.cell-item.result c.loop-cell-test.true c.cell-item.is d) (c.if-not-has_moved.ensures.0 refl))

pub returns : goal.returns
returns c = (
  λ _. All-from_all_within (LandsOn c.args.board.now c.args.right c.args.down) c.args.cells.now (AllWithin-upto (LandsOn c.args.board.now c.args.right c.args.down) c.args.cells.now 0 c.loop-cell.cell-index _ c.loop-cell-test.false c.loop-cell.invariant),
  λ _. refl,
)
