use Rattle.std.proofs.Common.{refl, sym, true}
use mathlib.Core.Bool.{true≢false}
use Rattle.poly_shape.proofs.Moved.{connected_same, has_same_back, image_same, shape_image}
use Rattle.poly_shape.proofs.Turns.{some_turns}
use Rattle.poly_shape.proofs.shape.Shape.from_cells.Goals as goal

pub returns-then-not-is_connected-clause-when : goal.returns-then-not-is_connected-clause-when
returns-then-not-is_connected-clause-when c = (
  λ h. absurd (true≢false (sym h)),
  λ both. c.if-not-is_connected.ensures.1 (connected_same c.args.grid _ _ (has_same_back _ _ c.in_ok-set.ensures.ok) both.1),
)

pub image-normal-requires-clause-connected : goal.image-normal-requires-clause-connected
image-normal-requires-clause-connected c = c.if-not-is_connected.ensures.0 refl

pub invariant_of-result : goal.invariant_of-result
invariant_of-result c = shape_image c.args.grid 0 c.in_ok-set.set c.image-normal.result (some_turns c.args.grid true) c.in_ok-set.ensures.kept (c.if-not-is_connected.ensures.0 refl) c.image-normal.ensures

pub returns-clause-ok : goal.returns-clause-ok
returns-clause-ok c = (refl, image_same c.args.grid 0 _ _ _ c.in_ok-set.ensures.ok c.image-normal.ensures)

pub returns-clause-shape : goal.returns-clause-shape
returns-clause-shape c = shape_image c.args.grid 0 c.in_ok-set.set c.image-normal.result (some_turns c.args.grid true) c.in_ok-set.ensures.kept (c.if-not-is_connected.ensures.0 refl) c.image-normal.ensures

pub returns-clause-when : goal.returns-clause-when
returns-clause-when c = (λ h. (c.in_ok-set.ensures.when.0 refl, connected_same c.args.grid _ _ c.in_ok-set.ensures.ok (c.if-not-is_connected.ensures.0 refl)), λ both. refl)
