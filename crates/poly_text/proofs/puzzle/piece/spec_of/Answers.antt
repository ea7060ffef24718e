use Rattle.std.proofs.Common.{refl, subst}
use Rattle.std.proofs.lemmas.Result.{err_from_is_err_and}
use Rattle.poly_text.specs.Piece.{ShapeSays}
use Rattle.poly_text.proofs.puzzle.piece.spec_of.Goals as goal

pub returns-in_err-shape : goal.returns-in_err-shape
returns-in_err-shape c =
    let p = err_from_is_err_and c.from_residual.result c.from_residual.ensures.1 in
    rw (p.1, p.2) (c.shape_of.result, subst (λ z. ShapeSays c.args.grid z c.shape_of.result) c.as_slice.ensures.value c.shape_of.ensures, rw c.in_err-shape.was refl)

pub returns-then-has_name : goal.returns-then-has_name
returns-then-has_name c = (c.shape_of.result, subst (λ z. ShapeSays c.args.grid z c.shape_of.result) c.as_slice.ensures.value c.shape_of.ensures, rw (c.in_ok-shape.was, ← c.if-has_name.ensures) refl)

pub returns : goal.returns
returns c = (c.shape_of.result, subst (λ z. ShapeSays c.args.grid z c.shape_of.result) c.as_slice.ensures.value c.shape_of.ensures, rw (c.in_ok-shape.was, ← c.if-has_name.ensures, c.new.ensures) refl)
