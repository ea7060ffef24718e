use Rattle.std.proofs.Common.{List, Option, Some, subst, sym, ◌≡◌}
use Rattle.std.proofs.lemmas.Result.{err_from_is_err_and}
use Rattle.poly_frame.specs.declared.frame.matrix.Matrix.{Matrix}
use Rattle.poly_frame.specs.Matrices.{IsWhole}
use Rattle.poly_tiling.specs.Puzzle.{View}
use Rattle.poly_book.specs.Scenes.{AreNarrowed, IsMatrixOf}
use Rattle.poly_book.specs.declared.narrowed.Narrowed.{Narrowed}
use Rattle.poly_book.proofs.scene.leaves_from.Goals as goal

pub leaves_within-found-requires-clause-part : goal.leaves_within-found-requires-clause-part
leaves_within-found-requires-clause-part c =
    let v = c.args.view.now in
    let kept = c.drop_others.ensures v c.requires.narrower in
    c.nearest-part.ensures.part v c.in_ok-whole.ensures.whole (subst (λ (ns : List Narrowed). AreNarrowed v ns) (sym c.deref.ensures.value) kept)

pub leaves_within-found-requires-clause-all : goal.leaves_within-found-requires-clause-all
leaves_within-found-requires-clause-all c =
    let v = c.args.view.now in
    let kept = c.drop_others.ensures v c.requires.narrower in
    c.nearest-part.ensures.all v c.in_ok-whole.ensures.whole (subst (λ (ns : List Narrowed). AreNarrowed v ns) (sym c.deref.ensures.value) kept)

-- the slot has the matrix of the view
filled : (v : View) (slot : Option Matrix) (m : Matrix) → slot ≡ Some m → IsWhole v m → IsMatrixOf v slot
filled v slot m is whole = subst (λ o. IsMatrixOf v o) (sym is) whole

pub returns-in_err-whole : goal.returns-in_err-whole
returns-in_err-whole c =
    let p = err_from_is_err_and c.from_residual.result c.from_residual.ensures.1 in
    rw (p.1, p.2) record {
      matrix = subst (λ o. IsMatrixOf c.args.view.now o) (sym c.in_err-whole.ensures.empty) tt;
      narrower = c.requires.narrower;
      tree = tt;
      why = c.in_err-whole.ensures.why;
    }

pub returns-in_err-leaves : goal.returns-in_err-leaves
returns-in_err-leaves c =
    let p = err_from_is_err_and c.from_residual-in_err-leaves.result c.from_residual-in_err-leaves.ensures.1 in
    let v = c.args.view.now in
    rw (p.1, p.2) record {
      matrix = filled v c.replace.new.self c.in_ok-whole.whole c.replace.ensures.after c.in_ok-whole.ensures.whole;
      narrower = c.drop_others.ensures v c.requires.narrower;
      tree = tt;
      why = c.in_err-leaves.ensures.why;
    }

pub returns-then-is_empty : goal.returns-then-is_empty
returns-then-is_empty c =
    let v = c.args.view.now in
    record {
      matrix = filled v c.replace.new.self c.in_ok-whole.whole c.replace.ensures.after c.in_ok-whole.ensures.whole;
      narrower = c.drop_others.ensures v c.requires.narrower;
      tree = c.in_ok-leaves.ensures.tree;
      why = tt;
    }

pub returns-in-Ok : goal.returns-in-Ok
returns-in-Ok c =
    let v = c.args.view.now in
    record {
      matrix = filled v c.replace.new.self c.in_ok-whole.whole c.replace.ensures.after c.in_ok-whole.ensures.whole;
      narrower = c.keep.ensures.kept v (c.drop_others.ensures v c.requires.narrower) c.in_ok-leaves.ensures.own;
      tree = c.in_ok-leaves.ensures.tree;
      why = tt;
    }

pub returns-in-Err : goal.returns-in-Err
returns-in-Err c =
    let v = c.args.view.now in
    record {
      matrix = filled v c.replace.new.self c.in_ok-whole.whole c.replace.ensures.after c.in_ok-whole.ensures.whole;
      narrower = c.keep.ensures.kept v (c.drop_others.ensures v c.requires.narrower) c.in_ok-leaves.ensures.own;
      tree = tt;
      why = c.in-Err.ensures.why;
    }
