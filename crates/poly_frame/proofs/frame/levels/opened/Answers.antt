use Rattle.std.proofs.Common.{Bor, List, None, Option, Some, ap, length, subst, sym, unwrap_or, ℕ, ◌∙◌, IfSome}
use Rattle.poly_tiling.specs.Puzzle.{View}
use Rattle.poly_frame.specs.FrameTable.{MostsShow}
use Rattle.poly_frame.specs.Matrices.{IsMatrix}
use Rattle.poly_frame.specs.declared.frame.matrix.Matrix.{Matrix}
use Rattle.poly_frame.proofs.frame.levels.opened.Goals as goal

-- the matrix itself, or the other one if there is none
either : (v : View) (o : Option (Bor Matrix)) (m : Bor Matrix) → IfSome o (λ x. IsMatrix v x.now) → IsMatrix v m.now → IsMatrix v (unwrap_or o m).now
either v None m s i = i
either v (Some x) m s i = s

pub returns : goal.returns
returns c = record { len = c.in_ok-open_row.ensures.len; row = c.in_ok-open_row.ensures.value; consistent = c.begin-consistent.ensures; why = tt }

pub open_row-requires : goal.open_row-requires
open_row-requires c = record {
  part = c.requires.part;
  base = c.requires.base;
  have_len = c.requires.have_len;
  have = c.requires.have;
  mosts_len = ap length c.deref.ensures.value ∙ c.requires.mosts_len;
  mosts = subst (λ (xs : List ℕ). MostsShow c.args.view.now c.args.atoms.now xs) (sym c.deref.ensures.value) c.requires.mosts;
}

pub begin-consistent-requires : goal.begin-consistent-requires
begin-consistent-requires c = record {
  part = subst (λ (m : Bor Matrix). IsMatrix c.args.view.now m.now) (sym c.unwrap_or-whole.ensures) (either c.args.view.now c.args.whole c.args.part c.requires.whole c.requires.part);
  base = c.requires.base;
  have_len = c.requires.have_len;
  have = c.requires.have;
  mosts_len = ap length c.deref.ensures.value ∙ c.requires.mosts_len;
  mosts = subst (λ (xs : List ℕ). MostsShow c.args.view.now c.args.atoms.now xs) (sym c.deref.ensures.value) c.requires.mosts;
}
