use Rattle.std.proofs.Common.{ap, subst, sym, ℕ, ◌∙◌}
use Rattle.poly_tiling.proofs.Orders.{live_once}
use Rattle.poly_frame.specs.Matrices.{IsMatrix, RowOf}
use Rattle.poly_frame.specs.Open.{open_in}
use Rattle.poly_frame.specs.declared.frame.matrix.Matrix.{Matrix}
use Rattle.poly_frame.proofs.frame.Frame.begin.Goals as goal

pub prepare-requires : goal.prepare-requires
prepare-requires c = record { part = subst (λ (m : Matrix). IsMatrix c.args.view.now m) (sym c.matrix.ensures) c.requires.part; whole = c.requires.whole }

pub levels_of-requires : goal.levels_of-requires
levels_of-requires c = record {
  part = c.requires.part;
  all = c.requires.all;
  len = c.in-Ok.ensures.len ∙ ap (λ (m : Matrix). m.width) c.matrix.ensures;
  row = subst (λ (m : Matrix). RowOf (λ (p : ℕ). open_in c.args.view.now c.args.atoms.now p) m c.prepare.new.room.spare.live.items) c.matrix.ensures c.in-Ok.ensures.row;
  consistent = c.in-Ok.ensures.consistent;
  have_len = c.in-Ok.ensures.have_len;
  have = c.in-Ok.ensures.have;
  table = c.in-Ok.ensures.table;
}

pub of-requires : goal.of-requires
of-requires c = record {
  kept = c.in-Ok.ensures.kept;
  trail = c.in-Ok.ensures.trail;
  sizes = c.in-Ok.ensures.sizes;
  changes = c.in-Ok.ensures.changes;
  consistent = c.in_ok-levels.ensures.consistent;
  steps = c.in_ok-levels.ensures.steps;
  room = c.in_ok-levels.ensures.room;
  alive = c.requires.alive;
}

pub returns : goal.returns
returns c = record { made = c.of.ensures; why = tt; well = c.requires.part.well; once = live_once c.args.view.now c.requires.part.well }
