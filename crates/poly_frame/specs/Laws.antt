-- What is proved of a frame's steps.
use Rattle.std.specs.Prelude.{length, ℕ, ◌≡◌}
use Rattle.poly_tiling.specs.Lists.{tally}
use Rattle.poly_tiling.specs.declared.item.Item.{Item}
use Rattle.poly_atom.specs.declared.atom.Atom.{Atom}
use Rattle.poly_atom.specs.Hopeless.{base}
use Rattle.poly_frame.specs.Walk.{Walk, backtrack_to, is_option, step_back, with_step}

-- A step that is undone leaves no trace: not in the trail, the base, the options of an item or their number.
pub record ComesBack (w : Walk) (a : Atom) : Type 0 where
  pub trail : step_back (with_step w a) ≡ w
  pub level : backtrack_to (with_step w a) (length w.atoms) ≡ w
  pub base : base w.scene (step_back (with_step w a)).atoms ≡ base w.scene w.atoms
  pub options : (i : Item) (p : ℕ) → is_option (step_back (with_step w a)) i p ≡ is_option w i p
  pub sizes : (i : Item) → tally (is_option (step_back (with_step w a)) i) w.scene.live ≡ tally (is_option w i) w.scene.live

abbrev pub StepsComeBack : Type 0
StepsComeBack = (w : Walk) (a : Atom) → ComesBack w a
