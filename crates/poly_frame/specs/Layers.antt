-- The layers of a frame: the one that it reads, and the wider ones below it.
use Rattle.std.specs.Prelude.{List, [], take, ℕ, ◌<◌, ◌∷◌, ◌≡◌}
use Rattle.poly_tiling.specs.Puzzle.{View}
use Rattle.poly_atom.specs.declared.atom.Atom.{Atom}
use Rattle.poly_frame.specs.FrameSteps.{HasRoom, StepsKeep}
use Rattle.poly_frame.specs.Matrices.{matrix_of}
use Rattle.poly_frame.specs.declared.frame.layers.Layer.{Layer}

-- the layer was made after its first `base` atoms, and its steps are right for all of them
pub record LayerShows (v : View) (A : List Atom) (l : Layer) : Type 0 where
  pub levels : StepsKeep v A l.base (matrix_of l.columns) l.table l.steps
  pub room : HasRoom (matrix_of l.columns) l.steps

-- the layers below one that was made after `top` atoms, the last one first: each was made before the one above it, and is right
-- for the atoms that were there when that one was made; the lowest layer was made with the frame
abbrev pub PileShows : View → List Atom → ℕ → ℕ → List Layer → Type 0
PileShows v A given top [] = top ≡ given
PileShows v A given top (l ∷ ls) = (l.base < top) × LayerShows v (take top A) l × PileShows v A given l.base ls
