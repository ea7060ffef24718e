-- How a frame keeps the base of its atoms.
use Rattle.std.specs.Prelude.{List, [], cond, length, slice_index, take, ℕ, ◌+◌, ◌<◌, ◌==◌, ◌∷◌, ◌≡◌}
use Rattle.poly_tiling.specs.Puzzle.{View}
use Rattle.poly_atom.specs.declared.atom.Atom.{Atom}
use Rattle.poly_atom.specs.Hopeless.{base}

-- the list without the first occurrence of a number
abbrev pub without : ℕ → List ℕ → List ℕ
without p [] = []
without p (q ∷ qs) = cond (p == q) qs (q ∷ without p qs)

-- how many members the base had before each step
pub record SizesShow (v : View) (A : List Atom) (first : ℕ) (sizes : List ℕ) : Type 0 where
  pub steps : length sizes + first ≡ length A
  pub before : (k : ℕ) → k < length sizes → slice_index sizes k ≡ length (base v (take (first + k) A))
