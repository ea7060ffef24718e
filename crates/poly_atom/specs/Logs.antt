-- What a log of guards says.
use Rattle.std.specs.Prelude.{List, [], length, slice_index_or, suc, take, zero, ℕ, ◌++◌, ◌-◌, ◌<◌, ◌∷◌}
use Rattle.poly_atom.specs.declared.atom.Atom.{Atom}
use Rattle.poly_atom.specs.declared.stair.Stair.{Stair}
use Rattle.poly_atom.specs.Stairs.{stairs}

-- the lists, one after another
abbrev pub flat : List (List Atom) → List Atom
flat [] = []
flat (g ∷ gs) = g ++ flat gs

-- the log has the stair's edition, and the guards of that edition have the stair's index
pub record IsStairOf (log : List (List Atom)) (s : Stair) : Type 0 where
  pub edition_in : s.edition < length log
  pub index_in : s.index < length (slice_index_or log s.edition [])

-- the atoms of a stair: the list at its index among the stairs of its edition's guards
abbrev pub stair_of : List (List Atom) → Stair → List Atom
stair_of log s = slice_index_or (stairs (slice_index_or log s.edition [])) s.index []

-- the log before its last change
abbrev pub without_last : List (List Atom) → List (List Atom)
without_last log = take (length log - 1) log

-- the log without the guards of the changes that led from an edition before this one: these changes still count, but have no
-- guards any more
abbrev pub forgotten : ℕ → List (List Atom) → List (List Atom)
forgotten zero gs = gs
forgotten (suc n) [] = []
forgotten (suc n) (g ∷ gs) = [] ∷ forgotten n gs
