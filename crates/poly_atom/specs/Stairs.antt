-- The stairs of a list of atoms.
use Rattle.std.specs.Prelude.{List, [], ◌++◌, ◌∷◌}
use Rattle.poly_atom.specs.declared.atom.Atom.{Atom}
use Rattle.poly_atom.specs.Atoms.{negated}

-- for each atom of the second list: the atoms of `before`, the atoms before it in the second list, and its negation
abbrev pub stairs_behind : List Atom → List Atom → List (List Atom)
stairs_behind before [] = []
stairs_behind before (g ∷ gs) = (before ++ negated g ∷ []) ∷ stairs_behind (before ++ g ∷ []) gs

abbrev pub stairs : List Atom → List (List Atom)
stairs gs = stairs_behind [] gs
