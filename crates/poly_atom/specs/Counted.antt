-- Counts over the base of a list of atoms, without building the base.
use Rattle.std.specs.Prelude.{Bool, List, [], false, length, not, ℕ, ◌&&◌, ◌+◌, ◌∷◌}
use Rattle.poly_tiling.specs.Lists.{mem, one, put_all}
use Rattle.poly_tiling.specs.declared.item.Item.{Item}
use Rattle.poly_tiling.specs.Puzzle.{View, has_item}
use Rattle.poly_atom.specs.declared.atom.Atom.{Atom}
use Rattle.poly_atom.specs.declared.atom.Atom.TheVariants.{AtLeast, AtMost, Has, Lacks}
use Rattle.poly_atom.specs.Hopeless.{asked}

-- the atom asks for a placement that has the item, isn't pinned, and isn't asked for by the atoms of A
abbrev pub adds : View → Atom → List Atom → Item → Bool
adds v (Has p) A i = has_item v p i && not (mem (asked A) p) && not (mem v.pins p)
adds v (Lacks p) A i = false
adds v (AtLeast j n) A i = false
adds v (AtMost j n) A i = false

-- how many of the atoms ask for a placement that has the item, isn't pinned, and isn't asked for by an atom further on
abbrev pub extra : View → List Atom → Item → ℕ
extra v [] i = 0
extra v (a ∷ A) i = one (adds v a A i) + extra v A i

-- how many different placements the atoms ask for
abbrev pub asked_count : List Atom → ℕ
asked_count A = length (put_all (asked A) [])
