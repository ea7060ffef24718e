-- What one atom says about an item.
use Rattle.std.specs.Prelude.{ℕ, Bool, cond, false, max, min, true}
use Rattle.poly_tiling.specs.declared.item.Item.{Item}
use Rattle.poly_tiling.specs.Puzzle.{same_item}
use Rattle.poly_atom.specs.declared.atom.Atom.{Atom}
use Rattle.poly_atom.specs.declared.atom.Atom.TheVariants.{AtLeast, AtMost, Has, Lacks}

-- the most after one more atom
abbrev pub most_by : Atom → Item → ℕ → ℕ
most_by (Has p) i n = n
most_by (Lacks p) i n = n
most_by (AtLeast j k) i n = n
most_by (AtMost j k) i n = cond (same_item j i) (min k n) n

-- the least after one more atom
abbrev pub least_by : Atom → Item → ℕ → ℕ
least_by (Has p) i n = n
least_by (Lacks p) i n = n
least_by (AtLeast j k) i n = cond (same_item j i) (max k n) n
least_by (AtMost j k) i n = n

-- the atom asks for the item
abbrev pub least_for : Item → Atom → Bool
least_for i (Has p) = false
least_for i (Lacks p) = false
least_for i (AtLeast j n) = same_item j i
least_for i (AtMost j n) = false

-- the item that the atom asks for passes the test, if the atom asks for one
abbrev pub of_asked : (Item → Bool) → Atom → Bool
of_asked f (Has p) = true
of_asked f (Lacks p) = true
of_asked f (AtLeast j n) = f j
of_asked f (AtMost j n) = true
