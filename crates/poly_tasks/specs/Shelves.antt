-- What an undo or redo opens and lists again, if something was stored for it.
use Rattle.std.specs.List.{flat_map}
use Rattle.std.specs.Prelude.{Bool, List, None, Option, Some, [], false, map, true, ℕ, ◌++◌}
use Rattle.poly_atom.specs.declared.atom.Atom.{Atom}
use Rattle.poly_tasks.specs.Stored.{Stored}

-- each of the first lists followed by each of the second
abbrev pub crossed : List (List Atom) → List (List Atom) → List (List Atom)
crossed F S = flat_map (λ A. map (λ B. A ++ B) S) F

-- the lists from which a change opens those that aren't hopeless: its stairs, or, if it has a shelf, each frozen list of the
-- shelf followed by each stair
abbrev pub openings : Option Stored → List (List Atom) → List (List Atom)
openings None S = S
openings (Some h) S = crossed h.frozen S

-- the tilings that a change lists again: those of its shelf
abbrev pub returned : Option Stored → List (List ℕ)
returned None = []
returned (Some h) = h.taken

abbrev pub is_kept : Option Stored → Bool
is_kept None = false
is_kept (Some h) = true
