-- Marks of the numbers of a list.
use Rattle.std.specs.Prelude.{Bool, List, false, length, slice_index_or, ℕ, ◌<◌, ◌≡◌}
use Rattle.poly_tiling.specs.Lists.{mem}

-- the marks tell of each number below their count whether the list has it
abbrev pub AreMarks : List ℕ → List Bool → Type 0
AreMarks ns marks = (n : ℕ) → n < length marks → slice_index_or marks n false ≡ mem ns n
