-- Finished lists of atoms that all begin with the same list of an earlier trie.
use Rattle.std.specs.Arc.{arc_value}
use Rattle.std.specs.List.{filter}
use Rattle.std.specs.Prelude.{List, [], length, slice_index_or, ⊤, ℕ, ◌<◌, ◌≡◌}
use Rattle.poly_atom.specs.declared.atom.Atom.{Atom}
use Rattle.poly_lists.specs.Jumps.{AreJumps}
use Rattle.poly_lists.specs.Linked.{AreLinked}
use Rattle.poly_lists.specs.Words.{is_other}
use Rattle.poly_lists.specs.declared.nodes.Link.{Link}
use Rattle.poly_lists.specs.declared.shared_lists.Stem.{Stem}
use Rattle.poly_lists.specs.declared.shared_lists.Stem.TheVariants.{Empty, Listed}

-- what each list begins with
abbrev pub stem_of : Stem → List Atom
stem_of Empty = []
stem_of (Listed trie index) = slice_index_or (arc_value trie).lists index []

-- the stem is a list of a trie that is less deep
abbrev pub IsStem : Stem → ℕ → Type 0
IsStem Empty depth = ⊤
IsStem (Listed trie index) depth = (index < length (arc_value trie).lists) × ((arc_value trie).depth < depth)

-- both stems are less deep, and they differ in nothing but `Lacks`
pub record AreStems (stem others : Stem) (depth : ℕ) : Type 0 where
  pub below : IsStem stem depth
  pub others_below : IsStem others depth
  pub same : filter is_other (stem_of others) ≡ filter is_other (stem_of stem)

-- the nodes of a trie are linked and have jumps, and its stems are less deep and differ in nothing but `Lacks`
pub record HasStem (stem others : Stem) (depth : ℕ) (links : List Link) (jumps ends : List ℕ) : Type 0 where
  pub linked : AreLinked links ends
  pub jumping : AreJumps links jumps
  pub below : IsStem stem depth
  pub others_below : IsStem others depth
  pub same : filter is_other (stem_of others) ≡ filter is_other (stem_of stem)
