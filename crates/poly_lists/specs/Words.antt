-- Links as words, each of which follows the one before it unless it leads back to an earlier node.
use Rattle.std.specs.List.{slice_get}
use Rattle.std.specs.Prelude.{Bool, List, None, Some, [], false, length, option_to_list, slice_index_or, suc, true, ◌++◌, ◌<◌, ◌≡◌, ◌∷◌, ℕ}
use Rattle.poly_atom.specs.declared.atom.Atom.{Atom}
use Rattle.poly_atom.specs.declared.atom.Atom.TheVariants.{AtLeast, AtMost, Has as HasAtom, Lacks as LacksAtom}
use Rattle.poly_lists.specs.declared.nodes.Link.{Link}
use Rattle.poly_lists.specs.declared.nodes.Word.{Word}
use Rattle.poly_lists.specs.declared.nodes.Word.TheVariants.{Back, Has, Lacks, Other}

-- the link of a word after `n` others
abbrev pub link_of : List Atom → ℕ → Word → Link
link_of others n (Has p) = record { before = n; atom = Some (HasAtom p) }
link_of others n (Lacks p) = record { before = n; atom = Some (LacksAtom p) }
link_of others n (Other i) = record { before = n; atom = slice_get others i }
link_of others n (Back b) = record { before = b; atom = None }

-- the links of the words, the first of them after `n` others
abbrev pub links_of : List Atom → ℕ → List Word → List Link
links_of others n [] = []
links_of others n (w ∷ ws) = link_of others n w ∷ links_of others (suc n) ws

-- the word is stored if there are `n` other atoms
abbrev pub IsStored : ℕ → Word → Type 0
IsStored n (Has p) = Unit {0}
IsStored n (Lacks p) = Unit {0}
IsStored n (Other i) = i < n
IsStored n (Back b) = Unit {0}

-- the atoms go on after these
pub record IsBeginning (old new : List Atom) : Type 0 where
  pub more : List Atom
  pub is : new ≡ old ++ more

-- the word says that the atom follows the list of the node right before
pub record Stores (others : List Atom) (w : Word) (a : Atom) : Type 0 where
  pub stored : IsStored (length others) w
  pub says : (n : ℕ) → link_of others n w ≡ record { before = n; atom = Some a }

-- the atom is no `Lacks`
abbrev pub is_other : Atom → Bool
is_other (HasAtom p) = true
is_other (LacksAtom p) = false
is_other (AtLeast i n) = true
is_other (AtMost i n) = true

-- the link at the index leads to the node before, and its atom, if there is one, is added to a list
pub record Reads (links : List Link) (i before : ℕ) (old new : List Atom) : Type 0 where
  pub leads : (d : Link) → (slice_index_or links i d).before ≡ before
  pub adds : (d : Link) → new ≡ old ++ option_to_list (slice_index_or links i d).atom
