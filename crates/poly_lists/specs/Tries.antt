-- What a contract sees of a trie of finished lists.
use Rattle.std.specs.Prelude.{List, ℕ}
use Rattle.poly_atom.specs.declared.atom.Atom.{Atom}

-- the lists, and a bound on how many other tries they are read from
pub record TrieLists : Type 0 where
  pub lists : List (List Atom)
  pub depth : ℕ

abbrev pub lists_of : ℕ → List (List Atom) → TrieLists
lists_of depth lists = record { lists = lists; depth = depth }
