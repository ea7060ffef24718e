-- Lists of atoms as links: each node stands for a list, and its link leads to the list without the last atom. A link without an
-- atom leads to the same list.
use Rattle.std.specs.Prelude.{All, List, [], length, map, option_to_list, slice_index_or, suc, ⊤, ℕ, ◌++◌, ◌≡◌, ◌≤◌, ◌∷◌}
use Rattle.poly_atom.specs.declared.atom.Atom.{Atom}
use Rattle.poly_lists.specs.declared.nodes.Link.{Link}

-- the lists of all nodes, if `lists` are those of the nodes before the links
abbrev pub with_links : List (List Atom) → List Link → List (List Atom)
with_links lists [] = lists
with_links lists (l ∷ ls) = with_links (lists ++ (slice_index_or lists l.before [] ++ option_to_list l.atom) ∷ []) ls

-- the lists of all nodes: node 0 is the empty list
abbrev pub nodes : List Link → List (List Atom)
nodes links = with_links ([] ∷ []) links

-- the list of a node
abbrev pub at_node : List Link → ℕ → List Atom
at_node links n = slice_index_or (nodes links) n []

-- the lists that end at these nodes
abbrev pub ended : List Link → List ℕ → List (List Atom)
ended links ends = map (λ e. at_node links e) ends

-- each link leads to an earlier node, the first of them from a node after `n` nodes
abbrev pub AreEarlier : ℕ → List Link → Type 0
AreEarlier n [] = ⊤
AreEarlier n (l ∷ ls) = (l.before ≤ n) × AreEarlier (suc n) ls

-- each link leads to an earlier node, and each end is a node
pub record AreLinked (links : List Link) (ends : List ℕ) : Type 0 where
  pub earlier : AreEarlier 0 links
  pub inside : All (λ e. e ≤ length links) ends

-- there are more links, and each leads to an earlier node; the lists of the nodes before are as they were
pub record Extends (old new : List Link) : Type 0 where
  pub earlier : AreEarlier 0 new
  pub longer : length old ≤ length new
  pub same : (n : ℕ) → n ≤ length old → at_node new n ≡ at_node old n
