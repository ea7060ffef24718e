-- Nodes that grow, beside the list that was added last and the nodes of its beginnings.
use Rattle.std.specs.Prelude.{List, length, slice_index_or, take, ℕ, ◌+◌, ◌<◌, ◌≡◌, ◌≤◌}
use Rattle.poly_atom.specs.declared.atom.Atom.{Atom}
use Rattle.poly_lists.specs.Linked.{AreEarlier, at_node}
use Rattle.poly_lists.specs.declared.nodes.Link.{Link}

-- the nodes on the trail are those of beginnings of the list, shortest first
pub record IsTrail (links : List Link) (trail : List ℕ) (last : List Atom) : Type 0 where
  pub few : length trail ≤ length last
  pub inside : (i : ℕ) → i < length trail → slice_index_or trail i 0 ≤ length links
  pub begin : (i : ℕ) → i < length trail → at_node links (slice_index_or trail i 0) ≡ take (i + 1) last

-- the trail has all beginnings of the list, and the list is that of the node
pub record IsAt (links : List Link) (trail : List ℕ) (last : List Atom) (node : ℕ) : Type 0 where
  pub begun : IsTrail links trail last
  pub even : length trail ≡ length last
  pub inside : node ≤ length links
  pub whole : at_node links node ≡ last

-- each link leads to an earlier node, and the trail is one of nodes
pub record IsGrowing (links : List Link) (trail : List ℕ) (last : List Atom) : Type 0 where
  pub earlier : AreEarlier 0 links
  pub begun : IsTrail links trail last
