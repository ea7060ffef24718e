-- Where each node jumps to: back over links that have a `Lacks` or no atom.
use Rattle.std.specs.List.{filter}
use Rattle.std.specs.Prelude.{List, length, slice_index_or, ℕ, ◌+◌, ◌<◌, ◌≡◌, ◌≤◌}
use Rattle.poly_lists.specs.Linked.{at_node}
use Rattle.poly_lists.specs.Words.{is_other}
use Rattle.poly_lists.specs.declared.nodes.Link.{Link}

-- the jump leads from the node to itself or to an earlier one, and over no atom but `Lacks`
pub record IsJump (links : List Link) (node jump : ℕ) : Type 0 where
  pub back : jump ≤ node
  pub same : filter is_other (at_node links jump) ≡ filter is_other (at_node links node)

-- each jump is one of the node whose number is its index
abbrev pub AreRight : List Link → List ℕ → Type 0
AreRight links jumps = (n : ℕ) → n < length jumps → IsJump links n (slice_index_or jumps n 0)

-- node 0 and each node after it have a jump
pub record AreJumps (links : List Link) (jumps : List ℕ) : Type 0 where
  pub each : length jumps ≡ length links + 1
  pub right : AreRight links jumps
