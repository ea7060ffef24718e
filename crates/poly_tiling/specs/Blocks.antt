-- Lists of placements whose start is cut into blocks.
use Rattle.std.specs.Prelude.{List, Vec, length, map, take, ℕ, ◌≡◌}
use Rattle.std.specs.List.{All, flat_map}
use Rattle.std.specs.declared.sync.Arc.{Arc}
use Rattle.std.specs.Global.{Global}
use Rattle.poly_design.specs.declared.placement.Placement.{Placement}

-- the placements of each block
abbrev pub contents : List (Arc (Vec Placement Global) Global) → List (List Placement)
contents blocks = map (λ (b : Arc (Vec Placement Global) Global). b.value.items) blocks

-- the blocks, one after another, as one list
abbrev pub joined : List (List Placement) → List Placement
joined blocks = flat_map (λ b. b) blocks

-- each block has this many placements
abbrev pub HaveSize : ℕ → List (List Placement) → Type 0
HaveSize size blocks = All (λ b. length b ≡ size) blocks

-- the second list begins with the first
abbrev pub Begins : List Placement → List Placement → Type 0
Begins first all = take (length first) all ≡ first
