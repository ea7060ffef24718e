-- The words of `browse`: what each one asks, and the question that they make.
use Rattle.std.specs.Prelude.{◌≡◌, ℕ, ◌+◌, ◌==◌, List, [], ◌∷◌, take, drop, if◌then◌else◌, Option, Some, None, is_some, Result, Ok, Err}
use Rattle.std.specs.List.{position}
use Rattle.poly_grid.specs.Spot.{Spot}
use Rattle.poly_grid.specs.declared.refusal.Refusal.{Refusal}
use Rattle.poly_grid.specs.declared.refusal.Refusal.TheVariants.{BadCommand, BadName, BadShape}
use Rattle.poly_shape.specs.Order.{AreFewDistinct}
use Rattle.poly_design.specs.declared.placement.Placement.{Placement}
use Rattle.poly_tiling.specs.declared.item.Item.{Item}
use Rattle.poly_tiling.specs.declared.item.Item.TheVariants.{Cell, Piece}
use Rattle.poly_text.specs.Asked.{Asked}
use Rattle.poly_text.specs.Gives.{◌>>=◌, ok_or}
use Rattle.poly_text.specs.Names.{name_of}
use Rattle.poly_text.specs.Sets.{MakesSet}
use Rattle.poly_text.specs.Words.{cell_of, listed_cells}

-- a name with cells
abbrev pub Named : Type 0
Named = List ℕ × List Spot

-- what one word asks: a placement that a tiling has or lacks, by its name and its cells, or an item that it covers
pub data Query : Type 0 where
  has lacks : Named → Query
  covers : Item → Query

-- a name, an equals sign and cells
unfoldable pub named_cells : List ℕ → Result Named Refusal
named_cells text = do
  equals ← ok_or (position (λ b. b == 61) text) BadCommand
  name ← ok_or (name_of (take equals text)) BadName
  cells ← listed_cells (drop (equals + 1) text)
  Ok (name, cells)

-- a cell if the text has a comma, else the name of a piece
unfoldable pub item_of : List ℕ → Result Item Refusal
item_of text =
    if is_some (position (λ b. b == 44) text) then (cell_of text >>= λ c. Ok (Cell c))
    else (ok_or (name_of text) BadName >>= λ n. Ok (Piece n))

-- what a word asks, by its first byte: a plus, a minus or an at sign
abbrev pub query_of : List ℕ → Result Query Refusal
query_of [] = Err BadCommand
query_of (first ∷ text) =
    if first == 43 then (named_cells text >>= λ n. Ok (has n))
    else (if first == 45 then (named_cells text >>= λ n. Ok (lacks n)) else (if first == 64 then (item_of text >>= λ i. Ok (covers i)) else Err BadCommand))

-- the placements that a tiling must have, each as a name with cells
abbrev pub had : List Query → List Named
had [] = []
had (has n ∷ queries) = n ∷ had queries
had (lacks n ∷ queries) = had queries
had (covers i ∷ queries) = had queries

-- the placements that a tiling must lack, each as a name with cells
abbrev pub lacked : List Query → List Named
lacked [] = []
lacked (has n ∷ queries) = lacked queries
lacked (lacks n ∷ queries) = n ∷ lacked queries
lacked (covers i ∷ queries) = lacked queries

-- the items that a tiling must cover
abbrev pub covered : List Query → List Item
covered [] = []
covered (has n ∷ queries) = covered queries
covered (lacks n ∷ queries) = covered queries
covered (covers i ∷ queries) = i ∷ covered queries

-- the placement of the name and the set of the cells, or none if the cells make no set
abbrev pub Makes : Named → Option Placement → Type 0
Makes n (Some p) = (p.name ≡ n.0) × MakesSet n.1 (Some p.cells)
Makes n None = MakesSet n.1 None

-- both lists are equally long, and each name with cells makes the placement at the same index
abbrev pub AreMade : List Named → List Placement → Type 0
AreMade [] [] = Unit {0}
AreMade [] (p ∷ ps) = ⊥
AreMade (n ∷ ns) [] = ⊥
AreMade (n ∷ ns) (p ∷ ps) = Makes n (Some p) × AreMade ns ps

-- each list of cells makes a set
abbrev pub MakeSets : List Named → Type 0
MakeSets [] = Unit {0}
MakeSets (n ∷ ns) = AreFewDistinct n.1 × MakeSets ns

-- q is the question that the queries make
pub record IsQuestion (queries : List Query) (q : Asked) : Type 0 where
  pub has : AreMade (had queries) q.has
  pub lacks : AreMade (lacked queries) q.lacks
  pub covers : q.covers ≡ covered queries

-- the question that the queries make, or a refusal if a list of cells makes no set
abbrev pub QuestionSays : List Query → Result Asked Refusal → Type 0
QuestionSays queries (Ok q) = IsQuestion queries q
QuestionSays queries (Err e) = (e ≡ BadShape) × (MakeSets (had queries) × MakeSets (lacked queries) → ⊥)
