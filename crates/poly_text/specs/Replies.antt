-- The text of replies.
use Rattle.std.specs.Prelude.{ℕ, List, [], ◌∷◌, ◌++◌, length, codes, sum_by, Result, Ok, Err}
use Rattle.std.specs.List.{flat_map, join_by}
use Rattle.std.specs.Fmt.{decimal}
use Rattle.poly_grid.specs.Spot.{Spot}
use Rattle.poly_grid.specs.Refusal.{code_of, name_of}
use Rattle.poly_grid.specs.declared.refusal.Refusal.{Refusal}
use Rattle.poly_design.specs.declared.placement.Placement.{Placement}
use Rattle.poly_tiling.specs.declared.item.Item.{Item}
use Rattle.poly_tiling.specs.declared.item.Item.TheVariants.{Cell, Piece}

abbrev pub refusal_text : Refusal → List ℕ
refusal_text e = codes "no " ++ decimal (code_of e) ++ 32 ∷ name_of e ++ 10 ∷ []

abbrev pub ok_text : ℕ → List ℕ
ok_text edition = codes "ok " ++ decimal edition ++ 10 ∷ []

-- the reply to a step: the edition after it, or its refusal
abbrev pub step_text : Result ℕ Refusal → List ℕ
step_text (Ok edition) = ok_text edition
step_text (Err e) = refusal_text e

abbrev pub tilings_text : ℕ → List ℕ
tilings_text n = codes "tilings " ++ decimal n ++ 10 ∷ []

-- the column and the row of a cell, with a comma between them
abbrev pub cell_text : Spot → List ℕ
cell_text c = decimal c.x ++ 44 ∷ decimal c.y

-- cells with slashes between them
abbrev pub cells_text : List Spot → List ℕ
cells_text cells = join_by cell_text (47 ∷ []) cells

-- the name, an equals sign and the cells
abbrev pub placement_text : Placement → List ℕ
placement_text p = p.name ++ 61 ∷ cells_text p.cells

-- each placement after a space, or a space and a dash if there are none
abbrev pub placements_text : List Placement → List ℕ
placements_text [] = codes " -"
placements_text (p ∷ ps) = flat_map (λ q. 32 ∷ placement_text q) (p ∷ ps)

abbrev pub tiling_text : List Placement → List ℕ
tiling_text ps = codes "tiling" ++ placements_text ps ++ 10 ∷ []

-- the line of placements that are in all matching tilings
abbrev pub forced_text : List Placement → List ℕ
forced_text ps = codes "forced" ++ placements_text ps ++ 10 ∷ []

-- a cell, or the name of a piece
abbrev pub item_name : Item → List ℕ
item_name (Cell c) = cell_text c
item_name (Piece n) = n

-- an item, and how many placements cover it
abbrev pub item_text : Item → ℕ → List ℕ
item_text i n = codes "item " ++ item_name i ++ 32 ∷ decimal n ++ 10 ∷ []

abbrev pub matches_text : ℕ → List ℕ
matches_text n = codes "matches " ++ decimal n ++ 10 ∷ []

abbrev pub classes_text : ℕ → List ℕ
classes_text n = codes "classes " ++ decimal n ++ 10 ∷ []

-- the edition, how many tilings are listed and how many tasks are pending
abbrev pub status_text : ℕ → ℕ → ℕ → List ℕ
status_text edition listed pending =
    codes "status edition " ++ decimal edition ++ codes " listed " ++ decimal listed ++ codes " pending " ++ decimal pending ++ 10 ∷ []

-- how many cells the placements have together; a cell of two placements counts twice
abbrev pub covered : List Placement → ℕ
covered ps = sum_by (λ p. length p.cells) ps
