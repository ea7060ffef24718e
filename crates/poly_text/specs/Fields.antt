-- The fields of a piece object, before its cells are judged as a shape.
use Rattle.std.specs.Prelude.{ℕ, ◌+◌, ◌&&◌, ◌==◌, Bool, true, false, List, [], ◌∷◌, codes, nat_le, nat_lt, if◌then◌else◌, Option, Some, None, option_map, option_and_then, unwrap_or}
use Rattle.std.specs.Str.{bytes_eq}
use Rattle.std.specs.List.{list_all}
use Rattle.serde_json.specs.Data.{Data}
use Rattle.serde_json.specs.Find.{get, as_object, as_str, as_bool}
use Rattle.serde_json.specs.Events.{members_len}
use Rattle.poly_grid.specs.Spot.{Spot}
use Rattle.poly_grid.specs.declared.cell.TheConstants.{SIDE}
use Rattle.poly_design.specs.Bounds.{Bounds}
use Rattle.poly_text.specs.declared.puzzle.head.Format.{Format}
use Rattle.poly_text.specs.declared.puzzle.head.Format.TheVariants.{One, Two}
use Rattle.poly_text.specs.Json.{◌>>=◌, when, text_at, list_at, as_list, is_whole, natural}

pub record Fields : Type 0 where
  pub name : List ℕ
  pub cells : List Data
  pub copies : Bounds
  pub mirror : Bool

abbrev pub is_pair_list : List Data → Bool
is_pair_list [] = false
is_pair_list (x ∷ []) = false
is_pair_list (x ∷ y ∷ []) = is_whole x && is_whole y
is_pair_list (x ∷ y ∷ z ∷ rest) = false

-- a list of two whole numbers
abbrev pub is_pair : Data → Bool
is_pair d = unwrap_or (option_map is_pair_list (as_list d)) false

abbrev pub copies_of : ℕ → ℕ → Option Bounds
copies_of least most = when (nat_le least most && nat_le most 16) (record { least = least; most = most })

abbrev pub copies_of_text : List ℕ → Option Bounds
copies_of_text t = if bytes_eq t (codes "required") then copies_of 1 1 else (if bytes_eq t (codes "optional") then copies_of 0 1 else None)

-- the copies by `need`: exactly one if the key is missing
abbrev pub copies_by_need : Option Data → Option Bounds
copies_by_need None = copies_of 1 1
copies_by_need (Some d) = option_and_then copies_of_text (as_str d)

-- whether the piece may be turned over: it may if the key is missing
abbrev pub mirror_of : Option Data → Option Bool
mirror_of None = Some true
mirror_of (Some d) = as_bool d

-- how many keys an optional field adds
abbrev pub present : Option Data → ℕ
present None = 0
present (Some d) = 1

-- An object has each key once, so if the number of its keys is right, it has no other keys.
unfoldable pub fields_one : Data → Option Fields
fields_one d = do
  ms ← as_object d
  name ← text_at (codes "name") d
  cells ← list_at (codes "cells") d
  copies ← copies_by_need (get (codes "need") d)
  mirror ← mirror_of (get (codes "mirror") d)
  when (members_len ms == 2 + present (get (codes "need") d) + present (get (codes "mirror") d) && list_all is_pair cells) (record { name = name; cells = cells; copies = copies; mirror = mirror })

unfoldable pub fields_two : Data → Option Fields
fields_two d = do
  ms ← as_object d
  name ← text_at (codes "name") d
  cells ← list_at (codes "cells") d
  least ← option_and_then natural (get (codes "least") d)
  most ← option_and_then natural (get (codes "most") d)
  copies ← copies_of least most
  mirror ← mirror_of (get (codes "mirror") d)
  when (members_len ms == 4 + present (get (codes "mirror") d) && list_all is_pair cells) (record { name = name; cells = cells; copies = copies; mirror = mirror })

abbrev pub fields_of : Format → Data → Option Fields
fields_of One d = fields_one d
fields_of Two d = fields_two d

-- the cell of two whole numbers from 0 to 63, the column and the row
abbrev pub cell_of_list : List Data → Option Spot
cell_of_list [] = None
cell_of_list (x ∷ []) = None
cell_of_list (x ∷ y ∷ []) = do
  column ← natural x
  row ← natural y
  when (nat_lt column SIDE && nat_lt row SIDE) (record { x = column; y = row })
cell_of_list (x ∷ y ∷ z ∷ rest) = None

abbrev pub cell_of : Data → Option Spot
cell_of d = option_and_then cell_of_list (as_list d)

unfoldable pub cells_of : List Data → Option (List Spot)
cells_of [] = Some []
cells_of (d ∷ ds) = do
  c ← cell_of d
  cs ← cells_of ds
  Some (c ∷ cs)
