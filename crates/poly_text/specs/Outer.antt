-- The outer object of a puzzle line: exactly the keys `format`, `grid`, `board` and `pieces`, each with a value of the right
-- kind.
use Rattle.std.specs.Prelude.{ℕ, ◌&&◌, ◌==◌, List, codes, Option}
use Rattle.serde_json.specs.Data.{Data}
use Rattle.serde_json.specs.Find.{get, as_object}
use Rattle.serde_json.specs.Events.{members_len}
use Rattle.std.specs.List.{list_all}
use Rattle.poly_text.specs.Json.{◌>>=◌, when, text_at, list_at, is_whole, is_text, is_object, natural}

pub record Outer : Type 0 where
  pub format : Option ℕ
  pub grid : List ℕ
  pub board : List Data
  pub pieces : List Data

-- An object has each key once, so if it has these four keys, and four keys in all, it has no others.
unfoldable pub outer_of : Data → Option Outer
outer_of d = do
  ms ← as_object d
  format ← get (codes "format") d
  grid ← text_at (codes "grid") d
  board ← list_at (codes "board") d
  pieces ← list_at (codes "pieces") d
  when (members_len ms == 4 && is_whole format && list_all is_text board && list_all is_object pieces) (record { format = natural format; grid = grid; board = board; pieces = pieces })
