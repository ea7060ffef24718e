-- How contracts see values in memory.
use Rattle.std.specs.Prelude.{List, map, ℕ}
use Rattle.serde_json.specs.Data.{Data}
use Rattle.serde_json.specs.View.{view}
use Rattle.serde_json.specs.declared.value.Value.{Value}
use Rattle.poly_text.specs.Outer as outer
use Rattle.poly_text.specs.declared.puzzle.head.Outer.{Outer}
use Rattle.poly_text.specs.declared.puzzle.head.Head.{Head}
use Rattle.poly_text.specs.declared.puzzle.piece.Said.{Said}
use Rattle.poly_text.specs.Piece as piece
use Rattle.poly_text.specs.declared.puzzle.fields.Fields.{Fields}
use Rattle.poly_text.specs.Fields as fields
use Rattle.poly_text.specs.Head as head
use Rattle.poly_text.specs.Json as json

abbrev pub views : List Value → List Data
views vs = map view vs

abbrev pub rows_of : List Value → List (List ℕ)
rows_of vs = map json.text (views vs)

abbrev pub outer_view : Outer → outer.Outer
outer_view o = record { format = o.format; grid = o.grid.now; board = views o.board.now; pieces = views o.pieces.now }

abbrev pub head_view : Head → head.Head
head_view h = record { format = h.format; grid = h.grid; rows = rows_of h.rows.now; pieces = views h.pieces.now }

abbrev pub fields_view : Fields → fields.Fields
fields_view f = record { name = f.name.now; cells = views f.cells.now; copies = f.copies; mirror = f.mirror }

abbrev pub said_view : Said → piece.Said
said_view s = record { name = s.name; cells = s.cells.items; copies = s.copies; mirror = s.mirror }
