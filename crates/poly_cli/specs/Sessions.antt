-- What a whole session writes: the first line is the puzzle line, and if it is refused, nothing follows the refusal.
use Rattle.std.specs.Prelude.{◌≡◌, ◌⊎◌, ◌≤◌, ℕ, List, [], ◌∷◌, ◌++◌, length, Option, Some, None, Result, Ok, Err}
use Rattle.std.specs.Io.KnownBytes.{Appends, IsAtEnd}
use Rattle.poly_grid.specs.declared.grid.Grid.{Grid}
use Rattle.poly_grid.specs.declared.refusal.Refusal.{Refusal}
use Rattle.poly_grid.specs.declared.refusal.Refusal.TheVariants.{LineTooLong, Memory}
use Rattle.poly_design.specs.Layout.{Layout}
use Rattle.poly_cli.specs.declared.writing.Fault.{Fault}
use Rattle.poly_cli.specs.declared.writing.Fault.TheVariants.{Read, Write}
use Rattle.poly_cli.specs.declared.sessions.End.{End}
use Rattle.poly_cli.specs.declared.sessions.End.TheVariants.{Done, Refused}
use Rattle.poly_cli.specs.Cutting.{lines_of}
use Rattle.poly_text.specs.Puzzle.{PuzzleSays}
use Rattle.poly_text.specs.Replies.{ok_text, refusal_text}
use Rattle.poly_cli.specs.Runs.{AreReadWhole, Limits, Runs, lines_heard}
use Rattle.poly_cli.specs.Slow.{Slow}
use Rattle.poly_cli.specs.States.{State, opened}

-- an input without lines counts as one empty line
abbrev pub or_empty : List (Option (List ℕ)) → List (Option (List ℕ))
or_empty [] = Some [] ∷ []
or_empty (line ∷ lines) = line ∷ lines

abbrev pub session_lines : ℕ → List ℕ → List (Option (List ℕ))
session_lines limit bytes = or_empty (lines_of limit bytes)

-- what the first line says; it may be too long
abbrev pub FirstSays : Option (List ℕ) → Result Layout Refusal → Type 0
FirstSays None r = r ≡ Err LineTooLong
FirstSays (Some line) r = PuzzleSays line r

-- the first line is refused: memory ran out, or the line gives no design, or it gives one but the engine had failed before
-- the session, and answers with the refusal with which it failed
abbrev pub Refuses : Option Refusal → Option (List ℕ) → Refusal → Type 0
Refuses failed line e = (e ≡ Memory) ⊎ FirstSays line (Err e) ⊎ ((design : Layout) × FirstSays line (Ok design) × (failed ≡ Some e))

abbrev pub Accepts : Option Refusal → Option (List ℕ) → State → Type 0
Accepts failed line t = (design : Layout) × FirstSays line (Ok design) × (failed ≡ None) × (t ≡ opened design)

-- what the opening of a session gives: the state that it leads to, with the grid of the design, or a refusal
abbrev pub Opens : Option Refusal → Option (List ℕ) → Result Grid Refusal → State → Type 0
Opens failed line (Ok grid) t = Accepts failed line t × (grid ≡ t.design.grid)
Opens failed line (Err e) t = Refuses failed line e

-- the reply to the opening: edition 0, or the refusal
abbrev pub opening_text : Result Grid Refusal → List ℕ
opening_text (Ok x) = ok_text 0
opening_text (Err e) = refusal_text e

-- A session that took these bytes, and whose first line was refused. If no line was read whole, then no byte was read at all,
-- and memory had run out before.
abbrev pub RunsRefused : Option Refusal → List ℕ → List (Option (List ℕ)) → List ℕ → Type 0
RunsRefused failed bytes [] out = (bytes ≡ []) × (out ≡ refusal_text Memory)
RunsRefused failed bytes (first ∷ lines) out = (e : Refusal) × Refuses failed first e × (out ≡ refusal_text e)

-- a session whose first line was accepted, or that read no whole line; `Failures` are the refusals with which an engine may
-- fail
abbrev pub RunsOpened : (Refusal → Type 0) → Option Refusal → List (Option (List ℕ)) → List ℕ → Type 0
RunsOpened Failures failed [] out = out ≡ []
RunsOpened Failures failed (first ∷ lines) out = (s : State) × (rest : List ℕ) × Accepts failed first s × Runs (Slow Failures) s lines rest × (out ≡ ok_text 0 ++ rest)

-- What a session writes for the bytes that it took. Done: the input ended within the limits, and the output is that of a
-- run on all lines. Refused: the output is the reply to the first line, which was read whole; or memory ran out before any
-- byte was read. After a read fault, the output is that of a run on the lines read whole before the fault. After a write
-- fault, it is a beginning of the refusal of the first line, or of the output of a run on some of the lines read whole, from
-- the first line on. `failed` is the refusal with which the engine had failed before the session, if it had.
abbrev pub SessionSays : (Refusal → Type 0) → Option Refusal → Limits → List ℕ → Result End Fault → Option (List ℕ) → Option (List ℕ) → Option (List ℕ) → Type 0
SessionSays Failures failed m bytes (Ok Done) left old new =
    IsAtEnd left × (length bytes ≤ m.bytes) × (length (session_lines m.line bytes) ≤ m.lines) × ((out : List ℕ) × Appends old new out × RunsOpened Failures failed (session_lines m.line bytes) out)
SessionSays Failures failed m bytes (Ok Refused) left old new =
    (out : List ℕ) × (lines : List (Option (List ℕ))) × Appends old new out × AreReadWhole m (session_lines m.line) bytes left lines × RunsRefused failed bytes lines out
SessionSays Failures failed m bytes (Err Read) left old new = (out : List ℕ) × Appends old new out × RunsOpened Failures failed (lines_heard m bytes) out
SessionSays Failures failed m bytes (Err Write) left old new =
    (out rest : List ℕ) × (lines more : List (Option (List ℕ))) × Appends old new out × (RunsOpened Failures failed lines (out ++ rest) ⊎ RunsRefused failed bytes lines (out ++ rest)) × AreReadWhole m (session_lines m.line) bytes left (lines ++ more)

-- The limits of every session: 65,536 bytes in a line, 2^30 bytes and a million lines of input. They are numbers here, so the
-- program's constants are proved to have these values.
unfoldable pub session_limits : Limits
session_limits = record { line = 65536; bytes = 1073741824; lines = 1000000 }
