-- A run over lines: each line gives some output and the next state.
use Rattle.std.specs.Prelude.{◌≡◌, ◌⊎◌, ◌≤◌, ℕ, List, [], ◌∷◌, ◌++◌, length, take, Option, Result, Ok, Err}
use Rattle.std.specs.Io.KnownBytes.{Appends, IsAtEnd}
use Rattle.poly_cli.specs.declared.writing.Fault.{Fault}
use Rattle.poly_cli.specs.declared.writing.Fault.TheVariants.{Read, Write}
use Rattle.poly_cli.specs.declared.lines.Lines.{Lines}
use Rattle.poly_cli.specs.Buffered.{room}
use Rattle.poly_cli.specs.Cutting.{lines_of, lines_before}

abbrev pub Runs : {S : Type 0} → (S → Option (List ℕ) → List ℕ → S → Type 0) → S → List (Option (List ℕ)) → List ℕ → Type 0
Runs {S} Says s [] out = out ≡ []
Runs {S} Says s (line ∷ lines) out = (first rest : List ℕ) × (t : S) × Says s line first t × Runs Says t lines rest × (out ≡ first ++ rest)

-- what the writer took of `out`: all of it, or, if the writer failed, a beginning of it, which may be empty or all of it
abbrev pub Writes : Result (Unit {0}) Fault → Option (List ℕ) → Option (List ℕ) → List ℕ → Type 0
Writes (Ok x) old new out = Appends old new out
Writes (Err e) old new out = (e ≡ Write) × (wrote rest : List ℕ) × Appends old new wrote × (wrote ++ rest ≡ out)

-- the most bytes of a line, the most bytes of an input, and the most lines of an input
pub record Limits : Type 0 where
  pub line : ℕ
  pub bytes : ℕ
  pub lines : ℕ

-- the limits from here on, with this many lines left
abbrev pub limits_from : ℕ → Lines → Limits
limits_from most b = record { line = b.limit; bytes = room b; lines = most }

-- the lines that were read whole before a fault, within the limits
abbrev pub lines_heard : Limits → List ℕ → List (Option (List ℕ))
lines_heard m bytes = take m.lines (lines_before m.line (take m.bytes bytes))

-- The lines are those that were read whole within the limits: the lines that the bytes end or, if the input ended within
-- the limit of bytes, all its lines up to the limit of lines.
abbrev pub AreReadWhole : Limits → (List ℕ → List (Option (List ℕ))) → List ℕ → Option (List ℕ) → List (Option (List ℕ)) → Type 0
AreReadWhole m all bytes left lines = (lines ≡ lines_heard m bytes) ⊎ (IsAtEnd left × (length bytes ≤ m.bytes) × (lines ≡ take m.lines (all bytes)))

-- What a session writes for the bytes that it took. If the input ended within the limits, the output is that of a run on
-- all lines. After a read fault, it is that of a run on the lines read whole before the fault. After a write fault, it is a
-- beginning of the output of a run on some of the lines read whole, from the first line on.
abbrev pub Serves : {S : Type 0} → Limits → (S → Option (List ℕ) → List ℕ → S → Type 0) → S → List ℕ → Result (Unit {0}) Fault → Option (List ℕ) → Option (List ℕ) → Option (List ℕ) → Type 0
Serves m Says s bytes (Ok x) left old new =
    IsAtEnd left × (length bytes ≤ m.bytes) × (length (lines_of m.line bytes) ≤ m.lines) × ((out : List ℕ) × Appends old new out × Runs Says s (lines_of m.line bytes) out)
Serves m Says s bytes (Err Read) left old new = (out : List ℕ) × Appends old new out × Runs Says s (lines_heard m bytes) out
Serves m Says s bytes (Err Write) left old new =
    (out rest : List ℕ) × (lines more : List (Option (List ℕ))) × Appends old new out × Runs Says s lines (out ++ rest) × AreReadWhole m (lines_of m.line) bytes left (lines ++ more)
