-- What is kept between lines, and the result of reading the next one.
use Rattle.std.specs.Prelude.{◌≡◌, ◌≤◌, ◌<◌, ◌+◌, ◌-◌, ℕ, List, [], ◌∷◌, ◌++◌, take, drop, length, vec_capacity, Bool, true, false, Option}
use Rattle.std.specs.Io.KnownBytes.{Consumes, IsAtEnd}
use Rattle.poly_cli.specs.declared.lines.Lines.{Lines}
use Rattle.poly_cli.specs.declared.lines.Event.{Event}
use Rattle.poly_cli.specs.declared.lines.Event.TheVariants.{Line, End, Fault}
use Rattle.poly_cli.specs.Cutting.{open_line, whole_lines}

-- the bytes that were read and not yet cut
abbrev pub ahead : Lines → List ℕ
ahead b = take (b.end - b.at) (drop b.at b.chunk.items)

-- how many bytes may come from here on, those ahead included
abbrev pub room : Lines → ℕ
room b = length (ahead b) + b.left

pub record IsReady (b : Lines) : Type 0 where
  pub room : b.limit + 1 ≤ vec_capacity b.line
  pub order : b.at ≤ b.end
  pub within : b.end ≤ length b.chunk.items
  pub some : 0 < length b.chunk.items

-- the first bytes of a line, at most one more than a line may have
abbrev pub kept : ℕ → List ℕ → List ℕ
kept limit bytes = take (limit + 1) bytes

-- the piece ends the line that had begun, and nothing in the piece comes after that line; `text` is what is kept of the line
pub record EndsLine (limit : ℕ) (begun piece text : List ℕ) : Type 0 where
  pub bytes : List ℕ
  pub whole : whole_lines begun piece ≡ bytes ∷ []
  pub after : open_line begun piece ≡ []
  pub line : text ≡ kept limit bytes

-- the piece ends no line; `text` is what is kept of the line that has begun
pub record EndsNone (limit : ℕ) (begun piece text : List ℕ) : Type 0 where
  pub whole : whole_lines begun piece ≡ []
  pub line : text ≡ kept limit (open_line begun piece)

-- what was found in the bytes ahead: the end of a line; or no end, and then no bytes are ahead any more
abbrev pub Cuts : ℕ → Bool → List ℕ → List ℕ → List ℕ → List ℕ → Type 0
Cuts limit true begun piece text rest = EndsLine limit begun piece text
Cuts limit false begun piece text rest = EndsNone limit begun piece text × (rest ≡ [])

-- the result of a read if `left` bytes may still come: some bytes, which are ahead from then on; the end; or a fault. A
-- fault takes bytes only if `left` is 0, and these bytes are over the limit.
abbrev pub Reads : Event → ℕ → ℕ → Option (List ℕ) → Option (List ℕ) → List ℕ → Type 0
Reads Line left now old new rest = Consumes old new rest × (now + length rest ≡ left)
Reads End left now old new rest = Consumes old new [] × IsAtEnd new × (rest ≡ []) × (now ≡ left)
Reads Fault left now old new rest = (over : List ℕ) × Consumes old new over × (rest ≡ []) × (now ≡ left) × (0 < now → over ≡ [])

-- the result of reading the next line: the piece of the stream that was cut, the text that is kept of it, and the bytes
-- read over the limit
abbrev pub Finds : Event → Lines → List ℕ → Option (List ℕ) → List ℕ → Type 0
Finds Line now piece left over = EndsLine now.limit [] piece now.line.items × (over ≡ [])
Finds End now piece left over = EndsNone now.limit [] piece now.line.items × (ahead now ≡ []) × IsAtEnd left × (over ≡ [])
Finds Fault now piece left over = EndsNone now.limit [] piece now.line.items × (ahead now ≡ []) × (0 < now.left → over ≡ [])

pub record NextLine (event : Event) (old new : Lines) (left_old left_new : Option (List ℕ)) : Type 0 where
  pub piece : List ℕ
  pub taken : List ℕ
  pub over : List ℕ
  pub consumed : Consumes left_old left_new (taken ++ over)
  pub counted : new.left + length taken ≡ old.left
  pub parts : ahead old ++ taken ≡ piece ++ ahead new
  pub finds : Finds event new piece left_new over
