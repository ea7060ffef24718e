-- Command lines: the commands, the words that they take, and what they ask for.
use Rattle.std.specs.Prelude.{◌≡◌, ℕ, ◌&&◌, Bool, true, false, List, [], ◌∷◌, codes, length, take, drop, nat_lt, if◌then◌else◌, Option, Some, None, is_some, Result, Ok, Err}
use Rattle.std.specs.Str.{bytes_eq}
use Rattle.poly_grid.specs.Spot.{Spot}
use Rattle.poly_grid.specs.declared.grid.Grid.{Grid}
use Rattle.poly_grid.specs.declared.refusal.Refusal.{Refusal}
use Rattle.poly_grid.specs.declared.refusal.Refusal.TheVariants.{BadCommand, BadName}
use Rattle.poly_shape.specs.Figure.{Figure}
use Rattle.poly_design.specs.Bounds.{Bounds}
use Rattle.poly_design.specs.declared.need.Need.{Need}
use Rattle.poly_design.specs.declared.mode.Mode.{Mode}
use Rattle.poly_design.specs.declared.edit.Edit.{Edit}
use Rattle.poly_design.specs.declared.edit.Edit.TheVariants as edit
use Rattle.poly_text.specs.declared.command.Command.{Command}
use Rattle.poly_text.specs.declared.command.Command.TheVariants as command
use Rattle.poly_text.specs.Asked.{Asked}
use Rattle.poly_text.specs.Fields.{copies_of}
use Rattle.poly_text.specs.Gives.{◌>>=◌, ok_or, check, Follows}
use Rattle.poly_text.specs.Names.{name_of}
use Rattle.poly_text.specs.Piece.{ShapeSays}
use Rattle.poly_text.specs.Queries.{Query, query_of, QuestionSays}
use Rattle.poly_text.specs.Sets.{SetSays}
use Rattle.poly_text.specs.Words.{words_of, need_of, switch_of, mode_of, number_of, cell_of, cells_of, read_each}

-- the kinds of words of a command
pub data Kind : Type 0 where
  a_name a_need a_switch a_mode a_number a_cell : Kind

-- what a word of each kind gives
abbrev pub Meaning : Kind → Type 0
Meaning a_name = List ℕ
Meaning a_need = Need
Meaning a_switch = Bool
Meaning a_mode = Mode
Meaning a_number = ℕ
Meaning a_cell = Spot

abbrev pub meaning_of : (kind : Kind) → List ℕ → Result (Meaning kind) Refusal
meaning_of a_name word = ok_or (name_of word) BadName
meaning_of a_need word = ok_or (need_of word) BadCommand
meaning_of a_switch word = ok_or (switch_of word) BadCommand
meaning_of a_mode word = ok_or (mode_of word) BadCommand
meaning_of a_number word = ok_or (number_of word) BadCommand
meaning_of a_cell word = cell_of word

-- Whether the word is a keyword of the kind. A kind that has no keywords accepts every word here. Keywords are judged
-- before all other words.
abbrev pub is_fit : Kind → List ℕ → Bool
is_fit a_name word = true
is_fit a_need word = is_some (need_of word)
is_fit a_switch word = is_some (switch_of word)
is_fit a_mode word = is_some (mode_of word)
is_fit a_number word = true
is_fit a_cell word = true

-- there are as many words as kinds, and each word is fit for its kind
abbrev pub are_fit : List Kind → List (List ℕ) → Bool
are_fit [] [] = true
are_fit [] (word ∷ words) = false
are_fit (kind ∷ kinds) [] = false
are_fit (kind ∷ kinds) (word ∷ words) = is_fit kind word && are_fit kinds words

-- a function that takes a value for each kind
abbrev pub Takes : List Kind → Type 0 → Type 0
Takes [] A = A
Takes (kind ∷ kinds) A = Meaning kind → Takes kinds A

-- f of the values of the words, or the refusal of the leftmost word that is refused or missing
abbrev pub from_left : {A : Type 0} → (kinds : List Kind) → Takes kinds A → List (List ℕ) → Result A Refusal
from_left [] f words = Ok f
from_left (kind ∷ kinds) f [] = Err BadCommand
from_left (kind ∷ kinds) f (word ∷ words) = meaning_of kind word >>= λ value. from_left kinds (f value) words

-- what the words of a command give: the command, or numbers, cells or queries that are judged after all words are read
pub data Outcome : Type 0 where
  just : Command → Outcome
  of_copies : ℕ → ℕ → (Bounds → Edit) → Outcome
  of_set : List Spot → (List Spot → Edit) → Outcome
  of_shape : List Spot → (Figure → Edit) → Outcome
  of_question : List Query → Outcome

-- The form of a command: its first word and the kinds of the words after it. In a form with cells, one or more cells come
-- after these. In a form of queries, any number of queries come after the first word.
pub data Form : Type 0 where
  form : List ℕ → (kinds : List Kind) → Takes kinds Outcome → Form
  form_with_cells : List ℕ → (kinds : List Kind) → Takes kinds (List Spot → Outcome) → Form
  form_of_queries : List ℕ → Form

abbrev pub forms : List Form
forms =
    form_with_cells (codes "add") (a_name ∷ a_need ∷ a_switch ∷ []) (λ name need mirror cells. of_shape cells (λ shape. edit.Add name shape need mirror))
    ∷ form (codes "drop") (a_name ∷ []) (λ name. just (command.Edit (edit.Drop name)))
    ∷ form (codes "need") (a_name ∷ a_need ∷ []) (λ name need. just (command.Edit (edit.Need name need)))
    ∷ form (codes "copies") (a_name ∷ a_number ∷ a_number ∷ []) (λ name least most. of_copies least most (λ copies. edit.Copies name copies))
    ∷ form (codes "mirror") (a_name ∷ a_switch ∷ []) (λ name mirror. just (command.Edit (edit.Mirror name mirror)))
    ∷ form (codes "cell") (a_cell ∷ a_mode ∷ []) (λ cell mode. just (command.Edit (edit.Cell cell mode)))
    ∷ form_with_cells (codes "pin") (a_name ∷ []) (λ name cells. of_set cells (λ set. edit.Pin name set))
    ∷ form (codes "unpin") (a_name ∷ []) (λ name. just (command.Edit (edit.Unpin name)))
    ∷ form_with_cells (codes "forbid") (a_name ∷ []) (λ name cells. of_set cells (λ set. edit.Forbid name set))
    ∷ form_with_cells (codes "allow") (a_name ∷ []) (λ name cells. of_set cells (λ set. edit.Allow name set))
    ∷ form (codes "undo") [] (just command.Undo)
    ∷ form (codes "redo") [] (just command.Redo)
    ∷ form (codes "count") [] (just command.Count)
    ∷ form (codes "list") [] (just command.ListAll)
    ∷ form (codes "classes") [] (just command.Classes)
    ∷ form (codes "status") [] (just command.Status)
    ∷ form_of_queries (codes "browse")
    ∷ []

abbrev pub first_word : Form → List ℕ
first_word (form first kinds f) = first
first_word (form_with_cells first kinds f) = first
first_word (form_of_queries first) = first

-- reads the words after the first: judges their number and the keywords, and then each word from the left
abbrev pub read : Form → List (List ℕ) → Result Outcome Refusal
read (form first kinds f) words = check (are_fit kinds words) BadCommand >>= λ _. from_left kinds f words
read (form_with_cells first kinds f) words = do
  fit ← check (are_fit kinds (take (length kinds) words) && nat_lt (length kinds) (length words)) BadCommand
  made ← from_left kinds f (take (length kinds) words)
  cells ← cells_of (drop (length kinds) words)
  Ok (made cells)
read (form_of_queries first) words = read_each query_of words >>= λ queries. Ok (of_question queries)

-- reads the words after the first, by the form that begins with the first word
abbrev pub read_by : List Form → List ℕ → List (List ℕ) → Result Outcome Refusal
read_by [] first words = Err BadCommand
read_by (f ∷ fs) first words = if bytes_eq first (first_word f) then read f words else read_by fs first words

abbrev pub edit_by : {A : Type 0} → (A → Edit) → Result A Refusal → Result Command Refusal
edit_by f made = made >>= λ x. Ok (command.Edit (f x))

abbrev pub ComesTo : Grid → Outcome → Result Command Refusal → Type 0
ComesTo g (just c) r = r ≡ Ok c
ComesTo g (of_copies least most f) r = r ≡ edit_by f (ok_or (copies_of least most) BadCommand)
ComesTo g (of_set cells f) r = (set : Result (List Spot) Refusal) × SetSays cells set × (r ≡ edit_by f set)
ComesTo g (of_shape cells f) r = (shape : Result Figure Refusal) × ShapeSays g cells shape × (r ≡ edit_by f shape)
ComesTo g (of_question queries) r = (q : Result Asked Refusal) × QuestionSays queries q × (r ≡ (q >>= λ asked. Ok (command.Browse asked)))

-- r is what the words after the first give in this form: the command, or their first refusal
abbrev pub FormSays : Grid → Form → List (List ℕ) → Result Command Refusal → Type 0
FormSays g f words r = Follows (read f words) (λ outcome. ComesTo g outcome r) r

-- r is the command that the words give on the grid, or their first refusal
abbrev pub CommandSays : Grid → List (List ℕ) → Result Command Refusal → Type 0
CommandSays g [] r = r ≡ Err BadCommand
CommandSays g (first ∷ words) r = Follows (read_by forms first words) (λ outcome. ComesTo g outcome r) r

-- r is the name and the set of cells that the words give, or their first refusal; f can be any edit of a name and a set
abbrev pub NamedSays : List (List ℕ) → Result (List ℕ × List Spot) Refusal → Type 0
NamedSays words r = (g : Grid) (f : List ℕ → List Spot → Edit)
    → FormSays g (form_with_cells [] (a_name ∷ []) (λ name cells. of_set cells (λ set. f name set))) words (r >>= λ n. Ok (command.Edit (f n.0 n.1)))

-- r is the command of the words or their first refusal, or none if there are no words
abbrev pub AskedBy : Grid → List (List ℕ) → Result (Option Command) Refusal → Type 0
AskedBy g [] r = r ≡ Ok None
AskedBy g (first ∷ words) r = (c : Result Command Refusal) × CommandSays g (first ∷ words) c × (r ≡ (c >>= λ x. Ok (Some x)))

-- r is what the line asks for, which is nothing if the line has no words; or its first refusal
abbrev pub Asks : Grid → List ℕ → Result (Option Command) Refusal → Type 0
Asks g line r = AskedBy g (words_of line) r
