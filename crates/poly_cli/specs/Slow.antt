-- The slow session: the answer to each line after the puzzle line, and the next state. It knows only the definitions: no
-- engine, no placement numbers, no tables, no search. Its one parameter is the set of refusals with which an engine may fail.
use Rattle.std.specs.Prelude.{◌≡◌, ◌⊎◌, ℕ, ◌+◌, List, [], ◌∷◌, Option, Some, None, Result, Ok, Err}
use Rattle.poly_grid.specs.declared.refusal.Refusal.{Refusal}
use Rattle.poly_grid.specs.declared.refusal.Refusal.TheVariants.{LineTooLong, Memory}
use Rattle.poly_text.specs.declared.command.Command.{Command}
use Rattle.poly_text.specs.declared.command.Command.TheVariants as command
use Rattle.poly_text.specs.Commands.{CommandSays}
use Rattle.poly_text.specs.Replies.{ok_text, refusal_text}
use Rattle.poly_text.specs.Words.{words_of}
use Rattle.poly_cli.specs.States.{EditRefused, Edits, RedoRefused, Redoes, State, UndoRefused, Undoes}
use Rattle.poly_cli.specs.Questions.{AnswersQuestion, AnswersStatus, BrowseSays, ClassesSay, CountSays, ListSays}

-- the line is refused, and nothing changes
abbrev pub IsRefusal : Refusal → State → List ℕ → State → Type 0
IsRefusal e s out t = (t ≡ s) × (out ≡ refusal_text e)

-- a step: the next edition, or its refusal
abbrev pub Steps : (State → Type 0) → (Refusal → Type 0) → State → List ℕ → State → Type 0
Steps Leads Refused s out t = (Leads t × (out ≡ ok_text (s.edition + 1))) ⊎ ((e : Refusal) × Refused e × IsRefusal e s out t)

-- the reply to a command, if the engine hasn't failed before
abbrev pub Answers : (Refusal → Type 0) → Command → State → List ℕ → State → Type 0
Answers Failures (command.Edit edit) s out t = Steps (Edits s edit) (EditRefused s edit) s out t
Answers Failures command.Undo s out t = Steps (Undoes s) (UndoRefused s) s out t
Answers Failures command.Redo s out t = Steps (Redoes s) (RedoRefused s) s out t
Answers Failures command.Status s out t = AnswersStatus s out t
Answers Failures command.Count s out t = AnswersQuestion Failures CountSays s out t
Answers Failures command.ListAll s out t = AnswersQuestion Failures ListSays s out t
Answers Failures (command.Browse question) s out t = AnswersQuestion Failures (BrowseSays question) s out t
Answers Failures command.Classes s out t = AnswersQuestion Failures ClassesSay s out t

-- The reply of an engine that has failed before. It still has its numbers, for `status`. Every other command is refused with
-- the refusal with which the engine failed.
abbrev pub AnswersFailed : Refusal → Command → State → List ℕ → State → Type 0
AnswersFailed failure command.Status s out t = AnswersStatus s out t
AnswersFailed failure _ s out t = IsRefusal failure s out t

-- the reply to a command of an engine that hasn't failed, or failed with a refusal
abbrev pub AnswersOf : (Refusal → Type 0) → Option Refusal → Command → State → List ℕ → State → Type 0
AnswersOf Failures None c s out t = Answers Failures c s out t
AnswersOf Failures (Some failure) c s out t = AnswersFailed failure c s out t

-- the reply to a command
abbrev pub Responds : (Refusal → Type 0) → Command → State → List ℕ → State → Type 0
Responds Failures c s out t = AnswersOf Failures s.failed c s out t

-- the reply to a command, or the refusal of words that make no command
abbrev pub Replies : (Refusal → Type 0) → Result Command Refusal → State → List ℕ → State → Type 0
Replies Failures (Ok c) s out t = Responds Failures c s out t
Replies Failures (Err e) s out t = IsRefusal e s out t

-- The reply to the words of a line: none if there are no words. `Memory` may take the place of any reply.
abbrev pub WordsSay : (Refusal → Type 0) → List (List ℕ) → State → List ℕ → State → Type 0
WordsSay Failures [] s out t = (t ≡ s) × (out ≡ [])
WordsSay Failures (first ∷ words) s out t = ((c : Result Command Refusal) × CommandSays s.design.grid (first ∷ words) c × Replies Failures c s out t) ⊎ IsRefusal Memory s out t

-- The reply to a line. `None` is a line that is too long, whose text isn't kept.
abbrev pub Slow : (Refusal → Type 0) → State → Option (List ℕ) → List ℕ → State → Type 0
Slow Failures s None out t = IsRefusal LineTooLong s out t
Slow Failures s (Some line) out t = WordsSay Failures (words_of line) s out t
