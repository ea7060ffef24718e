-- The grid of a session's design stays the same.
use Rattle.std.proofs.Common.{List, None, Option, Some, [], ap, inl, inr, refl, ℕ, ◌∙◌, ◌∷◌, ◌≡◌, Err, Ok, Result}
use Rattle.poly_grid.specs.declared.refusal.Refusal.{Refusal}
use Rattle.poly_design.specs.Changes.{changed, inverse_of}
use Rattle.poly_design.specs.Layout.{Layout}
use Rattle.poly_design.specs.declared.change.Change.{Change}
use Rattle.poly_design.specs.declared.change.Change.TheVariants.{Cell, Piece}
use Rattle.poly_design.specs.declared.placement.Placement.{Placement}
use Rattle.poly_text.specs.declared.command.Command.{Command}
use Rattle.poly_text.specs.declared.command.Command.TheVariants as command
use Rattle.poly_text.specs.Words.{words_of}
use Rattle.poly_cli.specs.Questions.{AnswersQuestion, BrowseSays, ClassesSay, CountSays, ListSays}
use Rattle.poly_cli.specs.Slow.{Answers, AnswersFailed, AnswersOf, Replies, Slow, Steps, WordsSay}
use Rattle.poly_cli.specs.States.{EditRefused, Edits, Fails, RedoRefused, Redoes, State, UndoRefused, Undoes}

changed_grid : (d : Layout) (x : Change) → (changed d x).grid ≡ d.grid
changed_grid d (Cell c before after) = refl
changed_grid d (Piece name before after) = refl

abbrev Same : State → State → Type 0
Same s t = t.design.grid ≡ s.design.grid

same_state : (s t : State) → t ≡ s → Same s t
same_state s t e = ap (λ (z : State). z.design.grid) e

after_step : (Leads : State → Type 0) (Refused : Refusal → Type 0) (s : State) (out : List ℕ) (t : State) → (Leads t → Same s t) → Steps Leads Refused s out t → Same s t
after_step Leads Refused s out t leads (inl h) = leads h.0
after_step Leads Refused s out t leads (inr h) = same_state s t h.2.0

after_failing : (Failures : Refusal → Type 0) (s : State) (e : Refusal) (t : State) → Fails Failures s e t → Same s t
after_failing Failures s e t (alive, unsettled, failure, inl same) = same_state s t same
after_failing Failures s e t (alive, unsettled, failure, inr lost) = ap (λ (z : State). z.design.grid) lost

after_question : (Failures : Refusal → Type 0) (Says : Layout → List (List Placement) → List ℕ → Type 0) (s : State) (out : List ℕ) (t : State) → AnswersQuestion Failures Says s out t → Same s t
after_question Failures Says s out t (inl h) = ap (λ (z : State). z.design.grid) h.0
after_question Failures Says s out t (inr (inl (e, why, inl same, text))) = same_state s t same
after_question Failures Says s out t (inr (inl (e, why, inr settled, text))) = ap (λ (z : State). z.design.grid) settled
after_question Failures Says s out t (inr (inr (e, fails, text))) = after_failing Failures s e t fails

after_command : (Failures : Refusal → Type 0) (c : Command) (s : State) (out : List ℕ) (t : State) → Answers Failures c s out t → Same s t
after_command Failures (command.Edit e) s out t h = after_step (Edits s e) (EditRefused s e) s out t (λ i. ap (λ (z : State). z.design.grid) i.is ∙ changed_grid s.design i.change) h
after_command Failures command.Undo s out t h = after_step (Undoes s) (UndoRefused s) s out t (λ i. ap (λ (z : State). z.design.grid) i.is ∙ changed_grid s.design (inverse_of i.change)) h
after_command Failures command.Redo s out t h = after_step (Redoes s) (RedoRefused s) s out t (λ i. ap (λ (z : State). z.design.grid) i.is ∙ changed_grid s.design i.change) h
after_command Failures command.Status s out t h = same_state s t h.0
after_command Failures command.Count s out t h = after_question Failures CountSays s out t h
after_command Failures command.ListAll s out t h = after_question Failures ListSays s out t h
after_command Failures (command.Browse q) s out t h = after_question Failures (BrowseSays q) s out t h
after_command Failures command.Classes s out t h = after_question Failures ClassesSay s out t h

after_refusal : (c : Command) (s : State) (failure : Refusal) (out : List ℕ) (t : State) → AnswersFailed failure c s out t → Same s t
after_refusal (command.Edit e) s failure out t h = same_state s t h.0
after_refusal command.Undo s failure out t h = same_state s t h.0
after_refusal command.Redo s failure out t h = same_state s t h.0
after_refusal command.Status s failure out t h = same_state s t h.0
after_refusal command.Count s failure out t h = same_state s t h.0
after_refusal command.ListAll s failure out t h = same_state s t h.0
after_refusal (command.Browse q) s failure out t h = same_state s t h.0
after_refusal command.Classes s failure out t h = same_state s t h.0

after_reply : (Failures : Refusal → Type 0) (r : Result Command Refusal) (s : State) (out : List ℕ) (t : State) → Replies Failures r s out t → Same s t
after_reply Failures (Ok c) s out t h = go s.failed h
  where
    go : (f : Option Refusal) → AnswersOf Failures f c s out t → Same s t
    go None h = after_command Failures c s out t h
    go (Some failure) h = after_refusal c s failure out t h
after_reply Failures (Err e) s out t h = same_state s t h.0

after_words : (Failures : Refusal → Type 0) (words : List (List ℕ)) (s : State) (out : List ℕ) (t : State) → WordsSay Failures words s out t → Same s t
after_words Failures [] s out t h = same_state s t h.0
after_words Failures (word ∷ words) s out t (inl h) = after_reply Failures h.0 s out t h.2
after_words Failures (word ∷ words) s out t (inr h) = same_state s t h.0

pub same_grid : (Failures : Refusal → Type 0) (s : State) (line : Option (List ℕ)) (out : List ℕ) (t : State) → Slow Failures s line out t → t.design.grid ≡ s.design.grid
same_grid Failures s None out t h = same_state s t h.0
same_grid Failures s (Some line) out t h = after_words Failures (words_of line) s out t h
