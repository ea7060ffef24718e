-- The reply to a line, by what the line asks for.
use Rattle.std.proofs.Common.{true, true≢false, ◌≡◌, ◌∙◌, ℕ, ◌+◌, List, [], ◌∷◌, refl, sym, ap, subst, inl, inr, Option, Some, None, Result, Ok, Err}
use Rattle.std.specs.Prelude.{◌⊎◌, IfErr, IfOk, OnErr, OnOk}
use Rattle.poly_grid.specs.declared.grid.Grid.{Grid}
use Rattle.poly_grid.specs.declared.refusal.Refusal.{Refusal}
use Rattle.poly_grid.specs.declared.refusal.Refusal.TheVariants.{Memory}
use Rattle.poly_design.specs.Layout.{Layout}
use Rattle.poly_design.specs.declared.placement.Placement.{Placement}
use Rattle.poly_tiling.specs.Listings.{IsListOfTilings}
use Rattle.poly_book.specs.AllTilings.{AllTilings}
use Rattle.poly_text.specs.declared.command.Command.{Command}
use Rattle.poly_text.specs.Commands.{AskedBy, Asks, CommandSays}
use Rattle.poly_text.specs.Gives.{◌>>=◌}
use Rattle.poly_text.specs.Replies.{ok_text, refusal_text, step_text}
use Rattle.poly_cli.specs.Slow.{Answers, AnswersFailed, AnswersOf, IsRefusal, Replies, Responds, Steps, WordsSay}
use Rattle.poly_cli.specs.declared.questions.Survey.{Survey}
use Rattle.poly_cli.specs.declared.questions.Survey.TheVariants as survey
use Rattle.poly_cli.specs.Questions.{AnswersQuestion, SurveySays, command_of}
use Rattle.poly_cli.specs.Current.{IsCurrent}
use Rattle.poly_cli.specs.States.{IsNotAnswered, IsRefusedFor, IsUnanswered, State, answered}
use Rattle.poly_text.specs.Words.{words_of}

same_command : (r : Result Command Refusal) (c : Command) → Ok (Some c) ≡ (r >>= λ x. Ok (Some x)) → r ≡ Ok c
same_command (Ok x) c e = cc
same_command (Err f) c e = absurd cc

same_refusal : (r : Result Command Refusal) (e : Refusal) → Err e ≡ (r >>= λ c. Ok (Some c)) → r ≡ Err e
same_refusal (Ok c) e h = absurd cc
same_refusal (Err f) e h = cc

-- the outcome of a command: its reply, or a refusal because memory ran out
abbrev pub IsOutcome : (Refusal → Type 0) → Command → State → List ℕ → State → Type 0
IsOutcome Failures c s out t = Responds Failures c s out t ⊎ IsRefusal Memory s out t

module _ (Failures : Refusal → Type 0) (s : State) (g : Grid) (same_grid : g ≡ s.design.grid) where
  -- if a line asks for a command, an outcome of the command is a reply to the line's words
  pub command_says : (line : List ℕ) (c : Command) (out : List ℕ) (t : State) → Asks g line (Ok (Some c)) → IsOutcome Failures c s out t → WordsSay Failures (words_of line) s out t
  command_says line c out t a h = go (words_of line) a h
    where
      replied : (words : List (List ℕ)) → (a : AskedBy g words (Ok (Some c))) → Replies Failures (Ok c) s out t → WordsSay Failures words s out t
      replied [] a h = absurd cc
      replied (word ∷ words) a h = inl (a.0, subst (λ d. CommandSays d (word ∷ words) a.0) same_grid a.1, subst (λ r. Replies Failures r s out t) (sym (same_command a.0 c a.2)) h)

      go : (words : List (List ℕ)) → AskedBy g words (Ok (Some c)) → IsOutcome Failures c s out t → WordsSay Failures words s out t
      go [] a h = absurd cc
      go (word ∷ words) a (inl h) = replied (word ∷ words) a h
      go (word ∷ words) a (inr m) = inr m

  -- if a line has words, and it is refused or memory runs out, the refusal is a reply to the line's words
  pub refusal_says : (line : List ℕ) (e : Refusal) → (words_of line ≡ [] → ◌≡◌ {A = Result (Option Command) Refusal} (Err e) (Ok None)) → (e ≡ Memory) ⊎ Asks g line (Err e) → WordsSay Failures (words_of line) s (refusal_text e) s
  refusal_says line e blank a = go (words_of line) blank a
    where
      go : (words : List (List ℕ)) → (words ≡ [] → ◌≡◌ {A = Result (Option Command) Refusal} (Err e) (Ok None)) → (e ≡ Memory) ⊎ AskedBy g words (Err e) → WordsSay Failures words s (refusal_text e) s
      go [] blank a = let none = blank refl in absurd cc
      go (word ∷ words) blank (inl m) = inr (refl, ap refusal_text m)
      go (word ∷ words) blank (inr a) = inl (a.0, subst (λ d. CommandSays d (word ∷ words) a.0) same_grid a.1, subst (λ r. Replies Failures r s (refusal_text e) s) (sym (same_refusal a.0 e a.2)) (refl, refl))

-- the answer of an engine that hasn't failed is a reply to the command
alive_says : (Failures : Refusal → Type 0) (c : Command) (s t : State) (out : List ℕ) → s.failed ≡ None → Answers Failures c s out t → Responds Failures c s out t
alive_says Failures c s t out alive h = subst (λ f. AnswersOf Failures f c s out t) (sym alive) h

-- the engine's answer to a step is an outcome of the command
pub step_says : (Failures : Refusal → Type 0) (c : Command) (Leads : State → Type 0) (Refused : Refusal → Type 0) (s t : State) (r : Result ℕ Refusal)
    → ((out : List ℕ) → Steps Leads Refused s out t → Answers Failures c s out t) → ((failure : Refusal) (out : List ℕ) → IsRefusal failure s out t → AnswersFailed failure c s out t)
    → OnOk r ((s.failed ≡ None) × Leads t) → IfOk r (λ n. n ≡ s.edition + 1) → OnErr r (t ≡ s) → IfErr r (λ e. IsRefusedFor (λ cause. Refused cause ⊎ (cause ≡ Memory)) s.failed e) → IsOutcome Failures c s (step_text r) t
step_says Failures c Leads Refused s t (Ok n) into into_failed leads next same why = inl (alive_says Failures c s t (ok_text n) leads.0 (into (ok_text n) (inl (leads.1, ap ok_text next))))
step_says Failures c Leads Refused s t (Err e) into into_failed leads next same why = go s.failed why
  where
    go : (f : Option Refusal) → IsRefusedFor (λ cause. Refused cause ⊎ (cause ≡ Memory)) f e → AnswersOf Failures f c s (refusal_text e) t ⊎ IsRefusal Memory s (refusal_text e) t
    go None (inl refused) = inl (into (refusal_text e) (inr (e, refused, (same, refl))))
    go None (inr memory) = inr (same, ap refusal_text memory)
    go (Some failure) is = inl (into_failed failure (refusal_text e) (same, ap refusal_text is))

module _ (Failures : Refusal → Type 0) (c : Command) (Says : Layout → List (List Placement) → List ℕ → Type 0) (s t : State)
    (into : (out : List ℕ) → AnswersQuestion Failures Says s out t → Answers Failures c s out t) where
  -- if the output is what the design's tilings give, the question is answered
  pub question_answered : (all : List (List Placement)) (out : List ℕ) → (s.failed ≡ None) × (t ≡ answered s) → IsListOfTilings s.design all → Says s.design all out → Responds Failures c s out t
  question_answered all out is list says = alive_says Failures c s t out is.0 (into out (inl (is.1, (all, list, says))))

  -- the same if memory may run out after the engine gave the tilings
  pub answered_or_memory : (d : Layout) (all : List (List Placement)) (out : List ℕ) → (s.failed ≡ None) × (t ≡ answered s) → d ≡ s.design → IsListOfTilings d all → Says d all out ⊎ (out ≡ refusal_text Memory) → Responds Failures c s out t
  answered_or_memory d all out is same list (inl says) = question_answered all out is (subst (λ e. IsListOfTilings e all) same list) (subst (λ e. Says e all out) same says)
  answered_or_memory d all out is same list (inr none) = alive_says Failures c s t out is.0 (into out (inr (inl (Memory, inl refl, inr is.1, none))))

  -- if the engine doesn't answer, the question is refused with the engine's refusal
  pub question_refused : (e : Refusal) → ((failure : Refusal) (out : List ℕ) → IsRefusal failure s out t → AnswersFailed failure c s out t) → IsNotAnswered Failures s e t → Responds Failures c s (refusal_text e) t
  question_refused e into_failed (inr fails) = alive_says Failures c s t (refusal_text e) fails.0 (into (refusal_text e) (inr (inr (e, fails, refl))))
  question_refused e into_failed (inl (same, why)) = go s.failed why
    where
      go : (f : Option Refusal) → IsRefusedFor (IsUnanswered s) f e → AnswersOf Failures f c s (refusal_text e) t
      go None unanswered = into (refusal_text e) (inr (inl (e, unanswered, inl same, refl)))
      go (Some failure) is = into_failed failure (refusal_text e) (same, ap refusal_text is)

-- an answer to a question about all tilings is a reply to the command that asks it
pub survey_answers : (Failures : Refusal → Type 0) (a : Survey) (s t : State) (out : List ℕ) → AnswersQuestion Failures (SurveySays a) s out t → Answers Failures (command_of a) s out t
survey_answers Failures survey.List s t out h = h
survey_answers Failures (survey.Browse question) s t out h = h
survey_answers Failures survey.Classes s t out h = h

-- the same if the engine has failed before
pub survey_fails : (a : Survey) (s t : State) (failure : Refusal) (out : List ℕ) → IsRefusal failure s out t → AnswersFailed failure (command_of a) s out t
survey_fails survey.List s t failure out h = h
survey_fails (survey.Browse question) s t failure out h = h
survey_fails survey.Classes s t failure out h = h

-- a state in which a question was answered stays the same if one is answered again
pub answered_again : (s : State) → s.settled ≡ true → s ≡ answered s
answered_again s e = λ i. record { design = s.design; edition = s.edition; undo = s.undo; redo = s.redo; settled = e i; failed = s.failed }

-- ---- what a session keeps

-- nothing is kept, so nothing kept can be out of date
pub current_none : (o : Option AllTilings) (s : State) → o ≡ None → IsCurrent o s
current_none o s none = subst (λ z. IsCurrent z s) (sym none) tt

-- the tilings with which a question was just answered are current
pub current_new : (q : AllTilings) (s t : State) → (s.failed ≡ None) × (t ≡ answered s) → q.design ≡ s.design → IsCurrent (Some q) t
current_new q s t is same = subst (IsCurrent (Some q)) (sym is.1) (same, refl, is.0)

-- an answer leaves the design as it is, so the kept tilings are still all tilings of it
pub current_answered : (o : Option AllTilings) (s t : State) → (s.failed ≡ None) × (t ≡ answered s) → IsCurrent o s → IsCurrent o t
current_answered None s t is h = tt
current_answered (Some q) s t is h = current_new q s t is h.0

-- if a question isn't answered, what is kept stays current: an engine fails only while nothing is kept
pub current_refused : (Failures : Refusal → Type 0) (o : Option AllTilings) (s t : State) (e : Refusal) → IsNotAnswered Failures s e t → IsCurrent o s → IsCurrent o t
current_refused Failures o s t e (inl h) current = subst (IsCurrent o) (sym h.0) current
current_refused Failures None s t e (inr fails) current = tt
current_refused Failures (Some q) s t e (inr fails) current = absurd (true≢false (sym current.1 ∙ fails.1))
