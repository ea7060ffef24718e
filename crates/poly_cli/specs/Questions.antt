-- Questions about all tilings of a design: their answers, and what may come in place of an answer.
use Rattle.std.specs.Prelude.{List, length, ℕ, ◌++◌, ◌≡◌, ◌⊎◌}
use Rattle.std.specs.List.{flat_map}
use Rattle.poly_grid.specs.declared.refusal.Refusal.{Refusal}
use Rattle.poly_design.specs.Layout.{Layout}
use Rattle.poly_design.specs.declared.placement.Placement.{Placement}
use Rattle.poly_tiling.specs.Listings.{IsListOfTilings}
use Rattle.poly_tiling.specs.declared.item.Item.{Item}
use Rattle.poly_browse.specs.Browsing.{Asked, IsAnswer}
use Rattle.poly_browse.specs.Classes.{AreClasses}
use Rattle.poly_text.specs.Asked.{Asked as Question}
use Rattle.poly_text.specs.declared.command.Command.{Command}
use Rattle.poly_text.specs.declared.command.Command.TheVariants as command
use Rattle.poly_text.specs.Replies.{classes_text, forced_text, item_text, matches_text, refusal_text, status_text, tiling_text, tilings_text}
use Rattle.poly_book.specs.declared.book.Numbers.{Numbers}
use Rattle.poly_cli.specs.declared.questions.Survey.{Survey}
use Rattle.poly_cli.specs.declared.questions.Survey.TheVariants as survey
use Rattle.poly_cli.specs.States.{AreNumbers, Fails, IsUnanswered, State, answered}

-- a line for each tiling, in order, and their number
abbrev pub list_text : List (List Placement) → List ℕ
list_text all = flat_map tiling_text all ++ tilings_text (length all)

abbrev pub ListSays : Layout → List (List Placement) → List ℕ → Type 0
ListSays d all out = out ≡ list_text all

-- how many tilings there are
abbrev pub CountSays : Layout → List (List Placement) → List ℕ → Type 0
CountSays d all out = out ≡ tilings_text (length all)

-- how many tilings there are up to the symmetries of the design
abbrev pub ClassesSay : Layout → List (List Placement) → List ℕ → Type 0
ClassesSay d all out = (n : ℕ) × AreClasses d n × (out ≡ classes_text n)

abbrev pub asked_of : Question → Asked
asked_of q = record { has = q.has; lacks = q.lacks; covers = q.covers }

-- a line of the forced placements, a line for each item, and how many tilings match
abbrev pub answer_text : List Placement → List (Item × ℕ) → ℕ → List ℕ
answer_text forced options count = forced_text forced ++ (flat_map (λ o. item_text o.0 o.1) options ++ matches_text count)

abbrev pub BrowseSays : Question → Layout → List (List Placement) → List ℕ → Type 0
BrowseSays q d all out = (count : ℕ) × (forced : List Placement) × (options : List (Item × ℕ)) × IsAnswer d all (asked_of q) count forced options × (out ≡ answer_text forced options count)

-- the command that asks the question
abbrev pub command_of : Survey → Command
command_of survey.List = command.ListAll
command_of (survey.Browse question) = command.Browse question
command_of survey.Classes = command.Classes

-- the answer to the question
abbrev pub SurveySays : Survey → Layout → List (List Placement) → List ℕ → Type 0
SurveySays survey.List = ListSays
SurveySays (survey.Browse question) = BrowseSays question
SurveySays survey.Classes = ClassesSay

-- A question about all tilings of the design is answered or refused, or the engine fails at it. Even if it is refused, the
-- search may have finished before that.
abbrev pub AnswersQuestion : (Refusal → Type 0) → (Layout → List (List Placement) → List ℕ → Type 0) → State → List ℕ → State → Type 0
AnswersQuestion Failures Says s out t =
    ((t ≡ answered s) × ((all : List (List Placement)) × IsListOfTilings s.design all × Says s.design all out))
    ⊎ ((e : Refusal) × IsUnanswered s e × ((t ≡ s) ⊎ (t ≡ answered s)) × (out ≡ refusal_text e))
    ⊎ ((e : Refusal) × Fails Failures s e t × (out ≡ refusal_text e))

-- the output is a `status` line with right numbers, and nothing changes
abbrev pub AnswersStatus : State → List ℕ → State → Type 0
AnswersStatus s out t = (t ≡ s) × ((n : Numbers) × AreNumbers s n × (out ≡ status_text n.edition n.listed n.pending))
