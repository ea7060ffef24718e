-- What a change or a report does to the steps and endings of a book.
use Rattle.std.specs.Prelude.{List, [], length, ℕ, ◌++◌, ◌+◌, ◌∷◌, ◌≡◌, ◌≤◌}
use Rattle.poly_book.specs.declared.step.Done.{Done}
use Rattle.poly_book.specs.declared.step.Applied.{Applied}
use Rattle.poly_book.specs.declared.step.Ending.{Ending}
use Rattle.poly_book.specs.declared.step.Ending.TheVariants.{Cut, Hopeless}
use Rattle.poly_book.specs.States.{State}
use Rattle.poly_desk.specs.declared.receipt.Receipt.{Receipt}
use Rattle.poly_desk.specs.declared.receipt.Receipt.TheVariants as receipt

-- 1 for an ending that is a cut, 0 for any other
abbrev pub cut_in : Ending → ℕ
cut_in (Cut task) = 1
cut_in (Hopeless task edition) = 0

abbrev pub cut_count : List Ending → ℕ
cut_count [] = 0
cut_count (e ∷ es) = cut_in e + cut_count es

-- the receipt is of a change whose place and step have the property P
abbrev pub IsChanged : (Done → Type 0) → Receipt → Type 0
IsChanged P (receipt.Changed place step) = P (record { place = place; step = step })
IsChanged P (receipt.Cut place task) = ⊥

-- the book has one more step and as many cuts as before; it has at most one more ending for each task that was pending
pub record OneChange (s t : State) (done : Done) : Type 0 where
  pub opened : t.opened ≡ s.opened
  pub last : t.steps ≡ done.step ∷ s.steps
  pub place : done.place ≡ length t.steps
  pub cuts : cut_count t.endings ≡ cut_count s.endings
  pub more : length s.endings ≤ length t.endings
  pub few : length t.endings ≤ length s.endings + length s.pending

-- the book has one more ending, the cut of task `k`, and the same steps and view
pub record OneCut (k : ℕ) (s t : State) (a : Applied) : Type 0 where
  pub opened : t.opened ≡ s.opened
  pub view : t.view ≡ s.view
  pub steps : t.steps ≡ s.steps
  pub endings : t.endings ≡ s.endings ++ Cut k ∷ []
  pub place : a.place ≡ length t.endings
