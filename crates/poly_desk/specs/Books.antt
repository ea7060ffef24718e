-- The book of a desk, which contracts can't name once the lock is released.
use Rattle.std.specs.Prelude.{List, ℕ, ◌≡◌, ◌⊎◌}
use Rattle.poly_grid.specs.declared.refusal.Refusal.{Refusal}
use Rattle.poly_grid.specs.declared.refusal.Refusal.TheVariants.{Memory}
use Rattle.poly_design.specs.Layout.{Layout}
use Rattle.poly_report.specs.Trees.{Plan}
use Rattle.poly_book.specs.Refused.{IsNotApplied}
use Rattle.poly_book.specs.States.{State}
use Rattle.poly_book.specs.Whole.{Whole}
use Rattle.poly_book.specs.declared.step.Step.{Step}
use Rattle.poly_desk.specs.Floors.{Counts}
use Rattle.poly_desk.specs.Noted.{Held, numbers_of}
use Rattle.poly_desk.specs.Receipts.{IsRightReceipt}
use Rattle.poly_desk.specs.declared.receipt.Receipt.{Receipt}

-- a book that a desk with this opening may have: all that holds of every book holds of it, and it began with the opening
pub record IsBookOf (o : Layout) (ss : List Step) (k : ℕ) (b : State) : Type 0 where
  pub whole : Whole b
  pub changes : ℕ
  pub cuts : ℕ
  pub counts : Counts o ss k b changes cuts

-- such a book has the numbers that the pass has noted, and `P` holds of it
pub record HasBook (o : Layout) (ss : List Step) (k : ℕ) (q : Held) (P : State → Type 0) : Type 0 where
  pub book : State
  pub of_desk : IsBookOf o ss k book
  pub noted : q.noted ≡ numbers_of book
  pub holds : P book

-- two such books, before a call and after it; the second has the numbers that the pass has noted, and `P` holds of both
pub record HasBooks (o : Layout) (ss : List Step) (k : ℕ) (q : Held) (P : State → State → Type 0) : Type 0 where
  pub before : State
  pub after : State
  pub of_desk : IsBookOf o ss k before
  pub of_desk_after : IsBookOf o ss k after
  pub noted : q.noted ≡ numbers_of after
  pub holds : P before after

-- the receipt is right for such a book
abbrev pub IsOfDesk : Layout → List Step → ℕ → Receipt → Type 0
IsOfDesk o ss k r = (b : State) × IsBookOf o ss k b × IsRightReceipt b r

-- a worker's call is refused: memory ran out, or a report isn't applied to the book
abbrev pub IsCause : State → Refusal → Type 0
IsCause b e = (e ≡ Memory) ⊎ ((task : ℕ) × (tree : Plan) × IsNotApplied task tree b e)
