-- Why a desk isn't settled up.
use Rattle.std.specs.Prelude.{List, min, ℕ, ◌≡◌, ◌⊎◌}
use Rattle.poly_grid.specs.declared.refusal.Refusal.{Refusal}
use Rattle.poly_grid.specs.declared.refusal.Refusal.TheVariants.{Unsettled}
use Rattle.poly_design.specs.Layout.{Layout}
use Rattle.poly_book.specs.declared.step.Step.{Step}
use Rattle.poly_book.specs.States.{State}
use Rattle.poly_book.specs.Whole.{Whole}
use Rattle.poly_desk.specs.Floors.{Counts}
use Rattle.poly_desk.specs.Receipts.{IsBadReceipt}
use Rattle.poly_desk.specs.declared.receipt.Receipt.{Receipt}

-- a sum that saturates at 2^64 - 1
abbrev pub saturated : ℕ → ℕ
saturated sum = min sum 18446744073709551615

-- the sum of the shares isn't the total
abbrev pub IsWrongSum : ℕ → ℕ → Refusal → Type 0
IsWrongSum sum total e = (e ≡ Unsettled (saturated sum) total) × (¬ (sum ≡ total))

-- the refusal names what doesn't fit: the shares of changes don't add up to the total; or they do, and those of cuts don't; or
-- both do, and a receipt isn't right or has the kind and place of one before it
abbrev pub HasMismatch : State → ℕ → ℕ → ℕ → ℕ → List Receipt → Refusal → Type 0
HasMismatch b changes cuts changes_given cuts_given rs e =
    IsWrongSum changes_given changes e
    ⊎ ((changes_given ≡ changes) × (IsWrongSum cuts_given cuts e ⊎ ((cuts_given ≡ cuts) × IsBadReceipt b rs e)))

-- the refusal names such a mismatch between this book of a desk that began with this opening and passes whose shares add up to
-- `changes_given` and `cuts_given`
pub record IsMismatchOf (b : State) (o : Layout) (ss : List Step) (k changes_given cuts_given : ℕ) (rs : List Receipt) (e : Refusal) : Type 0 where
  pub changes : ℕ
  pub cuts : ℕ
  pub counts : Counts o ss k b changes cuts
  pub mismatch : HasMismatch b changes cuts changes_given cuts_given rs e

-- the same of a book of the desk that contracts can't name: all that holds of every book holds of it
pub record IsNotSettled (o : Layout) (ss : List Step) (k changes_given cuts_given : ℕ) (rs : List Receipt) (e : Refusal) : Type 0 where
  pub book : State
  pub whole : Whole book
  pub mismatch : IsMismatchOf book o ss k changes_given cuts_given rs e
