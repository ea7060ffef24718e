-- Flags for places, and the receipts for which they are raised.
use Rattle.std.specs.Prelude.{Bool, List, false, length, slice_index_or, suc, zero, ℕ, ◌≡◌, ◌≤◌}
use Rattle.poly_book.specs.States.{State}
use Rattle.poly_desk.specs.Receipts.{AreReceipts, is_taken}
use Rattle.poly_desk.specs.declared.marks.Marks.{Marks}
use Rattle.poly_desk.specs.declared.receipt.Receipt.{Receipt}
use Rattle.poly_desk.specs.declared.receipt.Receipt.TheVariants.{Changed, Cut}

-- whether the flag of a place, counted from 1, is up
abbrev pub flag_at : List Bool → ℕ → Bool
flag_at flags zero = false
flag_at flags (suc i) = slice_index_or flags i false

-- whether the flag of the receipt's kind and place is up
abbrev pub flag_of : Marks → Receipt → Bool
flag_of m (Changed place step) = flag_at m.steps.items place
flag_of m (Cut place task) = flag_at m.endings.items place

-- each step and each ending has a flag
abbrev pub HasFlags : State → Marks → Type 0
HasFlags b m = (length b.steps ≤ length m.steps.items) × (length b.endings ≤ length m.endings.items)

-- the receipts are right, no two of one kind have the same place, and exactly their flags are up
pub record Taken (b : State) (m : Marks) (rs : List Receipt) : Type 0 where
  pub receipts : AreReceipts b rs
  pub ticked : (r : Receipt) → flag_of m r ≡ is_taken rs r
