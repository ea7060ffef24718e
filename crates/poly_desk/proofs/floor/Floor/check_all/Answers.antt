use Rattle.std.proofs.Common.{List, inr, subst, ℕ, ◌≡◌}
use Rattle.std.proofs.lemmas.Result.{IfErr-weaker}
use Rattle.poly_grid.specs.declared.refusal.Refusal.{Refusal}
use Rattle.poly_design.specs.Layout.{Layout}
use Rattle.poly_book.specs.declared.step.Step.{Step}
use Rattle.poly_book.specs.States.{State}
use Rattle.poly_desk.specs.Floors.{Counts, OnFloor, on_floor}
use Rattle.poly_desk.specs.Receipts.{IsBadReceipt}
use Rattle.poly_desk.specs.Settling.{IsMismatchOf}
use Rattle.poly_desk.specs.declared.receipt.Receipt.{Receipt}
use Rattle.poly_desk.proofs.floor.Floor.check_all.Goals as goal

-- a receipt that isn't right for the floor's book doesn't fit this book
bad_receipt : (f : OnFloor) (b : State) (passes : ℕ) → on_floor b passes ≡ f → (o : Layout) (ss : List Step) (k changes cuts changes_given cuts_given : ℕ) (rs : List Receipt) (e : Refusal) → Counts o ss k b changes cuts
    → changes_given ≡ changes → cuts_given ≡ cuts → IsBadReceipt b rs e → IsMismatchOf f.book o ss k changes_given cuts_given rs e
bad_receipt f b passes is o ss k changes cuts changes_given cuts_given rs e counts same_changes same_cuts bad =
    subst (λ (z : OnFloor). IsMismatchOf z.book o ss k changes_given cuts_given rs e) is (record { changes = changes; cuts = cuts; counts = counts; mismatch = inr (same_changes, inr (same_cuts, bad)) })

pub returns-clause-why : goal.returns-clause-why
returns-clause-why g c =
    let b = c.self.inside in
    let shares = c.in_ok-check_shares.ensures in
    IfErr-weaker c.check_receipts.result _ _ (λ e bad. bad_receipt c.args.self.now b.book b.spare.passes c.self.view_is _ _ _ _ _ _ _ _ e c.self.invariant.0 shares.changes shares.cuts bad) c.check_receipts.ensures.why
