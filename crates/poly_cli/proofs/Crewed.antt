-- What comes back from a desk.
use Rattle.std.proofs.Common.{List, None, Result, Err, Ok, ap, inl, inr, drop, false, map, subst, sym, true, ℕ, ◌∙◌, ◌≡◌}
use Rattle.std.specs.Prelude.{◌⊎◌, IfErr}
use Rattle.std.specs.List.{sum, sum_by}
use Rattle.std.proofs.lemmas.List.Sums.{sum-map}
use Rattle.poly_grid.specs.declared.refusal.Refusal.{Refusal}
use Rattle.poly_design.specs.Layout.{Layout}
use Rattle.poly_book.specs.States.{State as Book}
use Rattle.poly_book.specs.declared.step.Step.{Step}
use Rattle.poly_desk.specs.Floors.{Counts}
use Rattle.poly_desk.specs.Receipts.{IsBadReceipt}
use Rattle.poly_desk.specs.Seen.{is_unsettled}
use Rattle.poly_desk.specs.Settling.{HasMismatch, IsNotSettled}
use Rattle.poly_desk.specs.declared.receipt.Receipt.{Receipt}
use Rattle.poly_cli.specs.States.{IsNotAnswered, IsRefusedFor, IsUnanswered, State}

-- lists with the same numbers have the same sum
pub same_sum : {P : Type 0} (f : P → ℕ) (xs ys : List P) → map f xs ≡ map f ys → sum_by f xs ≡ sum_by f ys
same_sum f xs ys same = sym (sum-map f xs) ∙ ap sum same ∙ sum-map f ys

-- if the desk's passes made no changes, the steps are those with which the desk began
pub steps_stay : (o : Layout) (ss : List Step) (k : ℕ) (b : Book) (changes cuts : ℕ) → Counts o ss k b changes cuts → changes ≡ 0 → b.steps ≡ ss
steps_stay o ss k b changes cuts c none = sym (ap (λ n. drop n b.steps) none) ∙ c.begins

-- a desk that can't be settled up answers `Unsettled`
pub not_settled_is_unsettled : (o : Layout) (ss : List Step) (k changes cuts : ℕ) (rs : List Receipt) (e : Refusal) → IsNotSettled o ss k changes cuts rs e → is_unsettled e ≡ true
not_settled_is_unsettled o ss k changes cuts rs e n = go n.mismatch.mismatch
  where
    bad : (b : Book) → IsBadReceipt b rs e → is_unsettled e ≡ true
    bad b (before, r, after, is, inl why) = ap is_unsettled why.0
    bad b (before, r, after, is, inr why) = ap is_unsettled why.0

    go : HasMismatch n.book n.mismatch.changes n.mismatch.cuts changes cuts rs e → is_unsettled e ≡ true
    go (inl why) = ap is_unsettled why.0
    go (inr (same, inl why)) = ap is_unsettled why.0
    go (inr (same, inr (both, receipt))) = bad n.book receipt

-- what an engine without failures answers, one with failures may answer too
pub without_failures : (Failures : Refusal → Type 0) (s t : State) (e : Refusal) → IsNotAnswered (λ f. ⊥) s e t → IsNotAnswered Failures s e t
without_failures Failures s t e (inl refused) = inl refused
without_failures Failures s t e (inr fails) = absurd fails.2

-- if the crew stopped and the book came back, the team may answer with the crew's refusal
pub stopped_answers : (s t : State) (r : Result (Unit {0}) Refusal) → s.settled ≡ false → s.failed ≡ None → t ≡ s → IfErr r (λ e. (u : State) → u.settled ≡ false → IsUnanswered u e ⊎ (is_unsettled e ≡ true))
    → IfErr r (λ e. IsNotAnswered (λ f. is_unsettled f ≡ true) s e t)
stopped_answers s t (Ok x) unsettled alive same why = tt
stopped_answers s t (Err e) unsettled alive same why = go (why s unsettled)
  where
    go : IsUnanswered s e ⊎ (is_unsettled e ≡ true) → IsNotAnswered (λ f. is_unsettled f ≡ true) s e t
    go (inl refused) = inl (same, subst (λ f. IsRefusedFor (IsUnanswered s) f e) (sym alive) refused)
    go (inr failed) = inr (alive, unsettled, failed, inl same)
