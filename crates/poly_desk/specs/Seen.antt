-- What the contracts of a desk say about a pass and about a receipt.
use Rattle.std.specs.Prelude.{Bool, List, false, true, ℕ, ◌+◌, ◌<◌, ◌≡◌, ◌≤◌, ◌⊎◌}
use Rattle.poly_grid.specs.declared.refusal.Refusal.{Refusal}
use Rattle.poly_grid.specs.declared.refusal.Refusal.TheVariants.{Unsettled}
use Rattle.poly_design.specs.Edits.{IsAccepted}
use Rattle.poly_board.specs.declared.posted.Posted.{Posted}
use Rattle.poly_design.specs.Layout.{Layout}
use Rattle.poly_design.specs.declared.edit.Edit.{Edit}
use Rattle.poly_book.specs.States.{State}
use Rattle.poly_book.specs.declared.step.Kind.{Kind}
use Rattle.poly_book.specs.declared.step.Step.{Step}
use Rattle.poly_desk.specs.Books.{HasBook, IsCause}
use Rattle.poly_desk.specs.Noted.{Held}
use Rattle.poly_desk.specs.declared.receipt.Receipt.{Receipt}
use Rattle.poly_desk.specs.declared.receipt.Receipt.TheVariants as receipt

-- the order of posts: by edition, and then by endings
abbrev pub IsUpTo : Posted → Posted → Type 0
IsUpTo p q = (p.edition < q.edition) ⊎ ((p.edition ≡ q.edition) × (p.endings ≤ q.endings))

-- the later of two posts: it is one of them, and below neither
pub record IsLaterOf (noted given later : Posted) : Type 0 where
  pub one : (later ≡ noted) ⊎ (later ≡ given)
  pub noted_up_to : IsUpTo noted later
  pub given_up_to : IsUpTo given later

-- the pass has noted an edition that isn't below the one it had noted before, it has made this many more changes and cuts, and
-- its look knows the same posts
pub record Later (p q : Held) (changes cuts : ℕ) : Type 0 where
  pub edition : p.noted.edition ≤ q.noted.edition
  pub changes_are : q.changes ≡ p.changes + changes
  pub cuts_are : q.cuts ≡ p.cuts + cuts
  pub posts : q.posts ≡ p.posts

-- the edition found is below the one that the pass has noted, and the pass stays as it was
pub record IsUnsettled (p q : Held) (e : Refusal) : Type 0 where
  pub found : ℕ
  pub why : e ≡ Unsettled p.noted.edition found
  pub behind : found < p.noted.edition
  pub pass : q ≡ p

abbrev pub is_unsettled : Refusal → Bool
is_unsettled (Unsettled seen found) = true
is_unsettled _ = false

-- The call was refused because the edition found is below the one that the pass has noted; or else for another cause, which
-- holds of a book that the desk may have. It made no change and no cut.
abbrev pub IsRefusedAtDesk : Layout → List Step → ℕ → Held → Held → (State → Type 0) → Refusal → Type 0
IsRefusedAtDesk o ss k p q cause e = IsUnsettled p q e ⊎ (Later p q 0 0 × (is_unsettled e ≡ false) × HasBook o ss k q cause)

-- Why a worker's call may have been refused that leaves the pass so: the edition found was below the one that the pass has noted;
-- or it was another cause, which holds of a book that the desk may have.
abbrev pub MayRefuse : Layout → List Step → ℕ → Held → Refusal → Type 0
MayRefuse o ss k q e =
    ((found : ℕ) × (e ≡ Unsettled q.noted.edition found) × (found < q.noted.edition))
    ⊎ ((is_unsettled e ≡ false) × HasBook o ss k q (λ b. IsCause b e))

-- the receipt is of a cut
abbrev pub IsCut : Receipt → Type 0
IsCut (receipt.Changed place step) = ⊥
IsCut (receipt.Cut place task) = Unit {0}

-- the receipt is of a change of the kind, and its place is above the edition that the pass had noted before the call, and not
-- above the one that it has noted now
abbrev pub IsMade : Kind → Held → Held → Receipt → Type 0
IsMade k p q (receipt.Changed place step) = (step.kind ≡ k) × (p.noted.edition < place) × (place ≤ q.noted.edition)
IsMade k p q (receipt.Cut place task) = ⊥

-- the change of the receipt is one that the edit asks for on some design
abbrev pub IsAskedFor : Edit → Receipt → Type 0
IsAskedFor e (receipt.Changed place step) = (d : Layout) × IsAccepted d e step.change
IsAskedFor e (receipt.Cut place task) = ⊥
