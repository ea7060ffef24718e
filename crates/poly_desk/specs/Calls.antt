-- What a call of a floor does to a pass.
use Rattle.std.specs.Prelude.{length, ℕ, ◌+◌, ◌<◌, ◌≡◌, ◌≤◌, ◌⊎◌}
use Rattle.poly_grid.specs.declared.refusal.Refusal.{Refusal}
use Rattle.poly_grid.specs.declared.refusal.Refusal.TheVariants.{Unsettled}
use Rattle.poly_book.specs.States.{State}
use Rattle.poly_desk.specs.Noted.{Held, held, numbers_of}

-- The floor's edition wasn't below the one that the pass had noted. The pass has now noted the numbers that the floor has
-- after the call, and it has made this many more changes and cuts.
pub record HasNoted (s t : State) (p q : Held) (changes cuts : ℕ) : Type 0 where
  pub seen : p.noted.edition ≤ length s.steps
  pub pass : q ≡ held (numbers_of t) (p.changes + changes) (p.cuts + cuts) p.posts

-- the floor's edition is below the one that the pass has noted, and the pass stays as it was
pub record IsBehind (s : State) (p q : Held) (e : Refusal) : Type 0 where
  pub why : e ≡ Unsettled p.noted.edition (length s.steps)
  pub behind : length s.steps < p.noted.edition
  pub pass : q ≡ p

-- the call was refused because the floor's edition is below the one that the pass has noted, or else for this cause
abbrev pub IsRefused : State → Held → Held → Refusal → Type 0 → Type 0
IsRefused s p q e cause = IsBehind s p q e ⊎ (HasNoted s s p q 0 0 × cause)
