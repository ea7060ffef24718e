-- The rule of a lane, over the hints that it holds and the views of the lane itself and its thieves.
use Rattle.std.specs.Prelude.{ℕ, ◌≡◌, ◌+◌, ◌++◌, Bool, true, false, List, [], ◌∷◌}
use mathlib.Core.Option.{some}
use lib.ListN.{get_elem?}
use Rattle.poly_crew.specs.declared.rule.HandleView.{HandleView}
use Rattle.poly_crew.specs.Hints.{weigh}

abbrev pub handle_of : Bool → ℕ → ℕ → List ℕ → List ℕ → HandleView
handle_of is_owner out thief pushed taken = record { is_owner = is_owner; out = out; thief = thief; pushed = pushed; taken = taken }

-- the sum of `f` over the views
abbrev pub total : (HandleView → ℕ) → List HandleView → ℕ
total f [] = 0
total f (v ∷ vs) = f v + total f vs

-- only the view at `owner` may be that of the lane itself, which knows all that was pushed and how many thieves are out; the
-- view of a thief that came back has no hints
pub record Fits (owner : ℕ) (log : List ℕ) (out by : ℕ) (v : HandleView) : Type 0 where
  pub whole : v.is_owner ≡ true → (by ≡ owner) × (v.pushed ≡ log) × (v.out ≡ out)
  pub spent : v.is_owner ≡ false → v.thief ≡ 0 → v.taken ≡ []

-- the pushed hints are those that left, followed by those that the lane holds; the lane and its thieves together took those
-- that left
pub record IsKept (items : List ℕ) (views : List HandleView) : Type 0 where
  pub owner : ℕ
  pub log : List ℕ
  pub gone : List ℕ
  pub out : ℕ
  pub split : log ≡ gone ++ items
  pub taken : (h : ℕ → ℕ) → weigh h gone ≡ total (λ v. weigh h v.taken) views
  pub thieves : total (λ v. v.thief) views ≡ out
  pub fits : (by : ℕ) (v : HandleView) → get_elem? views by ≡ some v → Fits owner log out by v
