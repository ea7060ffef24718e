-- The steps of a history as contracts see them.
use Rattle.std.specs.Prelude.{◌≡◌, ◌+◌, ◌-◌, ◌∷◌, ◌++◌, ◌≤◌, [], length, drop, slice_get, vec_capacity, List, Option, Vec}
use Rattle.circular_buffer.specs.Buffer.{Buffer}
use Rattle.poly_undo.specs.declared.history.TheConstants.{MAX_STEPS}
use Rattle.poly_undo.specs.declared.step.Step.{Step}

-- the steps that can be undone and those that can be redone; the last step of each list is undone or redone next
pub record Steps (C K : Type 0) : Type 0 where
  pub undo : List (Step C K)
  pub redo : List (Step C K)

-- the last 256 elements of a list; all of them if there are fewer
abbrev pub newest : {X : Type 0} → List X → List X
newest xs = drop (length xs - MAX_STEPS) xs

-- the step that is undone or redone next, if there is one: the last of the list
abbrev pub next_of : {X : Type 0} → List X → Option X
next_of xs = slice_get xs (length xs - 1)

-- The last step of `from` moves to the end of `to`; afterwards these lists are `left` and `made`. `kept` is kept with the step
-- now, and `stood` was kept with it before. Nothing else changes.
pub record Moves {C K : Type 0} (from to left made : List (Step C K)) (kept stood : Option K) : Type 0 where
  pub step : Step C K
  pub taken : from ≡ left ++ step ∷ []
  pub put : made ≡ to ++ (record step { kept = kept }) ∷ []
  pub given : stood ≡ step.kept

-- what holds of the two containers: each has room for 256 steps, and together they never have more
pub record HasRoom {X A : Type 0} (undo : Buffer X) (redo : Vec X A) : Type 0 where
  pub undo_room : undo.capacity ≡ MAX_STEPS
  pub redo_room : MAX_STEPS ≤ vec_capacity redo
  pub few : length undo.items + length redo.items ≤ MAX_STEPS
