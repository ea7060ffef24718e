-- The stored steps, made one after the other from the opening design, give the design and the changes to undo and redo.
use Rattle.std.specs.Prelude.{List, [], cond, drop, length, map, ℕ, ◌+◌, ◌==◌, ◌∷◌, ◌≡◌, ◌≤◌}
use Rattle.poly_design.specs.Changes.{HasBefore, changed, inverse_of}
use Rattle.poly_design.specs.Layout.{Layout}
use Rattle.poly_design.specs.Limits.{IsDesign}
use Rattle.poly_design.specs.declared.change.Change.{Change}
use Rattle.poly_book.specs.declared.step.Kind.{Kind}
use Rattle.poly_book.specs.declared.step.Kind.TheVariants.{Edit, Redo, Undo}
use Rattle.poly_book.specs.declared.step.Step.{Step}
use Rattle.poly_book.specs.States.{State}
use Rattle.poly_tasks.specs.Stored.{Way}
use Rattle.poly_book.specs.Ways.{newest}
use Rattle.poly_undo.specs.declared.history.TheConstants.{MAX_STEPS}

-- a design; the changes that can be undone, the newest first; those that can be redone, the one undone last first
pub record Trace : Type 0 where
  pub design : Layout
  pub back : List Change
  pub forth : List Change

-- a change is made: an undo makes the inverse of the change that it undoes
abbrev pub traced : Trace → Kind → Change → Trace
traced t Edit x = record { design = changed t.design x; back = newest MAX_STEPS (x ∷ t.back); forth = [] }
traced t Undo x = record { design = changed t.design x; back = drop 1 t.back; forth = inverse_of x ∷ t.forth }
traced t Redo x = record { design = changed t.design x; back = newest MAX_STEPS (x ∷ t.back); forth = drop 1 t.forth }

-- the newest step comes first
abbrev pub replayed : Layout → List Step → Trace
replayed o [] = record { design = o; back = []; forth = [] }
replayed o (s ∷ ss) = traced (replayed o ss) s.kind s.change

-- an undo makes the inverse of the newest change to undo; a redo makes, of the changes to redo, the one that was undone last
abbrev pub IsNext : Trace → Kind → Change → Type 0
IsNext t Edit x = Unit {0}
IsNext t Undo x = (rest : List Change) × (t.back ≡ inverse_of x ∷ rest)
IsNext t Redo x = (rest : List Change) × (t.forth ≡ x ∷ rest)

-- each step's change finds the values that it replaces, and an undo or a redo makes the change that is next
abbrev pub AllStand : Layout → List Step → Type 0
AllStand o [] = Unit {0}
AllStand o (s ∷ ss) = HasBefore (replayed o ss).design s.change × IsNext (replayed o ss) s.kind s.change × AllStand o ss

-- each step's change makes a design
abbrev pub AllDesigns : Layout → List Step → Type 0
AllDesigns o [] = Unit {0}
AllDesigns o (s ∷ ss) = IsDesign (replayed o (s ∷ ss)).design × AllDesigns o ss

-- for each change that can be undone or redone, the number of the step that put it there; in the order of `Trace`
pub record Origins : Type 0 where
  pub back : List ℕ
  pub forth : List ℕ

-- step n is made
abbrev pub put_by : Origins → Kind → ℕ → Origins
put_by p Edit n = record { back = newest MAX_STEPS (n ∷ p.back); forth = [] }
put_by p Undo n = record { back = drop 1 p.back; forth = n ∷ p.forth }
put_by p Redo n = record { back = newest MAX_STEPS (n ∷ p.back); forth = drop 1 p.forth }

-- the oldest step is step 1
abbrev pub origins : List Step → Origins
origins [] = record { back = []; forth = [] }
origins (s ∷ ss) = put_by (origins ss) s.kind (length ss + 1)

-- the design before step m
abbrev pub design_before : ℕ → Layout → List Step → Layout
design_before m o [] = o
design_before m o (s ∷ ss) = cond (length ss + 1 == m) (replayed o ss).design (design_before m o ss)

-- If the changes that `f` makes of the ways' changes are made, one after the other, each leads to the design before the step
-- that put the way there.
abbrev pub LeadBack : (Change → Change) → Layout → List Step → Layout → List Way → Type 0
LeadBack f o ss d [] = Unit {0}
LeadBack f o ss d (b ∷ bs) = (b.made ≤ length ss) × (changed d (f b.change) ≡ design_before b.made o ss) × LeadBack f o ss (changed d (f b.change)) bs

-- The stored steps lead from the opening design to this state. The number of each way is that of the step that put it there,
-- and the undo or redo leads to the design before that step.
pub record Replay (s : State) : Type 0 where
  pub is : replayed s.opened s.steps ≡ record { design = s.design; back = map (λ b. b.change) s.back; forth = map (λ b. b.change) s.forth }
  pub stand : AllStand s.opened s.steps
  pub designs : AllDesigns s.opened s.steps
  pub origins_are : origins s.steps ≡ record { back = map (λ b. b.made) s.back; forth = map (λ b. b.made) s.forth }
  pub back_leads : LeadBack inverse_of s.opened s.steps s.design s.back
  pub forth_leads : LeadBack (λ x. x) s.opened s.steps s.design s.forth
