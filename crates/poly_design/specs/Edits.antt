-- The change that an edit asks for, and why an edit is refused.
use Rattle.std.specs.Prelude.{◌≡◌, ◌≢◌, ◌⊎◌, ℕ, ◌<◌, Bool, List, [], ◌∷◌, Option, None, Some, Result, Err, length}
use Rattle.std.specs.BTreeMap.{is_at}
use Rattle.std.specs.BTreeSet.{insert_key}
use Rattle.std.specs.Set.{remove_key}
use Rattle.poly_grid.specs.declared.refusal.Refusal.{Refusal}
use Rattle.poly_grid.specs.declared.refusal.Refusal.TheVariants.{BadShape, NameTaken, NoSuchPiece, TooManyCells, TooManyPieces, TooManyPlacements, NotAPlacement, NoChange}
use Rattle.poly_shape.specs.Order.{cells_cmp}
use Rattle.poly_shape.specs.Figure.{Figure}
use Rattle.poly_design.specs.declared.design.TheConstants.{MAX_CELLS, MAX_PIECES}
use Rattle.poly_design.specs.declared.need.Need.{Need}
use Rattle.poly_design.specs.declared.need.Need.TheVariants.{Required, Optional}
use Rattle.poly_design.specs.declared.spec.Spec.{Spec}
use Rattle.poly_design.specs.declared.change.Change.{Change}
use Rattle.poly_design.specs.declared.change.Change.TheVariants as change
use Rattle.poly_design.specs.declared.edit.Edit.{Edit}
use Rattle.poly_design.specs.declared.edit.Edit.TheVariants as edit
use Rattle.poly_design.specs.Bounds.{Bounds}
use Rattle.poly_design.specs.Layout.{Layout, mode_of, spec_of}
use Rattle.poly_design.specs.Limits.{IsDesign}
use Rattle.poly_design.specs.Changes.{changed}
use Rattle.poly_design.specs.Placements.{IsPlacement, FewPlacements}

-- one copy, which has to be used or may be used
abbrev pub copies_of : Need → Bounds
copies_of Required = record { least = 1; most = 1 }
copies_of Optional = record { least = 0; most = 1 }

-- a new piece has no pin, and nothing is forbidden to it
abbrev pub new_spec : Figure → Need → Bool → Spec
new_spec shape need mirror = record { shape = shape; copies = copies_of need; mirror = mirror; pin = None; forbidden = [] }

-- what f makes of the piece, if there is a piece
abbrev pub replaced : (Spec → Spec) → Option Spec → Option Spec
replaced f None = None
replaced f (Some s) = Some (f s)

abbrev pub change_by : Layout → List ℕ → (Spec → Spec) → Change
change_by d name f = change.Piece name (spec_of d name) (replaced f (spec_of d name))

-- the change that an edit asks for: its before side is what the design holds
abbrev pub change_of : Layout → Edit → Change
change_of d (edit.Add name shape need mirror) = change.Piece name (spec_of d name) (Some (new_spec shape need mirror))
change_of d (edit.Drop name) = change.Piece name (spec_of d name) None
change_of d (edit.Need name need) = change_by d name (λ s. record s { copies = copies_of need })
change_of d (edit.Copies name copies) = change_by d name (λ s. record s { copies = copies })
change_of d (edit.Mirror name mirror) = change_by d name (λ s. record s { mirror = mirror })
change_of d (edit.Cell cell mode) = change.Cell cell (mode_of d cell) mode
change_of d (edit.Pin name cells) = change_by d name (λ s. record s { pin = Some cells })
change_of d (edit.Unpin name) = change_by d name (λ s. record s { pin = None })
change_of d (edit.Forbid name cells) = change_by d name (λ s. record s { forbidden = insert_key cells_cmp s.forbidden cells })
change_of d (edit.Allow name cells) = change_by d name (λ s. record s { forbidden = remove_key (is_at (cells_cmp cells)) s.forbidden })

-- both sides of the change are the same
abbrev pub IsIdle : Change → Type 0
IsIdle (change.Cell cell before after) = before ≡ after
IsIdle (change.Piece name before after) = before ≡ after

-- why an edit is refused, in the order in which the causes are looked for
abbrev pub causes : Layout → Edit → List (Refusal × Type 0)
causes d (edit.Add name shape need mirror) =
    let after = changed d (change_of d (edit.Add name shape need mirror)) in
    (NameTaken, spec_of d name ≢ None) ∷ (BadShape, shape.grid ≢ d.grid) ∷ (TooManyPieces, MAX_PIECES < length after.pieces) ∷ (TooManyPlacements, ¬ FewPlacements after) ∷ []
causes d (edit.Drop name) = (NoSuchPiece, spec_of d name ≡ None) ∷ []
causes d (edit.Need name need) = (NoSuchPiece, spec_of d name ≡ None) ∷ (NoChange, IsIdle (change_of d (edit.Need name need))) ∷ []
causes d (edit.Copies name copies) = (NoSuchPiece, spec_of d name ≡ None) ∷ (NoChange, IsIdle (change_of d (edit.Copies name copies))) ∷ []
causes d (edit.Mirror name mirror) =
    let step = change_of d (edit.Mirror name mirror) in
    (NoSuchPiece, spec_of d name ≡ None) ∷ (NoChange, IsIdle step) ∷ (TooManyPlacements, ¬ FewPlacements (changed d step)) ∷ []
causes d (edit.Cell cell mode) =
    let step = change_of d (edit.Cell cell mode) in
    (NoChange, IsIdle step) ∷ (TooManyCells, MAX_CELLS < length (changed d step).cells) ∷ (TooManyPlacements, ¬ FewPlacements (changed d step)) ∷ []
causes d (edit.Pin name cells) =
    (NoSuchPiece, spec_of d name ≡ None) ∷ (NoChange, IsIdle (change_of d (edit.Pin name cells))) ∷ (NotAPlacement, ¬ IsPlacement d (record { name = name; cells = cells })) ∷ []
causes d (edit.Unpin name) = (NoSuchPiece, spec_of d name ≡ None) ∷ (NoChange, IsIdle (change_of d (edit.Unpin name))) ∷ []
causes d (edit.Forbid name cells) =
    (NoSuchPiece, spec_of d name ≡ None) ∷ (NoChange, IsIdle (change_of d (edit.Forbid name cells))) ∷ (NotAPlacement, ¬ IsPlacement d (record { name = name; cells = cells })) ∷ []
causes d (edit.Allow name cells) =
    let step = change_of d (edit.Allow name cells) in
    (NoSuchPiece, spec_of d name ≡ None) ∷ (NoChange, IsIdle step) ∷ (TooManyPlacements, ¬ FewPlacements (changed d step)) ∷ []

-- the refusal is that of the first cause that holds
abbrev pub IsFirst : List (Refusal × Type 0) → Refusal → Type 0
IsFirst [] refusal = ⊥
IsFirst (c ∷ cs) refusal = ((refusal ≡ c.0) × c.1) ⊎ ((¬ c.1) × IsFirst cs refusal)

abbrev pub NoneHolds : List (Refusal × Type 0) → Type 0
NoneHolds [] = Unit {0}
NoneHolds (c ∷ cs) = (¬ c.1) × NoneHolds cs

-- the refusals that are detected without allocating: all but those for which placements are listed
abbrev pub IsEarly : Refusal → Type 0
IsEarly TooManyPlacements = ⊥
IsEarly NotAPlacement = ⊥
IsEarly _ = Unit {0}

-- no cause that is detected without allocating holds
abbrev pub NoneEarly : List (Refusal × Type 0) → Type 0
NoneEarly [] = Unit {0}
NoneEarly (c ∷ cs) = (IsEarly c.0 → ¬ c.1) × NoneEarly cs

-- the change is what the edit asks for, no cause to refuse the edit holds, and the result is a design
pub record IsAccepted (d : Layout) (e : Edit) (step : Change) : Type 0 where
  pub is : step ≡ change_of d e
  pub free : NoneHolds (causes d e)
  pub design : IsDesign (changed d step)

-- of the causes to refuse the edit, the first that holds has this refusal
abbrev pub IsRefused : Layout → Edit → Refusal → Type 0
IsRefused d e refusal = IsFirst (causes d e) refusal

-- if the first cause that holds is detected without allocating, its refusal is the answer
abbrev pub RefusesEarly : Layout → Edit → Result Change Refusal → Type 0
RefusesEarly d e answer = (refusal : Refusal) → IsEarly refusal → IsRefused d e refusal → answer ≡ Err refusal
