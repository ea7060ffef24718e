-- What the piece objects of a puzzle line say: pieces by name, or the first refusal.
use Rattle.std.specs.Prelude.{◌≡◌, ℕ, Bool, List, [], ◌∷◌, if◌then◌else◌, None, is_some, Result, Ok, Err}
use Rattle.std.specs.BTreeMap.{insert_entry, is_at}
use Rattle.std.specs.Map.{lookup}
use Rattle.serde_json.specs.Data.{Data}
use Rattle.poly_grid.specs.Spot.{Spot}
use Rattle.poly_grid.specs.declared.grid.Grid.{Grid}
use Rattle.poly_grid.specs.declared.refusal.Refusal.{Refusal}
use Rattle.poly_grid.specs.declared.refusal.Refusal.TheVariants.{BadField, BadName, BadCell, BadShape, NameTaken}
use Rattle.poly_shape.specs.Figure.{Figure}
use Rattle.poly_shape.specs.Shape.{IsImage}
use Rattle.poly_shape.specs.Connected.{IsConnected}
use Rattle.poly_shape.specs.Order.{AreFewDistinct}
use Rattle.poly_design.specs.Bounds.{Bounds}
use Rattle.poly_design.specs.Name.{name_cmp}
use Rattle.poly_design.specs.declared.spec.Spec.{Spec}
use Rattle.poly_text.specs.declared.puzzle.head.Format.{Format}
use Rattle.poly_text.specs.Names.{name_of}
use Rattle.poly_text.specs.Fields.{fields_of, cells_of}
use Rattle.poly_text.specs.Gives.{◌>>=◌, ok_or, Follows}

pub record Said : Type 0 where
  pub name : List ℕ
  pub cells : List Spot
  pub copies : Bounds
  pub mirror : Bool

unfoldable pub said_of : Format → Data → Result Said Refusal
said_of format d = do
  f ← ok_or (fields_of format d) BadField
  name ← ok_or (name_of f.name) BadName
  cells ← ok_or (cells_of f.cells) BadCell
  Ok (record { name = name; cells = cells; copies = f.copies; mirror = f.mirror })

pub record MakeShape (g : Grid) (cells : List Spot) : Type 0 where
  pub few : AreFewDistinct cells
  pub connected : IsConnected g cells

-- the shape that the cells make, or a refusal if they make no shape
abbrev pub ShapeSays : Grid → List Spot → Result Figure Refusal → Type 0
ShapeSays g cells (Ok s) = MakeShape g cells × (s.grid ≡ g) × IsImage g 0 cells s.cells
ShapeSays g cells (Err e) = (e ≡ BadShape) × (MakeShape g cells → ⊥)

-- pieces by name, in the order of the names
abbrev pub Pieces : Type 0
Pieces = List (List ℕ × Spec)

abbrev pub has_name : Pieces → List ℕ → Bool
has_name taken name = is_some (lookup (is_at (name_cmp name)) taken)

-- a piece that has no pin and nothing forbidden
abbrev pub new_spec : Said → Figure → Spec
new_spec s shape = record { shape = shape; copies = s.copies; mirror = s.mirror; pin = None; forbidden = [] }

abbrev pub spec_of : Pieces → Said → Figure → Result Spec Refusal
spec_of taken s shape = if has_name taken s.name then Err NameTaken else Ok (new_spec s shape)

abbrev pub SpecSays : Grid → Pieces → Said → Result Spec Refusal → Type 0
SpecSays g taken s r = (shape : Result Figure Refusal) × ShapeSays g s.cells shape × (r ≡ (shape >>= spec_of taken s))

-- r is the pieces read before (`taken`) together with those of the list, or the first refusal
abbrev pub PiecesSay : Format → Grid → List Data → Pieces → Result Pieces Refusal → Type 0
PiecesSay format g [] taken r = r ≡ Ok taken
PiecesSay format g (d ∷ ds) taken r = Follows (said_of format d)
    (λ s. (p : Result Spec Refusal) × SpecSays g taken s p × Follows p (λ spec. PiecesSay format g ds (insert_entry name_cmp taken s.name spec) r) r) r
