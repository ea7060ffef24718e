-- Pieces that a loop reads one after another.
use Rattle.std.proofs.Common.{◌≡◌, ◌+◌, ◌<◌, ◌≤◌, ℕ, zero, suc, Bool, true, false, List, [], ◌∷◌, length, drop, get_or, Result, Ok, Err, refl, ap, ◌∙◌, arith, inl, inr}
use Rattle.std.specs.Prelude.{◌⊎◌, if◌then◌else◌}
use Rattle.std.specs.BTreeMap.{insert_entry}
use Rattle.std.specs.Ordering.{match_ordering}
use Rattle.std.specs.declared.cmp.Ordering.{Ordering}
use Rattle.std.specs.declared.cmp.Ordering.TheVariants.{Less, Equal, Greater}
use Rattle.std.specs.List.{All}
use Rattle.std.proofs.lemmas.List.Elements.{All-contains}
use Rattle.serde_json.specs.View.{view}
use Rattle.serde_json.specs.declared.value.Value.{Value}
use Rattle.poly_grid.specs.declared.grid.Grid.{Grid}
use Rattle.poly_grid.specs.declared.refusal.Refusal.{Refusal}
use Rattle.poly_grid.specs.declared.refusal.Refusal.TheVariants.{Memory, NameTaken}
use Rattle.poly_shape.specs.Figure.{Figure}
use Rattle.poly_design.specs.Limits.{AreOfGrid}
use Rattle.poly_design.specs.Name.{name_cmp}
use Rattle.poly_design.specs.declared.spec.Spec.{Spec}
use Rattle.poly_text.specs.declared.puzzle.head.Format.{Format}
use Rattle.poly_text.specs.Gives.{◌>>=◌}
use Rattle.poly_text.specs.Piece.{Said, said_of, Pieces, ShapeSays, SpecSays, PiecesSay, has_name, spec_of, new_spec}
use Rattle.poly_text.specs.Views.{views}
use Rattle.poly_text.proofs.CellsRead.{views_from}

-- if the piece at `i` is accepted, the result of the later pieces is the result of all pieces from `i` on
pub piece_step : (f : Format) (g : Grid) (vs : List Value) (i : ℕ) (v : Value) (taken : Pieces) (s : Said) (p : Spec) (r : Result Pieces Refusal) → i < length vs → v ≡ get_or vs i v
    → said_of f (view v) ≡ Ok s → SpecSays g taken s (Ok p) → PiecesSay f g (views (drop (i + 1) vs)) (insert_entry name_cmp taken s.name p) r → PiecesSay f g (views (drop i vs)) taken r
piece_step f g vs i v taken s p r lt is said spec rest = rw (views_from vs i v lt is, said) (Ok p, spec, rest)

pub said_stop : (e : Refusal) (f : Format) (g : Grid) (vs : List Value) (i : ℕ) (v : Value) (start taken : Pieces) → i < length vs → v ≡ get_or vs i v
    → (e ≡ Memory) ⊎ (said_of f (view v) ≡ Err e) → ((r : Result Pieces Refusal) → PiecesSay f g (views (drop i vs)) taken r → PiecesSay f g (views vs) start r)
    → (e ≡ Memory) ⊎ PiecesSay f g (views vs) start (Err e)
said_stop e f g vs i v start taken lt is (inl memory) so_far = inl memory
said_stop e f g vs i v start taken lt is (inr said) so_far = inr (so_far (Err e) (rw (views_from vs i v lt is, said) refl))

-- ---- how many pieces there are, and which grid they have

pub length_insert : (es : Pieces) (k : List ℕ) (v : Spec) → length (insert_entry name_cmp es k v) ≤ length es + 1
length_insert [] k v = omega arith
length_insert (e ∷ es) k v = go (name_cmp k e.0) (length_insert es k v)
  where
    go : (o : Ordering) → length (insert_entry name_cmp es k v) ≤ length es + 1 → length (match_ordering o ((k, v) ∷ e ∷ es) ((e.0, v) ∷ es) (e ∷ insert_entry name_cmp es k v)) ≤ suc (length es) + 1
    go Less h = omega arith
    go Equal h = omega arith
    go Greater h = omega (arith, h)

abbrev pub OfGrid : Grid → Pieces → Type 0
OfGrid g [] = Unit {0}
OfGrid g (e ∷ es) = (e.1.shape.grid ≡ g) × OfGrid g es

pub of_grid_insert : (g : Grid) (es : Pieces) (k : List ℕ) (v : Spec) → OfGrid g es → v.shape.grid ≡ g → OfGrid g (insert_entry name_cmp es k v)
of_grid_insert g [] k v h is = (is, tt)
of_grid_insert g (e ∷ es) k v h is = go (name_cmp k e.0) (of_grid_insert g es k v h.1 is)
  where
    go : (o : Ordering) → OfGrid g (insert_entry name_cmp es k v) → OfGrid g (match_ordering o ((k, v) ∷ e ∷ es) ((e.0, v) ∷ es) (e ∷ insert_entry name_cmp es k v))
    go Less rest = (is, h)
    go Equal rest = (is, h.1)
    go Greater rest = (h.0, rest)

all_of_grid : (g : Grid) (es : Pieces) → OfGrid g es → All (λ e. e.1.shape.grid ≡ g) es
all_of_grid g [] h = λ k d lt. absurd (omega (arith, lt))
all_of_grid g (e ∷ es) h = go (all_of_grid g es h.1)
  where
    go : All (λ x. x.1.shape.grid ≡ g) es → (k : ℕ) (d : List ℕ × Spec) → k < length (e ∷ es) → (get_or (e ∷ es) k d).1.shape.grid ≡ g
    go rest zero d lt = h.0
    go rest (suc k) d lt = rest k d (omega (arith, lt))

pub are_of_grid : (g : Grid) (es : Pieces) → OfGrid g es → AreOfGrid g es
are_of_grid g es h = λ name spec has. All-contains (λ e. e.1.shape.grid ≡ g) es (name, spec) (all_of_grid g es h) has

pub spec_grid : (g : Grid) (taken : Pieces) (s : Said) (p : Spec) → SpecSays g taken s (Ok p) → p.shape.grid ≡ g
spec_grid g taken s p says = go says.0 says.1 says.2
  where
    made : (f : Figure) → f.grid ≡ g → (b : Bool) → Ok p ≡ (if b then Err NameTaken else Ok (new_spec s f)) → p.shape.grid ≡ g
    made f is true e = absurd (cc)
    made f is false e = let same : p ≡ new_spec s f = cc in ap (λ x. x.shape.grid) same ∙ is

    go : (shape : Result Figure Refusal) → ShapeSays g s.cells shape → Ok p ≡ (shape >>= spec_of taken s) → p.shape.grid ≡ g
    go (Ok f) shape e = made f shape.1 (has_name taken s.name) e
    go (Err x) shape e = absurd (cc)
