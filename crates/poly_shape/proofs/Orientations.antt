-- The images under the first turns; that a normal position is unique; and the laws of orientations.
use Rattle.std.proofs.Common.{◌≡◌, ℕ, ◌≤ℤ◌, ◌+◌, ◌<◌, Bool, false, List, refl, ap, sym, subst, inl, inr, ◌∙◌, arith}
use Rattle.std.proofs.lemmas.Int.{ints}
use Rattle.std.proofs.lemmas.Bool.{cases_lt}
use Rattle.std.specs.List.{Contains}
use Rattle.poly_grid.specs.declared.grid.Grid.{Grid}
use Rattle.poly_grid.specs.declared.grid.Point.{Point}
use Rattle.poly_grid.specs.Spot.{Spot}
use Rattle.poly_grid.specs.Grid.{turn_count}
use Rattle.poly_shape.specs.Order.{IsAscending, Adds, cells_cmp, spot_total, cells_total}
use Rattle.poly_shape.specs.Figure.{Figure}
use Rattle.poly_shape.specs.Shape.{IsImage, AreOrientations}
use Rattle.poly_shape.specs.Laws.{ShapesAreTheirOrientations, RotationsAreAmongAll, OrientationsAreOneList}
use Rattle.poly_shape.proofs.Ascending.{same_ascending, same_places}
use Rattle.poly_shape.proofs.Turns.{some_turns, turns_within}
use Rattle.poly_shape.proofs.Translates.{image_of_itself}

pub record AreImages (g : Grid) (cells : List Spot) (n : ℕ) (list : List (List Spot)) : Type 0 where
  pub ascending : IsAscending cells_cmp list
  pub only : (image : List Spot) → Contains list image → (t : ℕ) × (t < n) × IsImage g t cells image
  pub all : (t : ℕ) → t < n → (image : List Spot) × Contains list image × IsImage g t cells image

pub images_more : (g : Grid) (cells : List Spot) (n : ℕ) (list list' : List (List Spot)) (image : List Spot)
    → AreImages g cells n list → IsImage g n cells image → Adds list image list' → IsAscending cells_cmp list' → AreImages g cells (n + 1) list'
images_more g cells n list list' image are is adds up = record {
  ascending = up;
  only = λ v there. elim ((adds v).0 there) [
    | inl old ↦ let o = are.only v old in (o.0, omega (arith, o.1), o.2)
    | inr same ↦ (n, omega arith, subst (IsImage g n cells) same is)
  ];
  all = λ t lt. elim (cases_lt t n) [
    | inl below ↦ let o = are.all t below in (o.0, (adds o.0).1 (inl o.1), o.2)
    | inr from ↦ let e : n ≡ t = omega arith in (image, (adds image).1 (inr refl), subst (λ k. IsImage g k cells image) e is)
  ];
}

-- the shift of an image is the corner of the turned cells, so the shift of another image under the same turn isn't
-- left of this corner or above it
shift_le : (g : Grid) (t : ℕ) (cells a b : List Spot) (p : IsImage g t cells a) (q : IsImage g t cells b) → (p.shift.x ≤ℤ q.shift.x) × (p.shift.y ≤ℤ q.shift.y)
shift_le g t cells a b p q =
    let l = q.only q.normal.left.0 q.normal.left.1 in
    let m = p.all l.0 l.1 in
    let u = q.only q.normal.top.0 q.normal.top.1 in
    let v = p.all u.0 u.1 in
    let ex = ap (λ (r : Point). r.x) (sym l.2 ∙ m.2) in
    let ey = ap (λ (r : Point). r.y) (sym u.2 ∙ v.2) in
    (omega (arith, ints, ex, q.normal.left.2), omega (arith, ints, ey, q.normal.top.2))

part_of : (g : Grid) (t : ℕ) (cells a b : List Spot) (p : IsImage g t cells a) (q : IsImage g t cells b) → (c : Spot) → Contains a c → Contains b c
part_of g t cells a b p q c here =
    let le = shift_le g t cells a b p q in
    let ge = shift_le g t cells b a q p in
    let from = p.only c here in
    let to = q.all from.0 from.1 in
    let ex = ap (λ (r : Point). r.x) (sym from.2 ∙ to.2) in
    let ey = ap (λ (r : Point). r.y) (sym from.2 ∙ to.2) in
    let sx : to.0.x ≡ c.x = omega (arith, ints, ex, le, ge) in
    let sy : to.0.y ≡ c.y = omega (arith, ints, ey, le, ge) in
    let same : to.0 ≡ c = same_places to.0 c sx sy in
    subst (Contains b) same to.1

pub same_image : (g : Grid) (t : ℕ) (cells a b : List Spot) → IsImage g t cells a → IsImage g t cells b → a ≡ b
same_image g t cells a b p q = same_ascending spot_total a b p.ascending q.ascending (part_of g t cells a b p q) (part_of g t cells b a q p)

pub images_done : (s : Figure) (mirror : Bool) (list : List (List Spot)) → AreImages s.grid s.cells (turn_count s.grid mirror) list → AreOrientations s mirror list
images_done s mirror list are = record {
  ascending = are.ascending;
  only = are.only;
  all = λ t image lt is. let o = are.all t lt in subst (Contains list) (same_image s.grid t s.cells o.0 image o.2 is) o.1;
}

pub own_orientation : ShapesAreTheirOrientations
own_orientation s mirror list shape are = are.all 0 s.cells (some_turns s.grid mirror) (image_of_itself s.grid s.cells shape.cells.ascending shape.normal)

pub rotations_among_all : RotationsAreAmongAll
rotations_among_all s rotations all some whole image here =
    let o = some.only image here in
    whole.all o.0 image (omega (arith, turns_within s.grid false, o.1)) o.2

pub one_list : OrientationsAreOneList
one_list s mirror a b p q = same_ascending cells_total a b p.ascending q.ascending
    (λ image here. let o = p.only image here in q.all o.0 image o.1 o.2)
    (λ image here. let o = q.only image here in p.all o.0 image o.1 o.2)
