-- What turning and moving a set of cells keeps.
use Rattle.std.proofs.Common.{◌≡◌, ℕ, ◌-ℤ◌, nat_abs, ◌<◌, Bool, true, List, length, get_or, inl, inr, ap, sym, subst, ◌∙◌, arith}
use Rattle.std.proofs.lemmas.Int.{ints}
use Rattle.std.proofs.lemmas.Bool.{cases_order}
use Rattle.std.proofs.lemmas.List.Elements.{Contains-get_or}
use Rattle.std.specs.List.{All}
use Rattle.std.specs.declared.cmp.Ordering.TheVariants.{Less}
use Rattle.poly_grid.specs.declared.grid.Grid.{Grid}
use Rattle.poly_grid.specs.declared.grid.Point.{Point}
use Rattle.poly_grid.specs.Spot.{Spot}
use Rattle.poly_grid.specs.Grid.{turn_count, turned_of}
use Rattle.poly_shape.specs.Order.{HasSame, IsAscending, spot_cmp, spot_total}
use Rattle.poly_shape.specs.Shape.{point_of, LiesAt, IsImage, AreOrientations}
use Rattle.poly_shape.proofs.Ascending.{not_below_itself, same_places}
use Rattle.poly_shape.proofs.Choices.{length-choices}
use Rattle.poly_shape.specs.Cells.{IsCells}
use Rattle.poly_shape.specs.Figure.{Figure}
use Rattle.poly_shape.specs.Shapes.{IsShape, IsOrientation}
use Rattle.poly_shape.specs.Connected.{IsClosed, IsConnected}
use Rattle.poly_shape.proofs.Turns.{one_to_one, neighbours_turned, turns_within}

abbrev origin : Spot
origin = record { x = 0; y = 0 }

pub image_same : (g : Grid) (t : ℕ) (a b image : List Spot) → HasSame a b → IsImage g t a image → IsImage g t b image
image_same g t a b image same is = record {
  shift = is.shift;
  ascending = is.ascending;
  normal = is.normal;
  only = λ c here. let o = is.only c here in (o.0, (same o.0).0 o.1, o.2);
  all = λ c here. is.all c ((same c).1 here);
}

pub connected_same : (g : Grid) (a b : List Spot) → HasSame a b → IsConnected g a → IsConnected g b
connected_same g a b same is p closed u v in_u in_v pu =
    is p (λ x y in_x in_y step px. closed x y ((same x).0 in_x) ((same y).0 in_y) step px) u v ((same u).1 in_u) ((same v).1 in_v) pu

pub has_same_back : (a b : List Spot) → HasSame a b → HasSame b a
has_same_back a b same y = ((same y).1, (same y).0)

abbrev moved : Grid → ℕ → Point → Spot → Spot
moved g t s a = record { x = nat_abs ((turned_of g t (point_of a)).x -ℤ s.x); y = nat_abs ((turned_of g t (point_of a)).y -ℤ s.y) }

moved_is : (g : Grid) (t : ℕ) (s : Point) (a b : Spot) → LiesAt g t s a b → moved g t s a ≡ b
moved_is g t s a b e =
    let ex = ap (λ (p : Point). p.x) e in
    let ey = ap (λ (p : Point). p.y) e in
    let xs : nat_abs ((turned_of g t (point_of a)).x -ℤ s.x) ≡ b.x = omega (arith, ints, ex) in
    let ys : nat_abs ((turned_of g t (point_of a)).y -ℤ s.y) ≡ b.y = omega (arith, ints, ey) in
    same_places _ _ xs ys

-- an image of connected cells is connected
pub connected_image : (g : Grid) (t : ℕ) (cells image : List Spot) → t < turn_count g true → IsImage g t cells image → IsConnected g cells → IsConnected g image
connected_image g t cells image known is connected p closed a b in_a in_b pa =
    let u = is.only a in_a in
    let v = is.only b in_b in
    subst (λ w. p w ≡ true) (moved_is g t is.shift v.0 b v.2)
    (connected (λ c. p (moved g t is.shift c)) on_cells u.0 v.0 u.1 v.1 (subst (λ w. p w ≡ true) (sym (moved_is g t is.shift u.0 a u.2)) pa))
  where
    on_cells : IsClosed g cells (λ c. p (moved g t is.shift c))
    on_cells x y in_x in_y step px =
        let u = is.all x in_x in
        let v = is.all y in_y in
        subst (λ w. p w ≡ true) (sym (moved_is g t is.shift y v.0 v.2))
        (closed u.0 v.0 u.1 v.1 (neighbours_turned g t known is.shift x y u.0 v.0 u.2 v.2 step) (subst (λ w. p w ≡ true) (moved_is g t is.shift x u.0 u.2) px))

spot_from_point : (a b : Spot) → point_of a ≡ point_of b → a ≡ b
spot_from_point a b e =
    let ex = ap (λ (p : Point). p.x) e in
    let ey = ap (λ (p : Point). p.y) e in
    same_places a b (omega (arith, ints, ex)) (omega (arith, ints, ey))

-- two cells that a turn and a shift take to one cell are equal
same_source : (g : Grid) (t : ℕ) → t < turn_count g true → (s : Point) (a b c : Spot) → LiesAt g t s a c → LiesAt g t s b c → a ≡ b
same_source g t known s a b c la lb = spot_from_point a b (one_to_one g t known (point_of a) (point_of b) (la ∙ sym lb))

same_target : (g : Grid) (t : ℕ) (s : Point) (a b c : Spot) → LiesAt g t s a b → LiesAt g t s a c → b ≡ c
same_target g t s a b c lb lc = sym (moved_is g t s a b lb) ∙ moved_is g t s a c lc

at_one_place : (xs : List Spot) (j k : ℕ) → IsAscending spot_cmp xs → j < length xs → k < length xs → get_or xs j origin ≡ get_or xs k origin → j ≡ k
at_one_place xs j k up lj lk e = elim (cases_order j k) [
  | inl same ↦ same
  | inr apart ↦ elim apart [
    | inl below ↦ absurd (not_below_itself spot_total (get_or xs j origin) (subst (λ v. spot_cmp (get_or xs j origin) v ≡ Less) (sym e) (up j k origin below lk)))
    | inr above ↦ absurd (not_below_itself spot_total (get_or xs k origin) (subst (λ v. spot_cmp (get_or xs k origin) v ≡ Less) e (up k j origin above lj)))
  ]
]

-- an image has as many cells as the set that was turned
pub length-image : (g : Grid) (t : ℕ) (cells image : List Spot) → t < turn_count g true → IsAscending spot_cmp cells → IsImage g t cells image → length image ≡ length cells
length-image g t cells image known up is =
    let to = λ (k : ℕ) (b : Spot). (k < length cells) × LiesAt g t is.shift (get_or cells k origin) b in
    let from = λ (k : ℕ) (a : Spot). (k < length image) × LiesAt g t is.shift a (get_or image k origin) in
    let le = length-choices to (λ j k b p q. at_one_place cells j k up p.0 q.0 (same_source g t known is.shift _ _ b p.1 q.1)) (length cells) image
    (λ k lt. let o = is.all (get_or cells k origin) (Contains-get_or cells k origin lt) in (o.0, o.1, (lt, o.2))) in
    let ge = length-choices from (λ j k a p q. at_one_place image j k is.ascending p.0 q.0 (same_target g t is.shift a _ _ p.1 q.1)) (length image) cells
    (λ k lt. let o = is.only (get_or image k origin) (Contains-get_or image k origin lt) in (o.0, o.1, (lt, o.2))) in
    omega (arith, le, ge)

-- an image of the cells of a shape is a shape
pub shape_image : (g : Grid) (t : ℕ) (cells image : List Spot) → t < turn_count g true → IsCells cells → IsConnected g cells → IsImage g t cells image → IsShape (record { grid = g; cells = image })
shape_image g t cells image known kept connected is =
    let len = length-image g t cells image known kept.ascending is in
    record {
      cells = record { some = omega (arith, len, kept.some); few = omega (arith, len, kept.few); ascending = is.ascending };
      normal = is.normal;
      connected = connected_image g t cells image known is connected;
    }

-- every orientation of a shape is a shape with as many cells
pub orientation_shapes : (s : Figure) (mirror : Bool) (list : List (List Spot)) → IsShape s → AreOrientations s mirror list → All (IsOrientation s) list
orientation_shapes s mirror list shape are k d lt =
    let image = get_or list k d in
    let some = are.only image (Contains-get_or list k d lt) in
    let known : some.0 < turn_count s.grid true = omega (arith, turns_within s.grid mirror, some.1) in
    record {
      shape = shape_image s.grid some.0 s.cells image known shape.cells shape.connected some.2;
      full = length-image s.grid some.0 s.cells image known shape.cells.ascending some.2;
    }
