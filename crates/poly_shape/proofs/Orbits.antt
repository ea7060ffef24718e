-- Images of images: one turn after another, and back.
use Rattle.std.proofs.Common.{◌≡◌, ℕ, ◌+ℤ◌, neg_ℤ, List, ap, sym, ◌∙◌, arith}
use Rattle.std.proofs.lemmas.Int.{ints}
use Rattle.poly_grid.specs.declared.grid.Grid.{Grid}
use Rattle.poly_grid.specs.declared.grid.Point.{Point}
use Rattle.poly_grid.specs.Spot.{Spot}
use Rattle.poly_grid.specs.Grid.{turned_of}
use Rattle.poly_grid.specs.Laws.{IsComposite}
use Rattle.poly_grid.proofs.Points.{same_point}
use Rattle.poly_grid.proofs.Turns.{first_turn_stays, turns_compose, turns_are_undone}
use Rattle.poly_shape.specs.Order.{IsAscending, spot_cmp}
use Rattle.poly_shape.specs.Shape.{point_of, LiesAt, IsImage, IsNormal}
use Rattle.poly_shape.specs.Laws.{OrientationsAreShared}
use Rattle.poly_shape.proofs.Turns.{IsAdditive, additive, of_turn}
use Rattle.poly_shape.proofs.Orientations.{one_list}

abbrev pub shifted : Point → Point → Point
shifted p s = record { x = p.x +ℤ s.x; y = p.y +ℤ s.y }

-- a turn takes a moved point to the turned point, moved by the turned shift
pub turned_shifted : (g : Grid) (t : ℕ) (p s : Point) → turned_of g t (shifted p s) ≡ shifted (turned_of g t p) (turned_of g t s)
turned_shifted g t p s =
    let add = of_turn IsAdditive additive g t in
    same_point _ _ (add.0 p.x p.y s.x s.y) (add.1 p.x p.y s.x s.y)

-- where a cell lies after one turn and then another
pub lies_after : (g : Grid) (t u both : ℕ) → IsComposite g t u both → (s r : Point) (a b c : Spot) → LiesAt g t s a b → LiesAt g u r b c
    → LiesAt g both (shifted r (turned_of g u s)) a c
lies_after g t u both composite s r a b c lb lc =
    let e = sym (composite (point_of a)) ∙ ap (turned_of g u) lb ∙ turned_shifted g u (point_of b) s in
    let ex = ap (λ (p : Point). p.x) e in
    let ey = ap (λ (p : Point). p.y) e in
    let cx = ap (λ (p : Point). p.x) lc in
    let cy = ap (λ (p : Point). p.y) lc in
    same_point _ _ (omega (arith, ints, ex, cx)) (omega (arith, ints, ey, cy))

-- an image of an image of cells is an image of the cells
image_after : (g : Grid) (t u both : ℕ) → IsComposite g t u both → (cells image last : List Spot) → IsImage g t cells image → IsImage g u image last → IsImage g both cells last
image_after g t u both composite cells image last p q = record {
  shift = shifted q.shift (turned_of g u p.shift);
  ascending = q.ascending;
  normal = q.normal;
  only = λ c here. let b = q.only c here in let a = p.only b.0 b.1 in (a.0, a.1, lies_after g t u both composite p.shift q.shift a.0 b.0 c a.2 b.2);
  all = λ a here. let b = p.all a here in let c = q.all b.0 b.1 in (c.0, c.1, lies_after g t u both composite p.shift q.shift a b.0 c.0 b.2 c.2);
}

-- the turn that undoes a turn, followed by a shift, takes the image of a cell back to the cell
pub lies_back : (g : Grid) (t u : ℕ) → IsComposite g t u 0 → (s : Point) (a b : Spot) → LiesAt g t s a b
    → LiesAt g u (record { x = neg_ℤ (turned_of g u s).x; y = neg_ℤ (turned_of g u s).y }) b a
lies_back g t u composite s a b lies =
    let e = sym (first_turn_stays g (point_of a)) ∙ sym (composite (point_of a)) ∙ ap (turned_of g u) lies ∙ turned_shifted g u (point_of b) s in
    let ex = ap (λ (p : Point). p.x) e in
    let ey = ap (λ (p : Point). p.y) e in
    same_point _ _ (omega (arith, ints, ex)) (omega (arith, ints, ey))

-- cells at their normal position are an image of each of their images
image_back : (g : Grid) (t u : ℕ) → IsComposite g t u 0 → (cells image : List Spot) → IsAscending spot_cmp cells → IsNormal cells → IsImage g t cells image → IsImage g u image cells
image_back g t u composite cells image up normal p = record {
  shift = record { x = neg_ℤ (turned_of g u p.shift).x; y = neg_ℤ (turned_of g u p.shift).y };
  ascending = up;
  normal = normal;
  only = λ a here. let b = p.all a here in (b.0, b.1, lies_back g t u composite p.shift a b.0 b.2);
  all = λ b here. let a = p.only b here in (a.0, a.1, lies_back g t u composite p.shift a.0 b a.2);
}

pub shared_orientations : OrientationsAreShared
shared_orientations s mirror list other image shape are there others =
    let first = are.only image there in
    let back = turns_are_undone s.grid mirror first.0 first.1 in
    let home = image_back s.grid first.0 back.0 back.2 s.cells image shape.cells.ascending shape.normal first.2 in
    one_list s mirror other list (record {
      ascending = others.ascending;
      only = λ last here.
          let o = others.only last here in
          let both = turns_compose s.grid mirror first.0 o.0 first.1 o.1 in
          (both.0, both.1, image_after s.grid first.0 o.0 both.0 both.2 s.cells image last first.2 o.2);
      all = λ t last lt is.
          let both = turns_compose s.grid mirror back.0 t back.1 lt in
          others.all both.0 last both.1 (image_after s.grid back.0 t both.0 both.2 image s.cells last home is);
    }) are
