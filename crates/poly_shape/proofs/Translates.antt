-- Cells at their normal position: each translate determines them, and they are their own image under turn 0.
use Rattle.std.proofs.Common.{◌≡◌, ℕ, pos, ◌+ℤ◌, ◌<◌, ◌≤◌, List, [], ◌∷◌, length, get_or, refl, ap, sym, subst, ◌∙◌, arith}
use Rattle.std.proofs.lemmas.Int.{ints}
use Rattle.std.proofs.lemmas.List.{get_or-map, length-map}
use Rattle.std.proofs.lemmas.List.Elements.{Contains-get_or}
use Rattle.std.specs.List.{Contains}
use Rattle.poly_grid.specs.declared.grid.Grid.{Grid}
use Rattle.poly_grid.specs.declared.grid.Grid.TheVariants.{Square, Hex}
use Rattle.poly_grid.specs.declared.grid.Point.{Point}
use Rattle.poly_grid.specs.Spot.{Spot}
use Rattle.poly_shape.specs.Order.{IsAscending, spot_cmp}
use Rattle.poly_shape.specs.Shape.{LiesAt, IsImage, IsNormal}
use Rattle.poly_shape.specs.Moves.{spot_moved, moved_by}
use Rattle.poly_shape.specs.Laws.{TranslatesTellTheNormalPlace}
use Rattle.poly_shape.proofs.Ascending.{same_places}
use Rattle.poly_grid.proofs.Points.{same_point}

pub contains_moved : (right down : ℕ) (cells : List Spot) (c : Spot) → Contains cells c → Contains (moved_by right down cells) (spot_moved right down c)
contains_moved right down cells c (k, lt, e) =
    let len = length-map cells (spot_moved right down) in
    (k, omega (arith, len), get_or-map (spot_moved right down) cells k c (spot_moved right down c) lt ∙ ap (spot_moved right down) e)

-- each of the moved cells is one of the cells, moved
pub source_of_moved : (right down : ℕ) (cells : List Spot) (v : Spot) → Contains (moved_by right down cells) v → (c : Spot) × Contains cells c × (spot_moved right down c ≡ v)
source_of_moved right down cells v (k, lt, e) =
    let len = length-map cells (spot_moved right down) in
    let below : k < length cells = omega (arith, len) in
    (get_or cells k v, Contains-get_or cells k v below, sym (get_or-map (spot_moved right down) cells k v v below) ∙ e)

moved_no_less : (a b : List Spot) (right down right' down' : ℕ) → IsNormal a → IsNormal b → moved_by right down a ≡ moved_by right' down' b → (right' ≤ right) × (down' ≤ down)
moved_no_less a b right down right' down' na nb e =
    let l = source_of_moved right' down' b _ (subst (λ w. Contains w (spot_moved right down na.left.0)) e (contains_moved right down a na.left.0 na.left.1)) in
    let t = source_of_moved right' down' b _ (subst (λ w. Contains w (spot_moved right down na.top.0)) e (contains_moved right down a na.top.0 na.top.1)) in
    (omega (arith, ap (λ (s : Spot). s.x) l.2, na.left.2), omega (arith, ap (λ (s : Spot). s.y) t.2, na.top.2))

unmoved : (right down : ℕ) (a b : List Spot) → moved_by right down a ≡ moved_by right down b → a ≡ b
unmoved right down [] [] e = refl
unmoved right down [] (y ∷ ys) e = cc
unmoved right down (x ∷ xs) [] e = cc
unmoved right down (x ∷ xs) (y ∷ ys) e =
    let head : spot_moved right down x ≡ spot_moved right down y = cc in
    let tail : moved_by right down xs ≡ moved_by right down ys = cc in
    let same = same_places x y (omega (arith, ap (λ (s : Spot). s.x) head)) (omega (arith, ap (λ (s : Spot). s.y) head)) in
    let rest = unmoved right down xs ys tail in
    λ i. same i ∷ rest i

-- two sets at their normal positions with a translate in common are equal, and moved the same way
pub same_translates : TranslatesTellTheNormalPlace
same_translates a b right down right' down' na nb e =
    let le = moved_no_less a b right down right' down' na nb e in
    let ge = moved_no_less b a right' down' right down nb na (sym e) in
    let rights : right ≡ right' = omega (arith, le, ge) in
    let downs : down ≡ down' = omega (arith, le, ge) in
    (unmoved right' down' a b (subst (λ n. moved_by n down' a ≡ moved_by right' down' b) rights (subst (λ n. moved_by right n a ≡ moved_by right' down' b) downs e)), rights, downs)

lies_at : (g : Grid) (s : Point) (a b : Spot) → pos a.x ≡ pos b.x +ℤ s.x → pos a.y ≡ pos b.y +ℤ s.y → LiesAt g 0 s a b
lies_at Square s a b ex ey = same_point _ _ ex ey
lies_at Hex s a b ex ey = same_point _ _ ex ey

-- cells at their normal position are their own image under turn 0
pub image_of_itself : (g : Grid) (cells : List Spot) → IsAscending spot_cmp cells → IsNormal cells → IsImage g 0 cells cells
image_of_itself g cells up normal = record {
  shift = still;
  ascending = up;
  normal = normal;
  only = λ b here. (b, here, lies_at g still b b (omega (arith, ints)) (omega (arith, ints)));
  all = λ a here. (a, here, lies_at g still a a (omega (arith, ints)) (omega (arith, ints)));
}
  where
    still : Point
    still = record { x = pos 0; y = pos 0 }
