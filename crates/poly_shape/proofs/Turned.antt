-- The image of the first cells under a turn.
use Rattle.std.proofs.Common.{◌≡◌, ℕ, ◌+◌, ◌<◌, ◌≤◌, List, length, get_or, refl, ap, subst, inl, inr, arith}
use Rattle.std.proofs.lemmas.Int.{ints}
use Rattle.std.proofs.lemmas.Bool.{cases_eq}
use Rattle.std.specs.List.{Contains}
use Rattle.poly_grid.specs.declared.grid.Grid.{Grid}
use Rattle.poly_grid.specs.declared.grid.Point.{Point}
use Rattle.poly_grid.specs.Spot.{Spot}
use Rattle.poly_shape.specs.Order.{IsAscending, Adds, spot_cmp}
use Rattle.poly_shape.specs.Shape.{LiesAt, IsImage}
use Rattle.poly_shape.specs.Corner.{IsCorner}

-- image has the first n cells, turned and moved; it ascends, has at most n cells, and each of these is a turned and moved cell
pub record ImageFrom (g : Grid) (t : ℕ) (shift : Point) (cells : List Spot) (n : ℕ) (image : List Spot) : Type 0 where
  pub few : length image ≤ n
  pub ascending : IsAscending spot_cmp image
  pub only : (b : Spot) → Contains image b → (a : Spot) × Contains cells a × LiesAt g t shift a b
  pub all : (k : ℕ) (d : Spot) → k < n → (b : Spot) × Contains image b × LiesAt g t shift (get_or cells k d) b

pub image_more : (g : Grid) (t : ℕ) (shift : Point) (cells : List Spot) (n : ℕ) (image image' : List Spot) (a b : Spot)
    → ImageFrom g t shift cells n image → n < length cells → ((d : Spot) → get_or cells n d ≡ a) → LiesAt g t shift a b
    → Adds image b image' → length image' ≤ length image + 1 → IsAscending spot_cmp image'
    → ImageFrom g t shift cells (n + 1) image'
image_more g t shift cells n image image' a b from lt at lies adds few up = record {
  few = omega (arith, from.few);
  ascending = up;
  only = λ v there. elim ((adds v).0 there) [ inl old ↦ from.only v old | inr is ↦ (a, (n, lt, at a), subst (LiesAt g t shift a) is lies) ];
  all = λ k d less. elim (cases_eq k n) [
    | inl is ↦ (b, (adds b).1 (inr refl), rw (is, at d) lies)
    | inr not ↦ let old = from.all k d (omega arith) in (old.0, (adds old.0).1 (inl old.1), old.2)
  ];
}

-- with all cells in it, `image` is the image of the cells: it is at its normal position, since the shift is the corner
pub image_done : (g : Grid) (t : ℕ) (shift : Point) (cells : List Spot) (image : List Spot)
    → IsCorner g t cells shift → ImageFrom g t shift cells (length cells) image → IsImage g t cells image
image_done g t shift cells image corner from = record {
  shift = shift;
  ascending = from.ascending;
  normal = record {
    left = let b = all corner.left.0 corner.left.1 in let ex = ap (λ (p : Point). p.x) b.2 in (b.0, b.1, omega (arith, ints, ex, corner.left.2));
    top = let b = all corner.top.0 corner.top.1 in let ey = ap (λ (p : Point). p.y) b.2 in (b.0, b.1, omega (arith, ints, ey, corner.top.2));
  };
  only = from.only;
  all = all;
}
  where
    all : (a : Spot) → Contains cells a → (b : Spot) × Contains image b × LiesAt g t shift a b
    all a (k, lt, is) = let found = from.all k a lt in (found.0, found.1, subst (λ v. LiesAt g t shift v found.0) is found.2)
