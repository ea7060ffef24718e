-- Where the turned cells lie, and the least column and row among them.
use Rattle.std.proofs.Common.{◌≡◌, ℕ, ℤ, pos, negsuc, ◌+ℤ◌, ◌≤ℤ◌, ◌+◌, ◌<◌, ◌≤◌, List, length, get_or, Option, Some, None, SomeIff, ap, sym, inl, inr, ◌⊎◌, ◌∙◌, arith}
use Rattle.std.proofs.lemmas.Int.{ints}
use Rattle.std.proofs.lemmas.Bool.{cases_eq, cases_cond}
use Rattle.std.specs.Prelude.{int_lt}
use Rattle.std.specs.Int.{int_min}
use Rattle.std.specs.List.{Contains}
use Rattle.poly_grid.specs.declared.grid.Grid.{Grid}
use Rattle.poly_grid.specs.declared.grid.Point.{Point}
use Rattle.poly_grid.specs.Spot.{Spot}
use Rattle.poly_grid.specs.Grid.{turned_of}
use Rattle.poly_shape.specs.Shape.{point_of}
use Rattle.poly_shape.specs.Connected.{IsCompact}
use Rattle.poly_shape.specs.Corner.{IsCorner, IsInReach}
use Rattle.poly_shape.proofs.Turns.{OfEach, of_turn}

-- x and y are coordinates of turned cells, and none of the first n turned cells is left of x or above y
pub record LowFrom (g : Grid) (t : ℕ) (cells : List Spot) (n : ℕ) (x y : ℤ) : Type 0 where
  pub below : (k : ℕ) (d : Spot) → k < n → (x ≤ℤ (turned_of g t (point_of (get_or cells k d))).x) × (y ≤ℤ (turned_of g t (point_of (get_or cells k d))).y)
  pub left : (a : Spot) × Contains cells a × ((turned_of g t (point_of a)).x ≡ x)
  pub top : (a : Spot) × Contains cells a × ((turned_of g t (point_of a)).y ≡ y)

abbrev IsWithin126 : Spot → (ℤ → ℤ → ℤ) → Type 0
IsWithin126 a c = (negsuc 125 ≤ℤ c (pos a.x) (pos a.y)) × (c (pos a.x) (pos a.y) ≤ℤ pos 126)

-- a turn takes a cell that a board can have to a point with coordinates from -126 to 126
pub turned_near : (g : Grid) (t : ℕ) (a : Spot) → (a.x < 64) × (a.y < 64)
    → let p = turned_of g t (point_of a) in ((negsuc 125 ≤ℤ p.x) × (p.x ≤ℤ pos 126)) × ((negsuc 125 ≤ℤ p.y) × (p.y ≤ℤ pos 126))
turned_near g t a small = of_turn (IsWithin126 a) near g t
  where
    near : OfEach (IsWithin126 a)
    near = record {
      x = (omega (arith, ints), omega (arith, ints));
      y = (omega (arith, ints), omega (arith, ints));
      neg_x = (omega (arith, ints), omega (arith, ints));
      neg_y = (omega (arith, ints), omega (arith, ints));
      both = (omega (arith, ints), omega (arith, ints));
      neg_both = (omega (arith, ints), omega (arith, ints));
    }

pub some_is : {T : Type 0} (P : Type 0) (v : T) (o : Option T) → SomeIff o P v → P → o ≡ Some v
some_is P v None h p = absurd (h p)
some_is P v (Some x) h p = ap Some h.1

-- low is the lesser of a and b
pub record IsLesser (low a b : ℤ) : Type 0 where
  pub first : low ≤ℤ a
  pub second : low ≤ℤ b
  pub one : (low ≡ a) ⊎ (low ≡ b)

pub lesser_from_min : (low least u v a b : ℤ) → least ≡ int_min u v → least ≤ℤ u → least ≤ℤ v → low ≡ least → u ≡ a → v ≡ b → IsLesser low a b
lesser_from_min low least u v a b is below_u below_v same ua vb = record {
  first = omega (arith, ints);
  second = omega (arith, ints);
  one = elim (cases_cond (int_lt v u) v u least is) [ inl second ↦ inr (same ∙ second ∙ vb) | inr first ↦ inl (same ∙ first ∙ ua) ];
}

pub low_more : (g : Grid) (t : ℕ) (cells : List Spot) (n : ℕ) (x y x' y' : ℤ) (a : Spot) → LowFrom g t cells n x y
    → n < length cells → ((d : Spot) → get_or cells n d ≡ a)
    → IsLesser x' x (turned_of g t (point_of a)).x → IsLesser y' y (turned_of g t (point_of a)).y → LowFrom g t cells (n + 1) x' y'
low_more g t cells n x y x' y' a low lt at across down =
    let here : Contains cells a = (n, lt, at a) in
    record {
      below = λ k d less. elim (cases_eq k n) [
        | inl is ↦ rw (is, at d) (across.second, down.second)
        | inr not ↦ let old = low.below k d (omega arith) in (omega (arith, ints, old.0, across.first), omega (arith, ints, old.1, down.first))
      ];
      left = elim across.one [ inl same ↦ (low.left.0, low.left.1, low.left.2 ∙ sym same) | inr new ↦ (a, here, sym new) ];
      top = elim down.one [ inl same ↦ (low.top.0, low.top.1, low.top.2 ∙ sym same) | inr new ↦ (a, here, sym new) ];
    }

pub some_value : {T : Type 0} (P : Type 0) (v : T) (o : Option T) (w : T) → SomeIff o P v → o ≡ Some w → w ≡ v
some_value P v None w h e = cc
some_value P v (Some x) w h e = let i : x ≡ w = cc in sym i ∙ h.1

abbrev IsUpTo60 : Spot → Spot → (ℤ → ℤ → ℤ) → Type 0
IsUpTo60 a b c = c (pos b.x) (pos b.y) ≤ℤ (c (pos a.x) (pos a.y) +ℤ pos 60)

-- if two cells are at most 30 columns and rows apart, they are at most 60 apart after a turn
turned_close : (g : Grid) (t : ℕ) (a b : Spot) → (b.x ≤ a.x + 30) × (b.y ≤ a.y + 30) → (a.x ≤ b.x + 30) × (a.y ≤ b.y + 30)
    → ((turned_of g t (point_of b)).x ≤ℤ ((turned_of g t (point_of a)).x +ℤ pos 60)) × ((turned_of g t (point_of b)).y ≤ℤ ((turned_of g t (point_of a)).y +ℤ pos 60))
turned_close g t a b sa sb = of_turn (IsUpTo60 a b) close g t
  where
    close : OfEach (IsUpTo60 a b)
    close = record { x = omega (arith, ints); y = omega (arith, ints); neg_x = omega (arith, ints); neg_y = omega (arith, ints); both = omega (arith, ints); neg_both = omega (arith, ints) }

pub in_reach : (g : Grid) (t : ℕ) (cells : List Spot) (corner : Point) (a : Spot) → IsCorner g t cells corner → IsCompact cells → Contains cells a → IsInReach g t corner a
in_reach g t cells corner a is small here =
    let below = is.below a here in
    let wide = turned_close g t is.left.0 a (small a is.left.0 here is.left.1) (small is.left.0 a is.left.1 here) in
    let high = turned_close g t is.top.0 a (small a is.top.0 here is.top.1) (small is.top.0 a is.top.1 here) in
    record { left = below.0; top = below.1; wide = rw (← is.left.2) wide.0; high = rw (← is.top.2) high.1 }
