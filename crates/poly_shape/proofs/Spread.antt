-- Connected cells lie close together: each column and each row between two of them has at least one of the cells.
use Rattle.std.proofs.Common.{◌≡◌, ℕ, ℤ, pos, negsuc, ◌≤ℤ◌, ◌+◌, ◌-◌, ◌≤◌, true, false, eqb, ltb, List, length, get_or, inl, inr, ap, sym, ◌∙◌, arith}
use mathlib.Core.Bool.{true≢false}
use Rattle.std.proofs.lemmas.Int.{ints}
use Rattle.std.proofs.lemmas.Bool.{cases_lt, cases_Bool, eqb-true, eq-eqb}
use Rattle.std.proofs.lemmas.Bool.Decides.{Decides-ltb}
use Rattle.std.proofs.lemmas.List.Folds.{Any-from_list_any, list_any_at}
use Rattle.std.specs.List.{Contains, list_any}
use Rattle.poly_grid.specs.declared.grid.Grid.{Grid}
use Rattle.poly_grid.specs.declared.grid.Grid.TheVariants.{Square, Hex}
use Rattle.poly_grid.specs.declared.grid.Point.{Point}
use Rattle.poly_grid.specs.Spot.{Spot}
use Rattle.poly_grid.specs.Grid.{steps}
use Rattle.poly_shape.specs.Connected.{AreNeighbours, IsClosed, IsConnected, IsCompact}
use Rattle.poly_shape.proofs.Turns.{Each, each_at}
use Rattle.poly_shape.proofs.Choices.{length-choices}

-- a step changes a coordinate by one at most
abbrev IsStep : ℤ × ℤ → Type 0
IsStep s = (negsuc 0 ≤ℤ s.0) × (s.0 ≤ℤ pos 1) × (negsuc 0 ≤ℤ s.1) × (s.1 ≤ℤ pos 1)

steps_small : (g : Grid) → Each IsStep (steps g)
steps_small Square = grind (arith, ints)
steps_small Hex = grind (arith, ints)

abbrev IsGradual : Grid → (Spot → ℕ) → Type 0
IsGradual g f = (a b : Spot) → AreNeighbours g a b → f b ≤ f a + 1

small_at : (g : Grid) (d : ℕ) → IsStep (get_or (steps g) d (pos 0, pos 0))
small_at g d = each_at IsStep (steps g) (pos 0, pos 0) (omega (arith, ints), omega (arith, ints), omega (arith, ints), omega (arith, ints)) (steps_small g) d

columns_gradual : (g : Grid) → IsGradual g (λ c. c.x)
columns_gradual g a b (d, lt, e) = let ex = ap (λ (p : Point). p.x) e in omega (arith, ints, small_at g d, ex)

rows_gradual : (g : Grid) → IsGradual g (λ c. c.y)
rows_gradual g a b (d, lt, e) = let ey = ap (λ (p : Point). p.y) e in omega (arith, ints, small_at g d, ey)

-- if the cells are connected and f rises by at most one from a cell to a neighbour, then each number between the values of f
-- at two of the cells is the value of f at some cell of the list
met : (g : Grid) (cells : List Spot) (f : Spot → ℕ) → IsGradual g f → IsConnected g cells → (a b : Spot) → Contains cells a → Contains cells b
    → (k : ℕ) → f b ≤ k → k ≤ f a → (c : Spot) × Contains cells c × (f c ≡ k)
met g cells f gradual connected a b in_a in_b k low high = elim (cases_Bool (list_any (λ c. eqb (f c) k) cells)) [
  | inl has ↦ let some = Any-from_list_any (λ c. eqb (f c) k) cells has in (some.1, (some.0, some.2, some.3), eqb-true _ _ some.4)
  | inr lacking ↦ absurd (left_out lacking)
]
  where
    left_out : list_any (λ c. eqb (f c) k) cells ≡ false → ⊥
    left_out lacking =
        let missing : (c : Spot) → Contains cells c → f c ≡ k → ⊥ = λ c here e.
        true≢false (sym (list_any_at (λ c. eqb (f c) k) cells here.0 c here.1 (eq-eqb _ _ (ap f here.2 ∙ e))) ∙ lacking) in
        let closed : IsClosed g cells (λ c. ltb (f c) k) = λ u v in_u in_v step pu.
        let below = (Decides-ltb (f u) k).0 pu in
        let other = missing v in_v in
        (Decides-ltb (f v) k).1 (omega (arith, below, gradual u v step, other)) in
        let start : ltb (f b) k ≡ true = let other = missing b in_b in (Decides-ltb (f b) k).1 (omega (arith, other)) in
        let end = (Decides-ltb (f a) k).0 (connected (λ c. ltb (f c) k) closed b a in_b in_a start) in
        omega (arith, end)

spread : (g : Grid) (cells : List Spot) (f : Spot → ℕ) → IsGradual g f → IsConnected g cells → (a b : Spot) → Contains cells a → Contains cells b → f a + 1 ≤ f b + length cells
spread g cells f gradual connected a b in_a in_b = elim (cases_lt (f a) (f b)) [
  | inl below ↦ omega (arith, in_a.1)
  | inr from ↦
      let n = f a - f b + 1 in
      let le = length-choices (λ j c. f c ≡ f b + j) (λ j k c e h. omega (arith, e, h)) n cells (λ j lt. met g cells f gradual connected a b in_a in_b (f b + j) (omega arith) (omega arith)) in
      omega (arith, le)
]

pub compact_connected : (g : Grid) (cells : List Spot) → IsConnected g cells → length cells ≤ 16 → IsCompact cells
compact_connected g cells connected few a b in_a in_b = (
  omega (arith, spread g cells (λ c. c.x) (columns_gradual g) connected a b in_a in_b),
  omega (arith, spread g cells (λ c. c.y) (rows_gradual g) connected a b in_a in_b),
)
