-- What the table of turns says about every turn. Each coordinate of a turned point is a coordinate of the point, the sum of
-- both, or the negation of one of these. Different points go to different points, and neighbours to neighbours.
use Rattle.std.proofs.Common.{◌≡◌, ℕ, zero, suc, ℤ, neg_ℤ, ◌+ℤ◌, ◌<◌, ◌≤◌, Bool, true, false, List, [], ◌∷◌, get_or, refl, ap, sym, ◌∙◌, arith}
use Rattle.std.proofs.lemmas.Int.{ints}
use Rattle.poly_grid.specs.declared.grid.Grid.{Grid}
use Rattle.poly_grid.specs.declared.grid.Grid.TheVariants.{Square, Hex}
use Rattle.poly_grid.specs.declared.grid.Point.{Point}
use Rattle.poly_grid.specs.Spot.{Spot}
use Rattle.poly_grid.specs.Grid.{turn_table, turn_count, turned_of, neighbour_of}
use Rattle.poly_grid.proofs.Points.{same_point}
use Rattle.poly_grid.proofs.Turns.{first_turn_stays, turns_are_undone}
use Rattle.poly_grid.proofs.Neighbours.{turns_keep_neighbours}
use Rattle.poly_shape.specs.Shape.{point_of, LiesAt}
use Rattle.poly_shape.specs.Connected.{AreNeighbours}

abbrev pub Each : {X : Type 0} → (X → Type 0) → List X → Type 0
Each P [] = Unit {0}
Each P (x ∷ xs) = P x × Each P xs

pub each_at : {X : Type 0} (P : X → Type 0) (xs : List X) (d : X) → P d → Each P xs → (k : ℕ) → P (get_or xs k d)
each_at P [] d p e k = p
each_at P (x ∷ xs) d p e zero = e.0
each_at P (x ∷ xs) d p e (suc k) = each_at P xs d p e.1 k

-- Q holds of each coordinate that a turned point can have, as a function of the point's coordinates
pub record OfEach (Q : (ℤ → ℤ → ℤ) → Type 0) : Type 0 where
  pub x : Q (λ x y. x)
  pub y : Q (λ x y. y)
  pub neg_x : Q (λ x y. neg_ℤ x)
  pub neg_y : Q (λ x y. neg_ℤ y)
  pub both : Q (λ x y. x +ℤ y)
  pub neg_both : Q (λ x y. neg_ℤ (x +ℤ y))

abbrev OfBoth : ((ℤ → ℤ → ℤ) → Type 0) → (ℤ → ℤ → ℤ × ℤ) → Type 0
OfBoth Q f = Q (λ x y. (f x y).0) × Q (λ x y. (f x y).1)

of_table : (Q : (ℤ → ℤ → ℤ) → Type 0) → OfEach Q → (g : Grid) → Each (OfBoth Q) (turn_table g)
of_table Q q Square = ((q.x, q.y), ((q.neg_y, q.x), ((q.neg_x, q.neg_y), ((q.y, q.neg_x), ((q.neg_x, q.y), ((q.neg_y, q.neg_x), ((q.x, q.neg_y), ((q.y, q.x), tt))))))))
of_table Q q Hex = ((q.x, q.y), ((q.neg_y, q.both), ((q.neg_both, q.x), ((q.neg_x, q.neg_y), ((q.y, q.neg_both), ((q.both, q.neg_x), ((q.y, q.x), ((q.neg_x, q.both), ((q.neg_both, q.y), ((q.neg_y, q.neg_x), ((q.x, q.neg_both), ((q.both, q.neg_y), tt))))))))))))

-- if Q holds of each of these functions, it holds of both coordinates of a turned point
pub of_turn : (Q : (ℤ → ℤ → ℤ) → Type 0) → OfEach Q → (g : Grid) (t : ℕ) → OfBoth Q (λ x y. ((turned_of g t (record { x = x; y = y })).x, (turned_of g t (record { x = x; y = y })).y))
of_turn Q q g t = each_at (OfBoth Q) (turn_table g) (λ x y. (x, y)) (q.x, q.y) (of_table Q q g) t

-- two points with the same image are equal
pub one_to_one : (g : Grid) (t : ℕ) → t < turn_count g true → (p q : Point) → turned_of g t p ≡ turned_of g t q → p ≡ q
one_to_one g t lt p q e =
    let back = turns_are_undone g true t lt in
    sym (first_turn_stays g p) ∙ sym (back.2 p) ∙ ap (turned_of g back.0) e ∙ back.2 q ∙ first_turn_stays g q

-- the value of c at a sum of two points is the sum of its values at the two
abbrev pub IsAdditive : (ℤ → ℤ → ℤ) → Type 0
IsAdditive c = (x y u v : ℤ) → c (x +ℤ u) (y +ℤ v) ≡ c x y +ℤ c u v

pub additive : OfEach IsAdditive
additive = record {
  x = λ x y u v. refl;
  y = λ x y u v. refl;
  neg_x = λ x y u v. omega (arith, ints);
  neg_y = λ x y u v. omega (arith, ints);
  both = λ x y u v. omega (arith, ints);
  neg_both = λ x y u v. omega (arith, ints);
}

-- neighbours are still neighbours after a turn and a shift
pub neighbours_turned : (g : Grid) (t : ℕ) → t < turn_count g true → (s : Point) (a b u v : Spot) → LiesAt g t s a u → LiesAt g t s b v → AreNeighbours g a b → AreNeighbours g u v
neighbours_turned g t lt s a b u v la lb step =
    let to = (turns_keep_neighbours g t (point_of a) (point_of b) lt).0 step in
    let from = ap (λ (p : Point). p.x) (ap (neighbour_of g to.0) (sym la) ∙ to.2 ∙ lb) in
    let down = ap (λ (p : Point). p.y) (ap (neighbour_of g to.0) (sym la) ∙ to.2 ∙ lb) in
    (to.0, to.1, same_point _ _ (omega (arith, ints, from)) (omega (arith, ints, down)))

-- each grid has at least one turn, and with mirror on it has at least as many as with mirror off
pub some_turns : (g : Grid) (mirror : Bool) → 0 < turn_count g mirror
some_turns Square true = omega arith
some_turns Square false = omega arith
some_turns Hex true = omega arith
some_turns Hex false = omega arith

pub turns_within : (g : Grid) (mirror : Bool) → turn_count g mirror ≤ turn_count g true
turns_within Square true = omega arith
turns_within Square false = omega arith
turns_within Hex true = omega arith
turns_within Hex false = omega arith
