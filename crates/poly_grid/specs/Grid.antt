-- The tables of the two grids. A number below zero is written with `negsuc`: `negsuc 0` is -1, `negsuc 999` is -1,000.
use Rattle.std.specs.Prelude.{◌≡◌, ◌<◌, ℕ, ℤ, pos, negsuc, ◌+ℤ◌, ◌≤ℤ◌, neg_ℤ, Bool, List, [], ◌∷◌, length, slice_index_or, if◌then◌else◌}
use Rattle.poly_grid.specs.declared.grid.Grid.{Grid}
use Rattle.poly_grid.specs.declared.grid.Grid.TheVariants.{Square, Hex}
use Rattle.poly_grid.specs.declared.grid.Point.{Point}

-- the steps to the neighbours, in the order of the directions; those of hexagons are in axial coordinates
abbrev pub steps : Grid → List (ℤ × ℤ)
steps Square = (pos 1, pos 0) ∷ (pos 0, pos 1) ∷ (negsuc 0, pos 0) ∷ (pos 0, negsuc 0) ∷ []
steps Hex = (pos 1, pos 0) ∷ (pos 0, pos 1) ∷ (negsuc 0, pos 1) ∷ (negsuc 0, pos 0) ∷ (pos 0, negsuc 0) ∷ (pos 1, negsuc 0) ∷ []

-- the point that lies one step from p in direction d; p itself if there is no such direction
abbrev pub neighbour_of : Grid → ℕ → Point → Point
neighbour_of g d p =
    let step = slice_index_or (steps g) d (pos 0, pos 0) in
    record { x = p.x +ℤ step.0; y = p.y +ℤ step.1 }

-- some step leads from the first point to the second
abbrev pub AreNeighbours : Grid → Point → Point → Type 0
AreNeighbours g p q = (d : ℕ) × (d < length (steps g)) × (neighbour_of g d p ≡ q)

-- the turns, first the rotations and then the reflections, as functions of (x, y), or of the axial (q, r)
abbrev pub turn_table : Grid → List (ℤ → ℤ → ℤ × ℤ)
turn_table Square =
    (λ x y. (x, y)) ∷ (λ x y. (neg_ℤ y, x)) ∷ (λ x y. (neg_ℤ x, neg_ℤ y)) ∷ (λ x y. (y, neg_ℤ x))
    ∷ (λ x y. (neg_ℤ x, y)) ∷ (λ x y. (neg_ℤ y, neg_ℤ x)) ∷ (λ x y. (x, neg_ℤ y)) ∷ (λ x y. (y, x)) ∷ []
turn_table Hex =
    (λ q r. (q, r)) ∷ (λ q r. (neg_ℤ r, q +ℤ r)) ∷ (λ q r. (neg_ℤ (q +ℤ r), q)) ∷ (λ q r. (neg_ℤ q, neg_ℤ r))
    ∷ (λ q r. (r, neg_ℤ (q +ℤ r))) ∷ (λ q r. (q +ℤ r, neg_ℤ q)) ∷ (λ q r. (r, q)) ∷ (λ q r. (neg_ℤ q, q +ℤ r))
    ∷ (λ q r. (neg_ℤ (q +ℤ r), r)) ∷ (λ q r. (neg_ℤ r, neg_ℤ q)) ∷ (λ q r. (q, neg_ℤ (q +ℤ r))) ∷ (λ q r. (q +ℤ r, neg_ℤ r)) ∷ []

-- how many turns there are: the rotations, and if mirror is on, as many reflections
abbrev pub turn_count : Grid → Bool → ℕ
turn_count Square mirror = if mirror then 8 else 4
turn_count Hex mirror = if mirror then 12 else 6

-- the image of p under turn t; p itself if there is no such turn
abbrev pub turned_of : Grid → ℕ → Point → Point
turned_of g t p =
    let image = slice_index_or (turn_table g) t (λ x y. (x, y)) p.x p.y in
    record { x = image.0; y = image.1 }

-- the coordinates are from -1,000 to 1,000
abbrev pub IsNear : Point → Type 0
IsNear p = (negsuc 999 ≤ℤ p.x) × (p.x ≤ℤ pos 1000) × (negsuc 999 ≤ℤ p.y) × (p.y ≤ℤ pos 1000)
