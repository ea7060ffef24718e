-- Neighbours are mutual, and each turn carries neighbours, and only neighbours, to neighbours.
use Rattle.std.proofs.Common.{◌≡◌, ℕ, ◌+◌, ◌-◌, ◌%◌, ◌/◌, ◌<◌, nat_lt, if◌then◌else◌, true, length, ap, subst, ◌∙◌, arith}
use Rattle.std.proofs.lemmas.Int.{ints}
use Rattle.poly_grid.specs.declared.grid.Grid.{Grid}
use Rattle.poly_grid.specs.declared.grid.Grid.TheVariants.{Square, Hex}
use Rattle.poly_grid.specs.declared.grid.Point.{Point}
use Rattle.poly_grid.specs.Grid.{steps, neighbour_of, AreNeighbours, turned_of, turn_count}
use Rattle.poly_grid.specs.Laws.{NeighboursAreMutual, TurnsKeepNeighbours, IsComposite}
use Rattle.poly_grid.proofs.Points.{same_point}
use Rattle.poly_grid.proofs.EachBelow.{EachBelow, at_below, at_both_below}
use Rattle.poly_grid.proofs.Turns.{first_turn_stays, turns_are_undone}

-- the direction half a circle further, which leads back
abbrev opposite : Grid → ℕ → ℕ
opposite g d = (d + length (steps g) / 2) % length (steps g)

abbrev LeadsBack : Grid → Point → ℕ → Type 0
LeadsBack g p d =
    let q = neighbour_of g (opposite g d) (neighbour_of g d p) in
    (opposite g d < length (steps g)) × (q.x ≡ p.x) × (q.y ≡ p.y)

each_leads_back : (g : Grid) (p : Point) → EachBelow (LeadsBack g p) (length (steps g))
each_leads_back Square p = search (arith, ints)
each_leads_back Hex p = search (arith, ints)

pub neighbours_are_mutual : NeighboursAreMutual
neighbours_are_mutual g p q (d, lt, e) =
    let at = at_below (LeadsBack g p) (length (steps g)) (each_leads_back g p) d lt in
    subst (λ (z : Point). AreNeighbours g z p) e (opposite g d, at.0, same_point _ _ at.1 at.2)

-- the direction to which turn t takes direction d, counted round the circle: a rotation adds t to d, a reflection subtracts d
-- from 6 + t on the square grid and from 7 + t on the hexagonal one
abbrev direction_after : Grid → ℕ → ℕ → ℕ
direction_after Square t d = if nat_lt t 4 then (d + t) % 4 else ((6 - d + t) % 4)
direction_after Hex t d = if nat_lt t 6 then (d + t) % 6 else ((7 - d + t) % 6)

abbrev Carries : Grid → Point → ℕ → ℕ → Type 0
Carries g p t d =
    let a = neighbour_of g (direction_after g t d) (turned_of g t p) in
    let b = turned_of g t (neighbour_of g d p) in
    (direction_after g t d < length (steps g)) × (a.x ≡ b.x) × (a.y ≡ b.y)

each_carried : (g : Grid) (p : Point) → EachBelow (λ t. EachBelow (Carries g p t) (length (steps g))) (turn_count g true)
each_carried Square p = search (arith, ints)
each_carried Hex p = search (arith, ints)

carried : (g : Grid) (t : ℕ) (p q : Point) → t < turn_count g true → AreNeighbours g p q → AreNeighbours g (turned_of g t p) (turned_of g t q)
carried g t p q a (d, b, e) =
    let at = at_both_below (Carries g p) (turn_count g true) (length (steps g)) (each_carried g p) t d a b in
    (direction_after g t d, at.0, same_point _ _ at.1 at.2 ∙ ap (turned_of g t) e)

-- points that turn t takes to neighbours are neighbours: the turn u, which undoes t, shows it
brought : (g : Grid) (t u : ℕ) (p q : Point) → u < turn_count g true → IsComposite g t u 0
    → AreNeighbours g (turned_of g t p) (turned_of g t q) → AreNeighbours g p q
brought g t u p q b back near =
    let home : (r : Point) → turned_of g u (turned_of g t r) ≡ r = λ r. back r ∙ first_turn_stays g r in
    subst (λ (z : Point). AreNeighbours g z q) (home p)
    (subst (λ (z : Point). AreNeighbours g (turned_of g u (turned_of g t p)) z) (home q)
    (carried g u (turned_of g t p) (turned_of g t q) b near))

pub turns_keep_neighbours : TurnsKeepNeighbours
turns_keep_neighbours g t p q lt =
    let undo = turns_are_undone g true t lt in
    (carried g t p q lt, brought g t undo.0 p q undo.1 undo.2)
