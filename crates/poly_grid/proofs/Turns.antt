-- The laws of turns, shown turn by turn: the turns form a group, no two are the same, the rotations are the powers of turn 1,
-- and each reflection is the first one followed by a rotation.
use Rattle.std.proofs.Common.{◌≡◌, ℕ, pos, ◌+◌, ◌-◌, ◌%◌, ◌<◌, nat_lt, if◌then◌else◌, true, false, Bool, refl, ap, arith}
use Rattle.std.proofs.lemmas.Int.{ints}
use Rattle.poly_grid.specs.declared.grid.Grid.{Grid}
use Rattle.poly_grid.specs.declared.grid.Grid.TheVariants.{Square, Hex}
use Rattle.poly_grid.specs.declared.grid.Point.{Point}
use Rattle.poly_grid.specs.Grid.{turned_of, turn_count}
use Rattle.poly_grid.specs.Laws.{FirstTurnStays, TurnsCompose, TurnsAreUndone, TurnsDiffer, RotationsArePowers, ReflectionsFollow}
use Rattle.poly_grid.proofs.Points.{same_point}
use Rattle.poly_grid.proofs.EachBelow.{EachBelow, at_below, at_both_below}

-- turn t followed by turn u takes p to the same coordinates as the turn `both`, which is one of the first n
abbrev Makes : Grid → Point → ℕ → ℕ → ℕ → ℕ → Type 0
Makes g p n t u both =
    let q = turned_of g u (turned_of g t p) in
    let r = turned_of g both p in
    (both < n) × (q.x ≡ r.x) × (q.y ≡ r.y)

-- which turn has the same effect as the turn t and then the turn u, if the first n turns are the rotations
abbrev composed : ℕ → ℕ → ℕ → ℕ
composed n t u =
    if nat_lt u n then (if nat_lt t n then (t + u) % n else (n + (t - n + u) % n))
    else (if nat_lt t n then (n + (u - t) % n) else ((u + n - t) % n))

abbrev Composes : Grid → Bool → Point → ℕ → ℕ → Type 0
Composes g mirror p t u = Makes g p (turn_count g mirror) t u (composed (turn_count g false) t u)

each_composes : (g : Grid) (mirror : Bool) (p : Point) → EachBelow (λ t. EachBelow (Composes g mirror p t) (turn_count g mirror)) (turn_count g mirror)
each_composes Square true p = search (arith, ints)
each_composes Square false p = search (arith, ints)
each_composes Hex true p = search (arith, ints)
each_composes Hex false p = search (arith, ints)

composes : (g : Grid) (mirror : Bool) (t u : ℕ) → t < turn_count g mirror → u < turn_count g mirror → (p : Point) → Composes g mirror p t u
composes g mirror t u a b p = at_both_below (Composes g mirror p) (turn_count g mirror) (turn_count g mirror) (each_composes g mirror p) t u a b

origin : Point
origin = record { x = pos 0; y = pos 0 }

pub turns_compose : TurnsCompose
turns_compose g mirror t u a b =
    let at = composes g mirror t u a b in
    (composed (turn_count g false) t u, (at origin).0, λ p. same_point _ _ (at p).1 (at p).2)

-- the number of the turn that undoes the turn t, if the first n turns are the rotations
abbrev undone : ℕ → ℕ → ℕ
undone n t = if nat_lt t n then (n - t) % n else t

abbrev Undoes : Grid → Bool → Point → ℕ → Type 0
Undoes g mirror p t =
    let q = turned_of g (undone (turn_count g false) t) (turned_of g t p) in
    (undone (turn_count g false) t < turn_count g mirror) × (q.x ≡ p.x) × (q.y ≡ p.y)

each_undone : (g : Grid) (mirror : Bool) (p : Point) → EachBelow (Undoes g mirror p) (turn_count g mirror)
each_undone Square true p = search (arith, ints)
each_undone Square false p = search (arith, ints)
each_undone Hex true p = search (arith, ints)
each_undone Hex false p = search (arith, ints)

undoes : (g : Grid) (mirror : Bool) (t : ℕ) → t < turn_count g mirror → (p : Point) → Undoes g mirror p t
undoes g mirror t lt p = at_below (Undoes g mirror p) (turn_count g mirror) (each_undone g mirror p) t lt

pub first_turn_stays : FirstTurnStays
first_turn_stays Square p = refl
first_turn_stays Hex p = refl

pub turns_are_undone : TurnsAreUndone
turns_are_undone Square mirror t lt = let at = undoes Square mirror t lt in (undone 4 t, (at origin).0, λ p. same_point _ _ (at p).1 (at p).2)
turns_are_undone Hex mirror t lt = let at = undoes Hex mirror t lt in (undone 6 t, (at origin).0, λ p. same_point _ _ (at p).1 (at p).2)

-- if the turns t and u take (1, 2) to the same point, they are the same turn
abbrev AreTold : Grid → ℕ → ℕ → Type 0
AreTold g t u =
    let p = turned_of g t (record { x = pos 1; y = pos 2 }) in
    let q = turned_of g u (record { x = pos 1; y = pos 2 }) in
    p.x ≡ q.x → p.y ≡ q.y → t ≡ u

each_told : (g : Grid) → EachBelow (λ t. EachBelow (AreTold g t) (turn_count g true)) (turn_count g true)
each_told Square = search (arith, ints)
each_told Hex = search (arith, ints)

pub turns_differ : TurnsDiffer
turns_differ g t u a b same =
    let e = same (record { x = pos 1; y = pos 2 }) in
    at_both_below (AreTold g) (turn_count g true) (turn_count g true) (each_told g) t u a b (ap (λ (p : Point). p.x) e) (ap (λ (p : Point). p.y) e)

abbrev Powers : Grid → Point → ℕ → Type 0
Powers g p t = Makes g p (turn_count g false) t 1 ((t + 1) % turn_count g false)

each_power : (g : Grid) (p : Point) → EachBelow (Powers g p) (turn_count g false)
each_power Square p = search (arith, ints)
each_power Hex p = search (arith, ints)

pub rotations_are_powers : RotationsArePowers
rotations_are_powers g t lt p =
    let at = at_below (Powers g p) (turn_count g false) (each_power g p) t lt in
    same_point _ _ at.1 at.2

abbrev Follows : Grid → Point → ℕ → Type 0
Follows g p t = Makes g p (turn_count g true) (turn_count g false) t (turn_count g false + t)

each_follows : (g : Grid) (p : Point) → EachBelow (Follows g p) (turn_count g false)
each_follows Square p = search (arith, ints)
each_follows Hex p = search (arith, ints)

pub reflections_follow : ReflectionsFollow
reflections_follow g t lt p =
    let at = at_below (Follows g p) (turn_count g false) (each_follows g p) t lt in
    same_point _ _ at.1 at.2
