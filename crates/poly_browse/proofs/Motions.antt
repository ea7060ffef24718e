-- Motions one after another, and back.
use Rattle.std.proofs.Common.{◌≡◌, pos, neg_ℤ, ◌<◌, true, ap, sym, ◌∙◌, arith}
use Rattle.std.proofs.lemmas.Int.{ints}
use Rattle.poly_grid.specs.declared.grid.Grid.{Grid}
use Rattle.poly_grid.specs.declared.grid.Point.{Point}
use Rattle.poly_grid.specs.Spot.{Spot}
use Rattle.poly_grid.specs.Grid.{turn_count, turned_of}
use Rattle.poly_grid.proofs.Points.{same_point}
use Rattle.poly_grid.proofs.Turns.{first_turn_stays, turns_are_undone, turns_compose}
use Rattle.poly_shape.specs.Shape.{point_of}
use Rattle.poly_shape.proofs.Ascending.{same_places}
use Rattle.poly_shape.proofs.Orbits.{lies_after, lies_back, shifted}
use Rattle.poly_shape.proofs.Turns.{one_to_one}
use Rattle.poly_browse.specs.declared.motion.Motion.{Motion}
use Rattle.poly_browse.specs.Symmetries.{Takes}

-- the motion that leaves each cell where it is
pub still : Motion
still = record { turn = 0; shift = record { x = pos 0; y = pos 0 } }

pub still_known : (g : Grid) → still.turn < turn_count g true
unfolding still
still_known g = some g
  where
    some : (g : Grid) → 0 < turn_count g true
    some g = search arith

pub still_takes : (g : Grid) (a : Spot) → Takes g still a a
unfolding still
still_takes g a = first_turn_stays g (point_of a) ∙ same_point _ _ (omega (arith, ints)) (omega (arith, ints))

-- the first motion, followed by the second, is the motion `both`
pub record AreAfter (g : Grid) (first second both : Motion) : Type 0 where
  pub known : both.turn < turn_count g true
  pub takes : (a b c : Spot) → Takes g first a b → Takes g second b c → Takes g both a c

pub after : (g : Grid) (first second : Motion) → first.turn < turn_count g true → second.turn < turn_count g true → (both : Motion) × AreAfter g first second both
after g first second l m =
    let t = turns_compose g true first.turn second.turn l m in (
      record { turn = t.0; shift = shifted second.shift (turned_of g second.turn first.shift) },
      record { known = t.1; takes = λ a b c ab bc. lies_after g first.turn second.turn t.0 t.2 first.shift second.shift a b c ab bc },
    )

-- the motion `back` undoes the motion
pub record Undoes (g : Grid) (m back : Motion) : Type 0 where
  pub known : back.turn < turn_count g true
  pub takes : (a b : Spot) → Takes g m a b → Takes g back b a

pub undone : (g : Grid) (m : Motion) → m.turn < turn_count g true → (back : Motion) × Undoes g m back
undone g m l =
    let u = turns_are_undone g true m.turn l in (
      record { turn = u.0; shift = record { x = neg_ℤ (turned_of g u.0 m.shift).x; y = neg_ℤ (turned_of g u.0 m.shift).y } },
      record { known = u.1; takes = λ a b ab. lies_back g m.turn u.0 u.2 m.shift a b ab },
    )

-- a cell is taken to only one cell
pub one_image : (g : Grid) (m : Motion) (a b c : Spot) → Takes g m a b → Takes g m a c → b ≡ c
one_image g m a b c ab ac =
    let ex = ap (λ (p : Point). p.x) (sym ab ∙ ac) in
    let ey = ap (λ (p : Point). p.y) (sym ab ∙ ac) in
    same_places b c (omega (arith, ints, ex)) (omega (arith, ints, ey))

-- two cells that are taken to the same cell are equal
pub one_source : (g : Grid) (m : Motion) → m.turn < turn_count g true → (a b c : Spot) → Takes g m a c → Takes g m b c → a ≡ b
one_source g m l a b c ac bc =
    let e = one_to_one g m.turn l (point_of a) (point_of b) (ac ∙ sym bc) in
    let ex = ap (λ (p : Point). p.x) e in
    let ey = ap (λ (p : Point). p.y) e in
    same_places a b (omega (arith, ints, ex)) (omega (arith, ints, ey))

-- two motions with the same turn that take a cell to the same cell are equal
pub one_motion : (g : Grid) (m k : Motion) (a b : Spot) → m.turn ≡ k.turn → Takes g m a b → Takes g k a b → m ≡ k
one_motion g m k a b same mab kab =
    let e = sym mab ∙ ap (λ t. turned_of g t (point_of a)) same ∙ kab in
    let ex = ap (λ (p : Point). p.x) e in
    let ey = ap (λ (p : Point). p.y) e in
    let shifts = same_point m.shift k.shift (omega (arith, ints, ex)) (omega (arith, ints, ey)) in
    λ i. record { turn = same i; shift = shifts i }
