use Rattle.std.specs.List.{Contains}
use Rattle.std.specs.Map.{keys_of}
use Rattle.poly_design.specs.Placements.{IsPlace, IsPlacement}
use Rattle.poly_design.specs.Layout.{Layout}
use Rattle.std.proofs.Common.{◌≡◌, sym}
use Rattle.poly_design.proofs.Rows.{listed_ok, placement_of_exactly}
use Rattle.poly_design.proofs.design.Design.places_of.Goals as goal

pub returns-clause-ok : goal.returns-clause-ok
returns-clause-ok c =
    let d : Layout = record { grid = c.self.inside.grid; cells = c.self.inside.cells.entries; pieces = c.self.inside.pieces.entries } in
    rw (← c.self.view_is) (listed_ok (λ p. (p.name ≡ c.args.name) × IsPlace (Contains (keys_of d.cells)) c.in-Some.spec.now p.cells) (λ p. IsPlacement d p × (p.name ≡ c.args.name)) c.placements_of.result c.placements_of.ensures.ok
    (placement_of_exactly d c.args.name c.in-Some.spec.now c.self.invariant.design.unblocked c.self.invariant.design.pieces_ascend (sym c.in-Some.ensures.value)))
