-- A list of placements that begins with those of its blocks still does so when it gets more of them.
use Rattle.std.proofs.Common.{List, length, ◌++◌, ◌∙◌}
use Rattle.std.proofs.lemmas.List.{take-append-le}
use Rattle.poly_design.specs.declared.placement.Placement.{Placement}
use Rattle.poly_tiling.specs.Blocks.{Begins}
use Rattle.poly_tiling.proofs.Blocked.{begins_fits}

pub begins_on : (first all more : List Placement) → Begins first all → Begins first (all ++ more)
begins_on first all more h = take-append-le (length first) all more (begins_fits first all h) ∙ h
