-- The pin of one piece.
use Rattle.std.specs.Prelude.{ℕ, List, option_to_list}
use Rattle.std.specs.Option.{option_map}
use Rattle.poly_design.specs.declared.placement.Placement.{Placement}
use Rattle.poly_design.specs.declared.spec.Spec.{Spec}

-- the placement that the piece is pinned to, if there is one
abbrev pub pin_list : List ℕ × Spec → List Placement
pin_list e = option_to_list (option_map (λ k. record { name = e.0; cells = k }) e.1.pin)
