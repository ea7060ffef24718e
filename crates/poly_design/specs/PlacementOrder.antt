-- The order of placements: by name, then by cells.
use Rattle.std.specs.declared.cmp.Ordering.{Ordering}
use Rattle.std.specs.Ordering.{on, then_cmp}
use Rattle.std.specs.Cmp.{IsTotalOrder, then_total, on_total}
use Rattle.std.specs.Cmp.Lexicographic.{nat_list_cmp_total}
use Rattle.poly_shape.specs.Order.{cells_cmp, cells_total}
use Rattle.poly_design.specs.Name.{name_cmp}
use Rattle.poly_design.specs.declared.placement.Placement.{Placement}

abbrev pub placement_cmp : Placement → Placement → Ordering
placement_cmp = then_cmp (on (λ p. p.name) name_cmp) (on (λ p. p.cells) cells_cmp)

pub placement_total : IsTotalOrder placement_cmp
placement_total = then_total (on_total (λ p. p.name) nat_list_cmp_total) (on_total (λ p. p.cells) cells_total)
