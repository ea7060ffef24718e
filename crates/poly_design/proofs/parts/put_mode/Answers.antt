use Rattle.std.proofs.Common.{List, arith, subst, sym}
use Rattle.std.specs.List.{All}
use Rattle.std.specs.Map.{keys_of}
use Rattle.std.specs.BTreeMap.{is_at}
use Rattle.std.proofs.lemmas.Map.Views.{All-keys-insert_entry, All-map-remove_entry}
use Rattle.poly_grid.specs.Spot.{Spot}
use Rattle.poly_shape.specs.Order.{spot_cmp}
use Rattle.poly_design.specs.Limits.{IsInRange}
use Rattle.poly_design.specs.declared.mode.Mode.{Mode}
use Rattle.poly_design.specs.declared.mode.Mode.TheVariants.{Required, Optional}
use Rattle.poly_design.proofs.parts.put_mode.Goals as goal

pub returns-in_ok-insert-in-Required-clause-in_range : goal.returns-in_ok-insert-in-Required-clause-in_range
returns-in_ok-insert-in-Required-clause-in_range c = λ all.
    let small : IsInRange c.args.cell = (omega (arith, c.x.ensures.value, c.x.ensures.small), omega (arith, c.y.ensures.value, c.y.ensures.small)) in
    subst (λ (es : List (Spot × Mode)). All IsInRange (keys_of es)) (sym c.in_ok-insert-in-Required.ensures.entries)
    (All-keys-insert_entry spot_cmp c.args.cell Required IsInRange c.args.cells.now.entries all small)

pub returns-in_ok-insert-in-Optional-clause-in_range : goal.returns-in_ok-insert-in-Optional-clause-in_range
returns-in_ok-insert-in-Optional-clause-in_range c = λ all.
    let small : IsInRange c.args.cell = (omega (arith, c.x.ensures.value, c.x.ensures.small), omega (arith, c.y.ensures.value, c.y.ensures.small)) in
    subst (λ (es : List (Spot × Mode)). All IsInRange (keys_of es)) (sym c.in_ok-insert-in-Optional.ensures.entries)
    (All-keys-insert_entry spot_cmp c.args.cell Optional IsInRange c.args.cells.now.entries all small)

pub returns-in-Blocked-clause-in_range : goal.returns-in-Blocked-clause-in_range
returns-in-Blocked-clause-in_range c = λ all.
    subst (λ (es : List (Spot × Mode)). All IsInRange (keys_of es)) (sym c.remove.ensures.entries)
    (All-map-remove_entry (is_at (spot_cmp c.args.cell)) (λ e. e.0) IsInRange c.args.cells.now.entries all)
