-- A change adds at most 64 pins and removes at most 64.
use Rattle.std.proofs.Common.{List, arith, length, ℕ, ◌≤◌}
use Rattle.poly_shape.proofs.Ascending.{length-part}
use Rattle.poly_design.specs.Layout.{Layout}
use Rattle.poly_design.specs.Limits.{IsDesign}
use Rattle.poly_design.specs.PlacementOrder.{placement_total}
use Rattle.poly_design.specs.declared.placement.Placement.{Placement}
use Rattle.poly_place.specs.Between.{IsChangeOf}
use Rattle.poly_place.specs.Delta.{AreNumbersFor}
use Rattle.poly_place.specs.declared.delta.Delta.{Delta}
use Rattle.poly_place.proofs.Pinned.{few_pins, pins_in, pins_listed}
use Rattle.poly_tiling.specs.Puzzle.{View}
use Rattle.poly_tiling.specs.Shows.{names}
use Rattle.poly_tiling.specs.Tilings.{IsPin}
use Rattle.poly_atom.proofs.Widths.{named_count, placed_list}

few_numbers : (w : View) (d : Layout) (P : Placement → Type 0) (ns : List ℕ) → IsDesign d → AreNumbersFor w P ns → ((p : Placement) → P p → IsPin d p) → length ns ≤ 64
few_numbers w d P ns is are to =
    let l = placed_list w P ns are in
    let all = pins_listed d is.pieces_ascend in
    let shorter = length-part placement_total (names w ns) (pins_in d.pieces) l.ascending all.ascending (λ p h. (all.exact p).1 (to p ((l.exact p).0 h))) in
    let same = named_count w ns are.given_out in
    let few = few_pins d.pieces in
    let most = is.few_pieces in
    omega (arith, shorter, same, few, most)

pub few_unpinned : (v w : View) (x : Delta) → IsChangeOf v w x → length x.unpinned.items ≤ 64
few_unpinned v w x c = few_numbers w c.before _ x.unpinned.items c.first c.delta.unpinned (λ p h. h.0)

pub few_pinned : (v w : View) (x : Delta) → IsChangeOf v w x → length x.pinned.items ≤ 64
few_pinned v w x c = few_numbers w c.after _ x.pinned.items c.second c.delta.pinned (λ p h. h.0)
