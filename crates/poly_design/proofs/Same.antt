-- Placements that `==` calls equal are equal.
use Rattle.std.proofs.Common.{◌≡◌, Bool, true, false, ◌&&◌, List, [], nat_eq, refl, sym, ap, subst, ◌∙◌}
use mathlib.Core.Bool.{true≢false}
use Rattle.std.specs.Bool.{Decides}
use Rattle.std.specs.Cmp.Lexicographic.{pointwise, lists_equiv, nat_list_eq_equiv, bytes_decides}
use Rattle.std.specs.List.Sorted.{IsPermutation, IsSorted}
use Rattle.std.specs.List.Retain.{IsFiltered, DiffersFromLast}
use Rattle.poly_grid.specs.Spot.{Spot}
use Rattle.poly_shape.specs.Order.{spot_eq, spot_equiv, cells_cmp, cells_total, cells_ties}
use Rattle.poly_design.specs.Listed.{IsListOf, AddsAll}
use Rattle.poly_design.proofs.Sets.{listed_from}
use Rattle.poly_shape.proofs.Flood.{same_from_pointwise}
use Rattle.poly_design.specs.declared.placement.Placement.{Placement}

both_true : (a b : Bool) → (a && b) ≡ true → (a ≡ true) × (b ≡ true)
both_true true b e = (refl, e)
both_true false b e = absurd (true≢false (sym e))

pub placement_same : (a b : Placement) → (pointwise nat_eq a.name b.name && pointwise spot_eq a.cells b.cells) ≡ true → a ≡ b
placement_same a b e =
    let both = both_true _ _ e in
    let names : a.name ≡ b.name = (bytes_decides a.name b.name).0 both.0 in
    let cells : a.cells ≡ b.cells = same_from_pointwise a.cells b.cells both.1 in
    λ i. record { name = names i; cells = cells i }

pub placement_itself : (a b : Placement) → a ≡ b → (pointwise nat_eq a.name b.name && pointwise spot_eq a.cells b.cells) ≡ true
placement_itself a b same = subst (λ (v : Placement). (pointwise nat_eq a.name v.name && pointwise spot_eq a.cells v.cells) ≡ true) same
    (ap (λ t. t && pointwise spot_eq a.cells a.cells) (nat_list_eq_equiv.refl a.name) ∙ (lists_equiv spot_equiv).refl a.cells)

-- sorting sets of cells and dropping repeated ones gives the ascending list of them
pub cells_listed_from : (P : List Spot → Type 0) (xs ys zs : List (List Spot)) → AddsAll P [] xs → IsPermutation xs ys → IsSorted cells_cmp ys → IsFiltered (DiffersFromLast (pointwise spot_eq)) [] ys zs → IsListOf cells_cmp P zs
cells_listed_from P xs ys zs adds moved sorted kept = listed_from cells_total (lists_equiv spot_equiv) cells_ties same_from_pointwise P xs ys zs adds moved sorted kept

-- the test that the derived `==` makes, which holds exactly if the placements are equal
abbrev pub placement_test : Placement → Placement → Bool
placement_test a b = pointwise nat_eq a.name b.name && pointwise spot_eq a.cells b.cells

pub placement_decides : (a b : Placement) → Decides (placement_test a b) (a ≡ b)
placement_decides a b = (placement_same a b, placement_itself a b)
