use Rattle.std.proofs.Common.{Bool, None, Some, ap, length, nat_eq, subst, sym, ◌&&◌, ◌∙◌, ◌≡◌}
use Rattle.std.proofs.lemmas.Bool.{both_ways}
use Rattle.std.specs.Cmp.Lexicographic.{pointwise}
use Rattle.std.specs.List.{position}
use Rattle.poly_shape.specs.Order.{spot_eq}
use Rattle.poly_design.specs.declared.placement.Placement.{Placement}
use Rattle.poly_design.proofs.Same.{placement_itself, placement_same}
use Rattle.poly_tiling.specs.Shows.{HasNumber}
use Rattle.poly_tiling.proofs.Plain.{found_number, new_number, position_at, position_none}
use Rattle.poly_tiling.proofs.numbering.number_of.Goals as goal

is_same : Placement → Placement → Bool
is_same p q = pointwise nat_eq q.name p.name && pointwise spot_eq q.cells p.cells

pub returns-in-Some-clause-ok : goal.returns-in-Some-clause-ok
unfolding is_same
returns-in-Some-clause-ok c =
    let p = c.args.placement in
    let old = c.args.placements.now.items in
    let found : position (is_same p) old ≡ Some c.in-Some.at = ap (λ l. position (is_same p) l) (sym c.deref.ensures.value) ∙ sym c.in-Some.ensures in
    found_number p old c.in-Some.at c.requires.apart (position_at (is_same p) old c.in-Some.at p found (λ q h. placement_same q p h))

pub returns-clause-ok : goal.returns-clause-ok
unfolding is_same
returns-clause-ok c =
    let p = c.args.placement in
    let old = c.args.placements.now.items in
    let missing : position (is_same p) old ≡ None = ap (λ l. position (is_same p) l) (sym c.deref.ensures.value) ∙ sym c.index_of.ensures ∙ c.in_default.is in
    let long : length old ≡ c.len-at.result = ap length (sym c.deref.ensures.value) ∙ c.deref.ensures.len ∙ sym c.len-at.ensures in
    subst (λ n. HasNumber p old c.push.new.self.items n) long
    (new_number p old c.push.new.self.items c.requires.apart
    (λ q i same. both_ways (is_same p q) (position_none (is_same p) old missing q i) (placement_itself q p same))
    c.in_ok-push.ensures.items)
