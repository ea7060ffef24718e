use Rattle.std.proofs.Common.{ap, get_or, length, slice_get, subst, sym, ◌%◌, ◌/◌, ◌<◌, ◌∙◌, ◌≤◌}
use Rattle.std.proofs.lemmas.Bool.{ltb-false, ltb-true}
use Rattle.poly_tiling.proofs.Blocked.{item_copied, shared_past, shared_read}
use Rattle.poly_tiling.proofs.placement_blocks.PlacementBlocks.get.Goals as goal

pub returns-in-None : goal.returns-in-None
returns-in-None c =
    let n = c.args.index in
    let held = c.self.inside.blocks.items in
    let high : length held ≤ n / 1024 = subst (λ l. length l ≤ n / 1024) c.deref.ensures.value (ltb-false (n / 1024) (length c.deref.result.now) (sym c.in-None.ensures.lookup.0)) in
    sym (ap (λ l. slice_get l n) (sym c.self.view_is) ∙ shared_past held n c.self.invariant.0 high)

pub returns-in-Some : goal.returns-in-Some
returns-in-Some c =
    let n = c.args.index in
    let held = c.self.inside.blocks.items in
    let low : n / 1024 < length held = subst (λ l. n / 1024 < length l) c.deref.ensures.value (ltb-true (n / 1024) (length c.deref.result.now) (sym c.in-Some.ensures.lookup.0)) in
    let is = c.in-Some.ensures.lookup.1 ∙ ap (λ l. get_or l (n / 1024) c.in-Some.block.now) c.deref.ensures.value in
    item_copied c.deref-in-Some-2.result.now (n % 1024) c.get-in-Some.result c.get-in-Some.ensures.lookup
    ∙ ap (λ l. slice_get l (n % 1024)) (c.deref-in-Some-2.ensures.value ∙ ap (λ v. v.items) c.deref-in-Some.ensures)
    ∙ shared_read held n c.in-Some.block.now c.self.invariant.0 low is
    ∙ ap (λ l. slice_get l n) c.self.view_is
