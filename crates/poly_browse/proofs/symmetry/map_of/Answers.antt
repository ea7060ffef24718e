use Rattle.std.proofs.Common.{List, ap, arith, get_or, length, nat_lt, set, slice_index, subst, sym, ◌+◌, ◌<◌, ◌≡◌}
use Rattle.std.proofs.lemmas.Bool.{ltb-true}
use Rattle.std.proofs.lemmas.List.{length-set}
use Rattle.poly_shape.specs.Order.{IsAscending}
use Rattle.poly_design.specs.PlacementOrder.{placement_cmp}
use Rattle.poly_design.specs.declared.placement.Placement.{Placement}
use Rattle.poly_tiling.proofs.Contained.{at_in}
use Rattle.poly_tiling.proofs.Lists.{all_in}
use Rattle.poly_browse.specs.Symmetries.{TakesPlacement}
use Rattle.poly_browse.proofs.Mapped.{IsMapSoFar, live_length, map_all, map_more, names_up}
use Rattle.poly_browse.proofs.symmetry.map_of.Goals as goal

pub bounds-placements-at : goal.bounds-placements-at
bounds-placements-at c = omega (arith, c.loop-at-test.true, ap length c.requires.placements, live_length c.args.view.now c.live-live.ensures.well, ap length c.live-live.ensures.value)

pub offset_bounds-placements-at : goal.offset_bounds-placements-at
offset_bounds-placements-at c =
    let low : c.loop-at.at < length c.args.placements.now = omega (arith, c.loop-at-test.true, ap length c.requires.placements, live_length c.args.view.now c.live-live.ensures.well, ap length c.live-live.ensures.value) in
    omega arith

pub index_of_image-requires-clause-ascend : goal.index_of_image-requires-clause-ascend
index_of_image-requires-clause-ascend c = subst (IsAscending placement_cmp) (sym c.requires.placements) (names_up c.args.view.now c.args.view.now.live c.live-live.ensures.well.live_up)

pub returns-in_default-clause-none : goal.returns-in_default-clause-none
returns-in_default-clause-none c =
    let low : c.loop-at.at < length c.args.placements.now = omega (arith, c.loop-at-test.true, ap length c.requires.placements, live_length c.args.view.now c.live-live.ensures.well, ap length c.live-live.ensures.value) in
    (c.index-placements-at.result, (c.loop-at.at, low, sym c.index-placements-at.is), c.in_default.ensures.none)

pub bounds-live-to : goal.bounds-live-to
bounds-live-to c = omega (arith, c.in-Some.ensures.within, ap length c.requires.placements, live_length c.args.view.now c.live-live.ensures.well, ap length c.live-live.ensures.value)

pub loop-at-preserved : goal.loop-at-preserved
loop-at-preserved c =
    let v = c.args.view.now in
    let L = c.live-live.result.now in
    let at = c.loop-at.at in
    let to = c.in-Some.to in
    let images = c.loop-at.images.items in
    let p = c.index-placements-at.result in
    let value : L ≡ v.live = c.live-live.ensures.value in
    let wn = c.live-live.ensures.well in
    let low : at < length v.live = omega (arith, c.loop-at-test.true, ap length value) in
    let high : to < length v.live = omega (arith, c.in-Some.ensures.within, ap length c.requires.placements, live_length v wn) in
    let given : slice_index v.live at < length v.placements = ltb-true (slice_index v.live at) (length v.placements) (all_in (λ n. nat_lt n (length v.placements)) v.live wn.named (slice_index v.live at) (at_in v.live at 0 low)) in
    let room : slice_index v.live at < length images = omega (arith, given, c.loop-at.invariant.whole, c.in_ok-images.ensures.len, c.number_count.ensures) in
    record {
      whole = omega (arith, length-set images (slice_index L at) (slice_index L to), c.loop-at.invariant.whole);
      mapped = subst (λ l. IsMapSoFar v c.args.grid c.args.motion (set images (slice_index l at) (slice_index l to)) (at + 1)) (sym value)
          (map_more v c.args.grid c.args.motion images at to p wn low high room
          (subst (λ (l : List Placement). p ≡ get_or l at p) c.requires.placements c.index-placements-at.is)
          (subst (λ (l : List Placement). TakesPlacement c.args.grid c.args.motion p (get_or l to p)) c.requires.placements c.in-Some.ensures.some)
          c.loop-at.invariant.mapped);
    }

pub returns-clause-some : goal.returns-clause-some
returns-clause-some c =
    let v = c.args.view.now in
    let end : c.loop-at.at ≡ length v.live = omega (arith, ap length c.live-live.ensures.value) in
    map_all v c.args.grid c.args.motion c.loop-at.images.items (subst (IsMapSoFar v c.args.grid c.args.motion c.loop-at.images.items) end c.loop-at.invariant.mapped)
