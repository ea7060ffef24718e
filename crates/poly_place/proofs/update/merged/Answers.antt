use Rattle.std.proofs.Common.{List, ap, get_or, false, slice_get, subst, true, ◌∙◌, ◌++◌, ◌∷◌, [], ℕ, ◌≡◌}
use Rattle.std.proofs.lemmas.List.MinMax.{ranks_by}
use Rattle.std.specs.Cmp.Lexicographic.{options_total}
use Rattle.poly_design.specs.PlacementOrder.{placement_total}
use Rattle.poly_tiling.proofs.Lists.{In}
use Rattle.poly_place.specs.Touched.{comes_before}
use Rattle.poly_place.proofs.Merging.{left_are, merging_begins, merging_ends, merging_goes_on, pairs_right, taken_are}
use Rattle.poly_place.proofs.Numbers.{get_or_any}
use Rattle.poly_place.proofs.update.merged.Goals as goal

pub loop-number-init : goal.loop-number-init
loop-number-init c = merging_begins (comes_before c.args.names.now) c.args.kept.now c.args.fresh.now c.in_ok-live.live.items c.in_ok-live.ensures.items c.requires.kept_up c.requires.fresh_up

pub count_before-requires : goal.count_before-requires
count_before-requires c = pairs_right (λ m n. comes_before c.args.names.now n m ≡ false) c.loop-number.live.items c.loop-number.rest.now c.loop-number.invariant.before_rest

pub loop-number-preserved : goal.loop-number-preserved
loop-number-preserved c =
    let all = c.args.names.now in
    let lt = comes_before all in
    let fresh = c.args.fresh.now in
    let i = c.loop-number.number-index in
    let n = get_or fresh i 0 in
    let rest = c.loop-number.rest.now in
    let live = c.loop-number.live.items in
    let at = c.count_before.result in
    let chunk = c.split_at.result.0.now in
    let after = c.split_at.result.1.now in
    merging_goes_on lt (ranks_by (options_total placement_total) (λ m. slice_get all m)) c.args.kept.now fresh i rest live n chunk after c.push.new.self.items c.loop-number.invariant c.loop-number-test.true
    (get_or_any fresh i 0 n c.loop-number-test.true) c.split_at.ensures.by_index.0
    (λ x h. taken_are (λ m. lt m n ≡ true) rest at c.count_before.ensures.low c.count_before.ensures.split.0 x (subst (λ (l : List ℕ). In x l) c.split_at.ensures.front h))
    (λ y h. left_are (λ m. lt m n ≡ false) rest at c.count_before.ensures.split.1 y (subst (λ (l : List ℕ). In y l) c.split_at.ensures.back h))
    (c.in_ok-push.ensures.items ∙ ap (λ (l : List ℕ). l ++ n ∷ []) c.in_ok-extend_from_slice.ensures.items)

pub returns-clause-same : goal.returns-clause-same
returns-clause-same c =
    (merging_ends (comes_before c.args.names.now) c.args.kept.now c.args.fresh.now c.loop-number.number-index c.loop-number.rest.now c.loop-number.live.items c.extend_from_slice-2.new.self.items c.loop-number.invariant c.loop-number-test.false c.in_ok-extend_from_slice-2.ensures.items).0

pub returns-clause-sorted : goal.returns-clause-sorted
returns-clause-sorted c =
    (merging_ends (comes_before c.args.names.now) c.args.kept.now c.args.fresh.now c.loop-number.number-index c.loop-number.rest.now c.loop-number.live.items c.extend_from_slice-2.new.self.items c.loop-number.invariant c.loop-number-test.false c.in_ok-extend_from_slice-2.ensures.items).1
