use Rattle.std.proofs.Common.{[], ap, arith, get_or, length, map, rules, subst, sym, ◌<◌, ◌∙◌, ◌≡◌}
use Rattle.std.proofs.lemmas.Cmp.{nat_cmp_total, nat_list_cmp_total}
use Rattle.std.proofs.lemmas.Fn.{always_returns_same}
use Rattle.std.proofs.lemmas.List.{get_or-map}
use Rattle.std.proofs.lemmas.List.MinMax.{ranks_by}
use Rattle.std.proofs.lemmas.List.Sorted.{All-permutation, IsPermutation-map}
use Rattle.std.specs.Cmp.{on_total, then_total}
use Rattle.std.specs.Cmp.Lexicographic.{slice_cmp}
use Rattle.std.specs.List.Sorted.{IsPermutation}
use Rattle.std.specs.Ordering.{is_lt, nat_cmp, ordering_then}
use Rattle.poly_tiling.specs.declared.order.Key.{Key}
use Rattle.poly_tiling.specs.TilingOrder.{ranks_from}
use Rattle.poly_tiling.specs.Leading.{AreDigits, leading, tiling_at}
use Rattle.poly_tiling.proofs.Digits.{keys_sorted, row_digits}
use Rattle.poly_tiling.proofs.Positions.{sorted_by_ranks}
use Rattle.poly_tiling.proofs.order.order_of.Goals as goal

pub keys_of-requires-clause-digits : goal.keys_of-requires-clause-digits
keys_of-requires-clause-digits c =
    λ i. subst (λ rows. AreDigits c.rank_base-base.result (get_or rows i [])) (sym c.in_ok-ranks.ensures.ok) (row_digits c.rank_base-base.result c.args.view.now.live c.args.tilings.now c.rank_base-base.ensures i)

pub returns-clause-within : goal.returns-clause-within
returns-clause-within c = All-permutation (λ (k : Key). k.index < length c.args.tilings.now) c.in_ok-keys.keys.items c.sort_unstable_by.new.self.items c.sort_unstable_by.ensures.permutation c.in_ok-keys.ensures.within

pub returns-clause-permutation : goal.returns-clause-permutation
returns-clause-permutation c =
    let sorted = c.sort_unstable_by.new.self.items in
    subst (λ l. IsPermutation l (map (λ (k : Key). tiling_at c.args.tilings.now k.index) sorted)) c.in_ok-keys.ensures.each
    (IsPermutation-map (λ (k : Key). tiling_at c.args.tilings.now k.index) c.in_ok-keys.keys.items sorted c.sort_unstable_by.ensures.permutation)

pub returns-clause-ascends : goal.returns-clause-ascends
returns-clause-ascends c =
    let v = c.args.view.now in
    let tilings = c.args.tilings.now in
    let rows = c.in_ok-ranks.ranks in
    let keys = c.in_ok-keys.keys.items in
    let sorted = c.sort_unstable_by.new.self.items in
    let moved = c.sort_unstable_by.ensures.permutation in
    let within = All-permutation (λ (k : Key). k.index < length tilings) keys sorted moved c.in_ok-keys.ensures.within in
    let leads = All-permutation (λ (k : Key). k.leading ≡ leading c.rank_base-base.result (get_or rows k.index []) c.digit_count.result) keys sorted moved c.in_ok-keys.ensures.leading in
    sorted_by_ranks v (λ (k : Key). tiling_at tilings k.index) (λ (k : Key). get_or rows k.index []) sorted c.in_ok-positions.ensures.well
    (λ k d l. ap (λ r. get_or r (get_or sorted k d).index []) c.in_ok-ranks.ensures.ok ∙ get_or-map (ranks_from 0 v.live) tilings (get_or sorted k d).index [] [] (within k d l))
    (keys_sorted c.rank_base-base.result c.digit_count.result (λ (k : Key). k.leading) (λ (k : Key). get_or rows k.index []) sorted (omega (arith, c.rank_base-base.ensures))
    (λ (k : Key). subst (λ rs. AreDigits c.rank_base-base.result (get_or rs k.index [])) (sym c.in_ok-ranks.ensures.ok) (row_digits c.rank_base-base.result v.live tilings c.rank_base-base.ensures k.index)) leads
    (c.sort_unstable_by.ensures.sorted (λ (x y : Key). is_lt (ordering_then (nat_cmp x.leading y.leading) (slice_cmp nat_cmp (get_or rows x.index []) (get_or rows y.index []))))
    (ranks_by (then_total (on_total (λ (k : Key). k.leading) nat_cmp_total) (on_total (λ (k : Key). get_or rows k.index []) nat_list_cmp_total)) (λ (k : Key). k)) (always_returns_same _ _ _ (λ a r f h. (search rules, search rules)))))
