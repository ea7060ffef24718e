use Rattle.std.proofs.Common.{List, ap, filter, map, not, ◌∙◌, ℕ}
use Rattle.std.specs.List.{filter_map, list_all}
use Rattle.std.specs.Prelude.{nat_lt}
use Rattle.poly_tiling.specs.Lists.{mem}
use Rattle.poly_tiling.specs.Names.{items_ascend}
use Rattle.poly_tiling.specs.Puzzle.{bound_in}
use Rattle.poly_place.specs.Falls.{falls}
use Rattle.poly_place.proofs.delta.differences.Goals as goal

pub without-requires : goal.without-requires
without-requires c = ap (λ (l : List ℕ). list_all (λ n. nat_lt n c.args.count) l) c.deref-2.ensures.value ∙ c.requires.live_after

pub without-requires-2 : goal.without-requires-2
without-requires-2 c = ap (λ (l : List ℕ). list_all (λ n. nat_lt n c.args.count) l) c.deref-4.ensures.value ∙ c.requires.live_before

pub risen-requires : goal.risen-requires
risen-requires c = ap items_ascend c.deref-5.ensures.value ∙ c.requires.items_before

pub risen-requires-2 : goal.risen-requires-2
risen-requires-2 c = ap items_ascend c.deref-7.ensures.value ∙ c.requires.items_after

pub fallen-requires : goal.fallen-requires
fallen-requires c = ap items_ascend c.deref-10.ensures.value ∙ c.requires.items_after

pub fallen-requires-2 : goal.fallen-requires-2
fallen-requires-2 c = ap items_ascend c.deref-12.ensures.value ∙ c.requires.items_before

pub without-requires-3 : goal.without-requires-3
without-requires-3 c = ap (λ (l : List ℕ). list_all (λ n. nat_lt n c.args.count) l) c.deref-14.ensures.value ∙ c.requires.pins_before

pub without-requires-4 : goal.without-requires-4
without-requires-4 c = ap (λ (l : List ℕ). list_all (λ n. nat_lt n c.args.count) l) c.deref-16.ensures.value ∙ c.requires.pins_after

pub returns-clause-ok : goal.returns-clause-ok
returns-clause-ok c = record {
  gone = c.in_ok-gone.ensures.ok ∙ (λ i. filter (λ n. not (mem (c.deref-2.ensures.value i) n)) (c.deref.ensures.value i));
  fresh = c.in_ok-fresh.ensures.ok ∙ (λ i. filter (λ n. not (mem (c.deref-4.ensures.value i) n)) (c.deref-3.ensures.value i));
  needed = c.in_ok-needed.ensures ∙ (λ i. map (λ b. b.item) (filter (λ b. nat_lt (bound_in (c.deref-5.ensures.value i) b.item (λ d. d.least)) b.least) (c.deref-6.ensures.value i)));
  unneeded = c.in_ok-unneeded.ensures ∙ (λ i. map (λ b. b.item) (filter (λ b. nat_lt (bound_in (c.deref-7.ensures.value i) b.item (λ d. d.least)) b.least) (c.deref-8.ensures.value i)));
  narrowed = c.in_ok-narrowed.ensures ∙ (λ i. filter_map (falls (c.deref-10.ensures.value i)) (c.deref-9.ensures.value i));
  widened = c.in_ok-widened.ensures ∙ (λ i. filter_map (falls (c.deref-12.ensures.value i)) (c.deref-11.ensures.value i));
  pinned = c.in_ok-pinned.ensures.ok ∙ (λ i. filter (λ n. not (mem (c.deref-14.ensures.value i) n)) (c.deref-13.ensures.value i));
  unpinned = c.in_ok-unpinned.ensures.ok ∙ (λ i. filter (λ n. not (mem (c.deref-16.ensures.value i) n)) (c.deref-15.ensures.value i));
}
