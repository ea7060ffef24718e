use Rattle.std.proofs.Common.{List, ap, arith, get_or, length, refl, ◌<◌, ◌≤◌, ◌∙◌, ◌≡◌, ℕ}
use Rattle.std.specs.Prelude.{nat_lt}
use Rattle.std.proofs.lemmas.Bool.{ltb-true}
use Rattle.poly_tiling.proofs.Contained.{get_in}
use Rattle.poly_tiling.proofs.Lists.{all_in}
use Rattle.poly_catalogue.specs.Rows.{at, row, span}
use Rattle.poly_catalogue.proofs.Agreed.{part_once}
use Rattle.poly_catalogue.proofs.Left.{entered_all, entered_more, span_next, span_part}
use Rattle.poly_catalogue.proofs.Swaps.{row_short}
use Rattle.poly_catalogue.proofs.Written.{is_there, read_some, row_read, some_low}
use Rattle.poly_catalogue.proofs.entries.add_entries.Goals as goal

pub loop-nth-init : goal.loop-nth-init
loop-nth-init c = record { even = refl; wide = λ a. refl; agree = c.requires.agree }

pub add_entry-requires-clause-room : goal.add_entry-requires-clause-room
add_entry-requires-clause-room c =
    let bs : List (List ℕ) = c.loop-nth.positions in
    let is : c.numbers-nth-end.result.now ≡ row c.args.tilings.now c.args.tiling = c.numbers-nth-end.ensures.value ∙ row_read c.args.tilings.now c.args.tiling c.index-tilings-tiling.result c.requires.there c.index-tilings-tiling.is in
    let low : c.loop-nth.nth < length (row bs c.args.tiling) = omega (arith, ap length is, c.loop-nth-test.true, c.requires.room, c.loop-nth.invariant.wide c.args.tiling) in
    is_there (at bs c.args.tiling c.loop-nth.nth) (get_or (row bs c.args.tiling) c.loop-nth.nth 0) (read_some bs c.args.tiling c.loop-nth.nth low)

pub add_entry-requires-clause-there : goal.add_entry-requires-clause-there
add_entry-requires-clause-there c =
    λ p h.
    let low : p < length c.args.rows.now = ltb-true p (length c.args.rows.now) (all_in (λ q. nat_lt q (length c.args.rows.now)) (row c.args.tilings.now c.args.tiling) c.requires.rows p (get_in (row c.args.tilings.now c.args.tiling) c.loop-nth.nth p h)) in
    omega arith

pub add_entry-requires-clause-short : goal.add_entry-requires-clause-short
add_entry-requires-clause-short c =
    λ p.
    let ts : List (List ℕ) = c.args.tilings.now in
    let part = span_part (at ts) c.args.tiling 0 c.loop-nth.nth in
    let short : length (row c.loop-nth.rows p) ≤ length ts = row_short (span (at ts) c.args.tiling 0 c.loop-nth.nth) (at c.loop-nth.positions) c.loop-nth.rows (length ts) p c.loop-nth.invariant.agree
    (part_once (span (at ts) c.args.tiling 0 c.loop-nth.nth) (at ts) part c.requires.once) (λ t k q h. (some_low ts t k q (part t k q h)).0) in
    omega arith

pub remove_entries-requires-clause-agree : goal.remove_entries-requires-clause-agree
remove_entries-requires-clause-agree c =
    c.in-Err.ensures.err (span (at c.args.tilings.now) c.args.tiling 0 c.loop-nth.nth) c.loop-nth.invariant.agree (span_next (at c.args.tilings.now) c.args.tiling c.loop-nth.nth)

pub loop-nth-preserved : goal.loop-nth-preserved
loop-nth-preserved c =
    let ts = c.args.tilings.now in
    let t = c.args.tiling in
    let n = c.loop-nth.nth in
    record {
      even = c.add_entry.ensures.even ∙ c.loop-nth.invariant.even;
      wide = λ a. c.add_entry.ensures.wide a ∙ c.loop-nth.invariant.wide a;
      agree = entered_more (at ts) (at c.add_entry.new.positions) (at c.add_entry.new.rows) t n (c.in_default.ensures.ok (span (at ts) t 0 n) c.loop-nth.invariant.agree (span_next (at ts) t n));
    }

pub returns-clause-ok : goal.returns-clause-ok
returns-clause-ok c =
    let is : c.numbers-nth-end.result.now ≡ row c.args.tilings.now c.args.tiling = c.numbers-nth-end.ensures.value ∙ row_read c.args.tilings.now c.args.tiling c.index-tilings-tiling.result c.requires.there c.index-tilings-tiling.is in
    let long : length c.numbers-nth-end.result.now ≡ length (row c.args.tilings.now c.args.tiling) = ap length is in
    entered_all c.args.tilings.now (at c.loop-nth.positions) (at c.loop-nth.rows) c.args.tiling c.loop-nth.nth (omega arith) c.loop-nth.invariant.agree
