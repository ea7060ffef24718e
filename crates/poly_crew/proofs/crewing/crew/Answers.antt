use Rattle.std.proofs.Common.{◌≡◌, Err, List, inl, inr, length, map, ap, arith, refl, sym, ◌∙◌}
use Rattle.std.proofs.lemmas.List.{length-map}
use Rattle.std.proofs.lemmas.List.Sums.{sum_by-le}
use Rattle.poly_crew.specs.Worked.{first_of}
use Rattle.poly_crew.specs.declared.worker.Worker.{Worker}
use Rattle.poly_crew.proofs.Workers.{added_none, all_ended, all_there, changes_stay, cuts_grow, receipts_few, receipts_given}
use Rattle.poly_crew.proofs.crewing.crew.Goals as goal

pub returns-in-Err-clause-cuts : goal.returns-in-Err-clause-cuts
returns-in-Err-clause-cuts g c = rw c.new.ensures.items (added_none _)

pub applied_by-applied-requires-clause-small : goal.applied_by-applied-requires-clause-small
applied_by-applied-requires-clause-small g c =
    let few = receipts_few g.B.Bench.changes g.B.Bench.cuts g.B.Bench.gave g.B.Bench.found_none g.B.Bench.refused c.args.turns _ _ c.seat_all.ensures.receipts c.run_all.ensures in
    rw c.deref.ensures.value (λ k d below. let most = few k d below in omega arith)

pub returns-clause-changes : goal.returns-clause-changes
returns-clause-changes g c =
    let stay = changes_stay g.B.Bench.changes g.B.Bench.cuts g.B.Bench.gave g.B.Bench.found_none g.B.Bench.refused c.args.turns _ _ c.run_all.ensures in
    rw (c.take_apart.ensures.passes, stay, c.seat_all.ensures.passes)

pub returns-clause-cuts : goal.returns-clause-cuts
returns-clause-cuts g c =
    let grow = cuts_grow g.B.Bench.changes g.B.Bench.cuts g.B.Bench.gave g.B.Bench.found_none g.B.Bench.refused c.args.turns _ _ c.seat_all.ensures.receipts c.run_all.ensures in
    rw (c.take_apart.ensures.passes, c.take_apart.ensures.receipts, grow, c.seat_all.ensures.passes)

pub returns-clause-few : goal.returns-clause-few
returns-clause-few g c =
    let few = receipts_few g.B.Bench.changes g.B.Bench.cuts g.B.Bench.gave g.B.Bench.found_none g.B.Bench.refused c.args.turns _ _ c.seat_all.ensures.receipts c.run_all.ensures in
    let sum = sum_by-le _ c.args.turns c.run_all.new.workers.items few in
    let same = all_there g.B.Bench.changes g.B.Bench.cuts g.B.Bench.gave g.B.Bench.found_none g.B.Bench.refused c.args.turns _ _ c.run_all.ensures in
    let seated : length c.seat_all.new.workers.items ≡ length c.args.passes.items = sym (length-map c.seat_all.new.workers.items (λ (w : Worker g.row.B-Pass.Denot). w.pass)) ∙ ap length c.seat_all.ensures.passes in
    let count : length c.run_all.new.workers.items ≡ length c.args.passes.items = same ∙ seated in
    rw (c.applied_by-applied.ensures, c.deref.ensures.value, ← count) sum

pub returns-in-Err-clause-leaves : goal.returns-in-Err-clause-leaves
returns-in-Err-clause-leaves g c = inl (ap Err c.in-Err.ensures.why, c.new.ensures.items, refl)

pub returns-clause-leaves : goal.returns-clause-leaves
returns-clause-leaves g c =
    let given = receipts_given g.B.Bench.changes g.B.Bench.cuts g.B.Bench.gave g.B.Bench.found_none g.B.Bench.refused c.args.turns _ _ c.seat_all.ensures.receipts c.run_all.ensures in
    let ended = all_ended g.B.Bench.changes g.B.Bench.cuts g.B.Bench.gave g.B.Bench.found_none g.B.Bench.refused c.args.turns _ _ c.run_all.ensures in
    rw (c.take_apart.ensures.passes, c.take_apart.ensures.receipts) (inr (record {
      ends = map (λ (w : Worker g.row.B-Pass.Denot). w.end) c.run_all.new.workers.items;
      each = ended;
      first = c.first_refusal-end.ensures ∙ ap (λ (ws : List (Worker g.row.B-Pass.Denot)). first_of (map (λ w. w.end) ws)) c.deref-2.ensures.value;
      receipts = given;
    }))
