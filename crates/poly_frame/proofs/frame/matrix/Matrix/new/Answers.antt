use Rattle.std.proofs.Common.{List, ap, arith, length, ltb, subst, sym, true, ℕ, ◌∙◌, ◌≡◌}
use Rattle.std.specs.List.{list_all}
use Rattle.std.specs.Arc.{arc_value}
use Rattle.std.proofs.lemmas.Result.{IfOk-weaker}
use Rattle.poly_tiling.specs.Lists.{distinct, mem}
use Rattle.poly_tiling.proofs.Orders.{live_once}
use Rattle.poly_frame.specs.Matrices.{IsMatrix, IsWhole, ListsShow}
use Rattle.poly_frame.proofs.FrameOpen.{above_at}
use Rattle.poly_frame.proofs.Matrices.{homes_all}
use Rattle.poly_frame.proofs.frame.matrix.Matrix.new.Goals as goal

pub with_columns-requires-clause-well : goal.with_columns-requires-clause-well
with_columns-requires-clause-well c = c.live.ensures.well

pub with_columns-requires-clause-once : goal.with_columns-requires-clause-once
with_columns-requires-clause-once c = ap distinct (c.in_ok-numbers.ensures.items ∙ c.live.ensures.value) ∙ live_once c.args.view.now c.live.ensures.well

pub with_columns-requires-clause-above : goal.with_columns-requires-clause-above
with_columns-requires-clause-above c = λ j h.
    above_at c.in_ok-numbers.numbers.items c.size_for-size.result j (subst (λ (xs : List ℕ). list_all (λ p. ltb p c.size_for-size.result) xs ≡ true) c.deref-3.ensures.value c.size_for-size.ensures.above) h

pub with_columns-requires-clause-fewer : goal.with_columns-requires-clause-fewer
with_columns-requires-clause-fewer c = omega (arith, ap length (c.in_ok-numbers.ensures.items ∙ c.live.ensures.value))

pub with_columns-requires-clause-live : goal.with_columns-requires-clause-live
with_columns-requires-clause-live c = λ q m. sym (ap (λ xs. mem xs q) (c.in_ok-numbers.ensures.items ∙ c.live.ensures.value)) ∙ m

pub with_columns-requires-clause-lists : goal.with_columns-requires-clause-lists
with_columns-requires-clause-lists c =
    let v = c.args.view.now in
    let ns = c.in_ok-numbers.numbers.items in
    let l = arc_value c.in_ok-lists.lists in
    homes_all v ns c.in_ok-homes.homes.items l.starts.items l.indices.items (subst (λ (xs : List ℕ). ListsShow v xs l) c.deref-2.ensures.value c.in_ok-lists.ensures.value) (c.in_ok-homes.ensures.len ∙ c.len.ensures ∙ c.in_ok-numbers.numbers.ok.0)
    (λ j h. c.in_ok-homes.ensures.each j (omega (arith, h, c.len.ensures, c.in_ok-numbers.numbers.ok.0)))

pub returns-clause-made : goal.returns-clause-made
returns-clause-made c =
    let v = c.args.view.now in
    IfOk-weaker c.with_columns.result (λ m. IsMatrix v m × (m.numbers.items ≡ c.in_ok-numbers.numbers.items)) (λ m. IsWhole v m)
    (λ m h. record { part = h.0; all = h.1 ∙ c.in_ok-numbers.ensures.items ∙ c.live.ensures.value }) c.with_columns.ensures.made
