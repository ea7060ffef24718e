use Rattle.std.proofs.Common.{List, [], ap, false, not, sym, take, ◌++◌, ◌∙◌, ◌∷◌, ℕ}
use Rattle.std.proofs.lemmas.List.{map_more, take_all}
use Rattle.std.specs.Prelude.{filter, slice_index_or}
use Rattle.poly_tiling.specs.declared.bound.Bound.{Bound}
use Rattle.poly_place.specs.Index.{Row, row_in, rows_without}
use Rattle.poly_place.proofs.index.copied.Goals as goal

pub loop-bound-preserved : goal.loop-bound-preserved
loop-bound-preserved c =
    let kept : List ℕ → List ℕ = λ l. filter (λ n. not (slice_index_or c.args.marks.now n false)) l in
    let row : Bound → Row = λ b. (b.item, kept (row_in c.args.rows.now b.item)) in
    let bounds : List Bound = c.args.bounds.now in
    let k = c.loop-bound.bound-index in
    let b : Bound = c.bound-item.result in
    c.in_ok-push.ensures.items
    ∙ ap (λ (r : Row). c.loop-bound.list.items ++ r ∷ []) (c.new.ensures ∙ ap (λ (l : List ℕ). (b.item, l)) (c.in_ok-numbers.ensures ∙ ap kept c.numbers_in.ensures))
    ∙ ap (λ (l : List Row). l ++ row b ∷ []) c.loop-bound.invariant
    ∙ ap (λ (z : Bound). rows_without (λ n. slice_index_or c.args.marks.now n false) c.args.rows.now (take k bounds) ++ row z ∷ []) c.bound-item.is
    ∙ sym (map_more row bounds k b c.loop-bound-test.true)

pub returns-clause-ok : goal.returns-clause-ok
returns-clause-ok c =
    c.loop-bound.invariant
    ∙ ap (λ (l : List Bound). rows_without (λ n. slice_index_or c.args.marks.now n false) c.args.rows.now l) (take_all c.loop-bound.bound-index c.args.bounds.now c.loop-bound-test.false)
