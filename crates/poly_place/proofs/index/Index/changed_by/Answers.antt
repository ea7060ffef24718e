use Rattle.std.proofs.Common.{Bool, List, ap, drop, false, length, subst, sym, ◌∙◌, ◌≡◌, ℕ}
use Rattle.std.specs.Prelude.{slice_index_or}
use Rattle.poly_tiling.specs.declared.bound.Bound.{Bound}
use Rattle.poly_tiling.specs.Puzzle.{View}
use Rattle.poly_place.specs.Index.{AreRows, IsIndex, Row, has_of, rows_without, with_numbers}
use Rattle.poly_place.specs.Numbered.{numbered_view}
use Rattle.poly_place.proofs.Indexed.{updated_index}
use Rattle.poly_place.proofs.Rows.{items_without, rows_up, written_back}
use Rattle.poly_place.proofs.index.Index.changed_by.Goals as goal

pub scatter-requires : goal.scatter-requires
scatter-requires c =
    let old : List Row = c.args.self.now.rows.items in
    let bounds : List Bound = c.args.update.now.numbered.bounds.items in
    let marked : ℕ → Bool = λ n. slice_index_or c.args.marks.now n false in
    let e : c.in_ok-rows.rows.items ≡ rows_without marked old bounds =
    c.in_ok-rows.ensures.ok
    ∙ ap (λ (rs : List Row). rows_without marked rs c.deref-2.result.now) c.deref.ensures.value
    ∙ ap (λ (bs : List Bound). rows_without marked old bs) c.deref-2.ensures.value in
    subst (λ (rs : List Row). AreRows rs) (sym (c.deref_mut.ensures.value ∙ e)) (rows_up (rows_without marked old bounds) bounds (items_without marked old bounds) c.requires.well.items_up)

pub returns-clause-ok : goal.returns-clause-ok
returns-clause-ok c = λ v d x same w s index are shows come.
    let u : View = numbered_view c.args.names.now c.args.update.now.numbered in
    let old : List Row = c.args.self.now.rows.items in
    let bounds : List Bound = c.args.update.now.numbered.bounds.items in
    let marked : ℕ → Bool = λ n. slice_index_or c.args.marks.now n false in
    let has = has_of c.args.names.now in
    let e : c.in_ok-rows.rows.items ≡ rows_without marked old bounds =
    c.in_ok-rows.ensures.ok
    ∙ ap (λ (rs : List Row). rows_without marked rs c.deref-2.result.now) c.deref.ensures.value
    ∙ ap (λ (bs : List Bound). rows_without marked old bs) c.deref-2.ensures.value in
    let back = written_back has c.deref-3.result.now c.deref_mut.result.now c.scatter.new.rows (drop (length c.scatter.new.rows) c.in_ok-rows.rows.items) c.in_ok-rows.rows.len c.in_ok-scatter.ensures.ok c.deref_mut.ensures.len in
    subst (λ (rs : List Row). IsIndex u rs) (sym back) (updated_index v u d x old c.args.marks.now c.args.update.now.found.items same w s index c.requires.well shows are come c.scatter.new.rows (
    c.in_ok-scatter.ensures.ok
    ∙ ap (λ (l : List ℕ). with_numbers has l c.deref_mut.result.now) c.deref-3.ensures.value
    ∙ ap (λ (rs : List Row). with_numbers has c.args.update.now.found.items rs) (c.deref_mut.ensures.value ∙ e)
    ))
