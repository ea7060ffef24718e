use Rattle.std.proofs.Common.{Bool, List, [], ap, arith, drop, false, length, subst, sym, ◌∙◌, ◌≡◌, ℕ}
use Rattle.std.specs.Prelude.{slice_index_or}
use Rattle.poly_tiling.specs.declared.bound.Bound.{Bound}
use Rattle.poly_tiling.specs.Puzzle.{View}
use Rattle.poly_place.specs.Index.{AreRows, IsIndex, Row, has_of, rows_without, with_numbers}
use Rattle.poly_place.specs.Numbered.{numbered_view}
use Rattle.poly_place.proofs.Indexed.{whole_index}
use Rattle.poly_place.proofs.Rows.{items_without, rows_up, written_back}
use Rattle.poly_place.proofs.index.Index.of.Goals as goal

abbrev no_marks : ℕ → Bool
no_marks n = slice_index_or [] n false

pub copied-requires : goal.copied-requires
copied-requires c = λ i j d l m. absurd (omega arith)

pub scatter-requires : goal.scatter-requires
scatter-requires c =
    let bounds : List Bound = c.args.numbered.now.bounds.items in
    let e : c.in_ok-rows.rows.items ≡ rows_without no_marks [] bounds = c.in_ok-rows.ensures.ok ∙ ap (λ (bs : List Bound). rows_without no_marks [] bs) c.deref.ensures.value in
    subst (λ (rs : List Row). AreRows rs) (sym (c.deref_mut.ensures.value ∙ e)) (rows_up (rows_without no_marks [] bounds) bounds (items_without no_marks [] bounds) c.requires.items_up)

pub returns-clause-ok : goal.returns-clause-ok
returns-clause-ok c =
    let v : View = numbered_view c.args.names.now c.args.numbered.now in
    let has = has_of c.args.names.now in
    let bounds : List Bound = c.args.numbered.now.bounds.items in
    let e : c.in_ok-rows.rows.items ≡ rows_without no_marks [] bounds = c.in_ok-rows.ensures.ok ∙ ap (λ (bs : List Bound). rows_without no_marks [] bs) c.deref.ensures.value in
    let back = written_back has c.deref-2.result.now c.deref_mut.result.now c.scatter.new.rows (drop (length c.scatter.new.rows) c.in_ok-rows.rows.items) c.in_ok-rows.rows.len c.in_ok-scatter.ensures.ok c.deref_mut.ensures.len in
    subst (λ (rs : List Row). IsIndex v rs) (sym back) (whole_index v no_marks c.scatter.new.rows c.requires (
    c.in_ok-scatter.ensures.ok
    ∙ ap (λ (l : List ℕ). with_numbers has l c.deref_mut.result.now) c.deref-2.ensures.value
    ∙ ap (λ (rs : List Row). with_numbers has c.args.numbered.now.live.items rs) (c.deref_mut.ensures.value ∙ e)
    ))
