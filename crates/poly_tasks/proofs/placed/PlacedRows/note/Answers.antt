use Rattle.std.proofs.Common.{[], ap, get_or, subst, sym, true, ℕ, ◌∙◌, ◌≡◌}
use Rattle.poly_tasks.specs.declared.placed.PlacedRow.{PlacedRow}
use Rattle.poly_tasks.specs.Mapped.{in_span, placed}
use Rattle.poly_tasks.proofs.Mapping.{on_ok_then}
use Rattle.poly_tasks.proofs.placed.PlacedRows.note.Goals as goal

no_row : PlacedRow
no_row = record { placement = 0; row = [] }

pub returns-then-is_row_of-clause-ok : goal.returns-then-is_row_of-clause-ok
returns-then-is_row_of-clause-ok c =
    let rows = c.push_at.new.rows.items in
    let p = c.args.placement in
    let i = c.hint-index.result in
    let same : (get_or c.args.self.now.rows.items i no_row).placement ≡ p = ap (λ rs. (get_or rs i no_row).placement) (sym c.deref-2.ensures.value) ∙ (c.is_row_of.ensures c.if-is_row_of.true).1 no_row in
    on_ok_then c.push_at.result _ ((n : ℕ) → in_span c.args.span n ≡ true → placed rows p n ≡ true)
    (λ ok n h. subst (λ q. placed rows q n ≡ true) same (ok n no_row h))
    c.push_at.ensures.ok
