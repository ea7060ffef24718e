use Rattle.std.proofs.Common.{[], ap, get_or, rules, set, subst, sym, true, ◌++◌, ◌∙◌, ◌∷◌, ◌≡◌}
use Rattle.std.proofs.lemmas.List.{get_or_default}
use Rattle.std.specs.List.{list_any}
use Rattle.poly_tasks.specs.declared.placed.PlacedRow.{PlacedRow}
use Rattle.poly_tasks.specs.Mapped.{in_span, placed}
use Rattle.poly_tasks.proofs.Mapping.{on_ok_then}
use Rattle.poly_tasks.proofs.Placing.{pushed_wider, row_has, set_has, set_wider}
use Rattle.poly_tasks.proofs.placed.push_at.Goals as goal

pub returns-clause-wider : goal.returns-clause-wider
returns-clause-wider c =
    let rows = c.args.rows.now.items in
    let i = c.args.index in
    let r = c.index_mut.result.now in
    let new : PlacedRow = record { placement = r.placement; row = c.push.new.self } in
    let is : get_or rows i r ≡ r = search rules in
    set_wider rows i new r c.requires (ap (λ (x : PlacedRow). x.placement) (sym is))
    (λ n h. pushed_wider c.push.result r.row c.push.new.self c.args.span n c.push.ensures.ok c.push.ensures.err (ap (λ (x : PlacedRow). list_any (λ s. in_span s n) x.row) (sym is) ∙ h))

pub returns-clause-ok : goal.returns-clause-ok
returns-clause-ok c =
    let rows = c.args.rows.now.items in
    let i = c.args.index in
    let r = c.index_mut.result.now in
    let s = c.args.span in
    let new : PlacedRow = record { placement = r.placement; row = c.push.new.self } in
    let is : get_or rows i r ≡ r = search rules in
    on_ok_then c.push.result (c.push.new.self ≡ r.row ++ s ∷ []) _
    (λ e n d h. subst (λ p. placed (set rows i new) p n ≡ true) (ap (λ (x : PlacedRow). x.placement) (sym is ∙ get_or_default rows i r d c.requires))
    (set_has rows i new n c.requires (ap (λ row. list_any (λ t. in_span t n) row) e ∙ row_has r.row s n h)))
    c.push.ensures.ok
