use Rattle.std.proofs.Common.{ap, refl, rules, ◌∙◌, ◌≡◌}
use Rattle.poly_tasks.proofs.Keyed.{rows_kept}
use Rattle.poly_tasks.proofs.rows.tidy_rows.Goals as goal

pub returns : goal.returns
returns c =
    let ps = c.args.pending.now in
    rows_kept _ (λ f. f.0.now ≡ ps) ps (λ g k v b w g' i t. (search rules, search rules, ap (λ x. x.now) t.called.met.1 ∙ i)) _ c.args.rows.now.entries c.retain.new.self.entries refl c.retain.ensures.filtered
