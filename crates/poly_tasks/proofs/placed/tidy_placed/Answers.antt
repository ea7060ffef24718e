use Rattle.std.proofs.Common.{ap, refl, rules, ◌∙◌, ◌≡◌}
use Rattle.poly_tasks.proofs.Placing.{rows_still}
use Rattle.poly_tasks.proofs.placed.tidy_placed.Goals as goal

pub returns : goal.returns
returns c =
    let ps = c.args.pending.now in
    rows_still _ (λ f. f.0.now ≡ ps) ps (λ g r b g' y i t. (search rules, search rules, search rules, ap (λ x. x.now) t.called.met.1 ∙ i)) _ c.args.rows.now.items c.retain_mut.new.self.items refl c.retain_mut.ensures.filtered
