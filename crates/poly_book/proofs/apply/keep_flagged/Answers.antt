use Rattle.std.proofs.Common.{ap, arith, refl, rules, ◌∙◌, ◌≡◌}
use Rattle.std.specs.List.{items_where_true}
use Rattle.poly_book.proofs.Flagging.{told_flags}
use Rattle.poly_book.proofs.apply.keep_flagged.Goals as goal

pub returns-clause-items : goal.returns-clause-items
returns-clause-items c =
    let flags = c.args.flags.now in
    let tasks = c.args.tasks.now.items in
    let told = c.retain.ensures.filtered in
    told.4 ∙ ap (λ bs. items_where_true bs tasks)
    (told_flags _ (λ f k. (f.0.now ≡ flags) × (f.1.now ≡ k)) flags (λ g x b g' k i l t. (search rules, (search rules, search rules))) _ 0 told.0 tasks told.1 (refl, refl) told.2 (omega (arith, c.requires)) told.3)
