use Rattle.std.proofs.Common.{List, [], ap, length, set, take, ◌-◌, ◌∙◌, ◌≡◌, ℕ}
use Rattle.std.proofs.lemmas.List.{get_or_default}
use Rattle.poly_catalogue.specs.Rows.{at, row}
use Rattle.poly_catalogue.proofs.Written.{cut_puts, row_low}
use Rattle.poly_catalogue.proofs.rows.cut.Goals as goal

pub returns : goal.returns
returns c =
    let rows : List (List ℕ) = c.args.rows.now in
    let key = c.args.key in
    let low = row_low rows key c.requires in
    let is : c.cut.new.self ≡ take (length (row rows key) - 1) (row rows key) = c.cut.ensures ∙ ap (λ (r : List ℕ). take (length r - 1) r) (get_or_default rows key c.index-rows-key.result [] low) in
    λ a b. ap (λ (r : List ℕ). at (set rows key r) a b) is ∙ cut_puts rows key low c.requires a b
