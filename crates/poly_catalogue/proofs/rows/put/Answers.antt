use Rattle.std.proofs.Common.{List, [], ap, arith, length, set, ◌∙◌, ◌≡◌, ℕ}
use Rattle.std.proofs.lemmas.List.{get_or_default}
use Rattle.poly_catalogue.specs.Rows.{at, row}
use Rattle.poly_catalogue.proofs.Written.{put_puts, there}
use Rattle.poly_catalogue.proofs.rows.put.Goals as goal

pub set-requires : goal.set-requires
set-requires c =
    let low = there c.args.rows.now c.args.key c.args.position c.requires in
    omega (arith, ap length (get_or_default c.args.rows.now c.args.key c.index-rows-key.result [] low.0), low.1)

pub returns-clause-put : goal.returns-clause-put
returns-clause-put c =
    let rows : List (List ℕ) = c.args.rows.now in
    let key = c.args.key in
    let low = there rows key c.args.position c.requires in
    let is : c.set.new.self ≡ set (row rows key) c.args.position c.args.number = c.set.ensures ∙ ap (λ (r : List ℕ). set r c.args.position c.args.number) (get_or_default rows key c.index-rows-key.result [] low.0) in
    λ a b. ap (λ (r : List ℕ). at (set rows key r) a b) is ∙ put_puts rows key c.args.position c.args.number low.0 low.1 a b
