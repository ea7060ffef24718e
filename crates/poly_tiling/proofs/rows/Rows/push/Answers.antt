use Rattle.std.proofs.Common.{[], ap, arith, length, map, ◌++◌, ◌∙◌, ◌∷◌, ◌≡◌}
use Rattle.poly_tiling.specs.Leading.{part}
use Rattle.poly_tiling.proofs.Parts.{parts_push}
use Rattle.poly_tiling.proofs.rows.Rows.push.Goals as goal

pub returns-clause-ok : goal.returns-clause-ok
returns-clause-ok c =
    let xs = c.self.inside.numbers.items in
    let spans = c.self.inside.spans.items in
    let row = c.args.row.now in
    let numbers = c.extend_from_slice.new.self in
    let numbers_are : numbers.items ≡ xs ++ row = c.in_ok-extend_from_slice.ensures.items in
    let start_is : c.len-start.result ≡ length xs = omega (arith, c.len-start.ensures, c.self.inside.numbers.ok.0) in
    let end_is : c.len-end.result ≡ length (xs ++ row) = omega (arith, c.len-end.ensures, numbers.ok.0, ap length numbers_are) in
    ap (λ s. map (part numbers.items) s) (c.in_ok-push.ensures.items ∙ ap (λ n. spans ++ (n, c.len-end.result) ∷ []) start_is ∙ ap (λ n. spans ++ (length xs, n) ∷ []) end_is)
    ∙ ap (λ n. map (part n) (spans ++ (length xs, length (xs ++ row)) ∷ [])) numbers_are
    ∙ parts_push xs row spans c.self.invariant ∙ ap (λ l. l ++ row ∷ []) c.self.view_is
