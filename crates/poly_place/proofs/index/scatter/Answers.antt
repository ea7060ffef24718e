use Rattle.std.proofs.Common.{List, [], ap, get_or, subst, sym, take, ◌∙◌, ◌∷◌, ℕ}
use Rattle.std.proofs.lemmas.List.{take_all, take_more}
use Rattle.poly_place.specs.Index.{AreRows, Row, has_of, with_numbers}
use Rattle.poly_place.proofs.Rows.{rows_stay, with_more, with_none}
use Rattle.poly_place.proofs.index.scatter.Goals as goal

pub loop-number-init : goal.loop-number-init
loop-number-init c = sym (with_none (has_of c.args.names.now) c.args.rows.now)

pub add_number-requires : goal.add_number-requires
add_number-requires c = subst (λ (rs : List Row). AreRows rs) (sym c.loop-number.invariant) (rows_stay (has_of c.args.names.now) (take c.loop-number.number-index c.args.numbers.now) c.args.rows.now c.requires)

pub loop-number-preserved : goal.loop-number-preserved
loop-number-preserved c =
    let has = has_of c.args.names.now in
    let ns = c.args.numbers.now in
    let i = c.loop-number.number-index in
    let n = get_or ns i 0 in
    c.in_ok-add_number.ensures.ok
    ∙ ap (λ (rs : List Row). with_numbers has (n ∷ []) rs) c.loop-number.invariant
    ∙ with_more has (take i ns) (n ∷ []) c.args.rows.now
    ∙ ap (λ (l : List ℕ). with_numbers has l c.args.rows.now) (sym (take_more ns i 0 c.loop-number-test.true))

pub returns-clause-ok : goal.returns-clause-ok
returns-clause-ok c =
    c.loop-number.invariant ∙ ap (λ (l : List ℕ). with_numbers (has_of c.args.names.now) l c.args.rows.now) (take_all c.loop-number.number-index c.args.numbers.now c.loop-number-test.false)
