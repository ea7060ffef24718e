use Rattle.std.proofs.Common.{inr, ◌∙◌}
use Rattle.std.proofs.lemmas.Result.{err_from_is_err_and}
use Rattle.poly_text.proofs.Listing.{listed_is, listed_not}
use Rattle.poly_text.proofs.words.listed_set.Goals as goal

pub returns-then-not-are_formed-clause-why : goal.returns-then-not-are_formed-clause-why
returns-then-not-are_formed-clause-why c =
    inr (listed_not c.args.text.now c.in_ok-parts.parts.items _ _ c.in_ok-parts.ensures.ok c.as_slice.ensures.value c.are_formed.ensures c.if-not-are_formed.true)

pub returns-clause-ok : goal.returns-clause-ok
returns-clause-ok c =
    let listed = listed_is c.args.text.now c.in_ok-parts.parts.items _ c.as_slice-2.result.now _ c.in_ok-parts.ensures.ok c.as_slice.ensures.value c.are_formed.ensures c.if-not-are_formed.false c.as_slice-2.ensures.value in
    let read = c.in_ok-set.ensures.ok in
    (read.0, listed ∙ read.1, read.2)

pub returns-in_err-set-clause-why : goal.returns-in_err-set-clause-why
returns-in_err-set-clause-why c =
    let listed = listed_is c.args.text.now c.in_ok-parts.parts.items _ c.as_slice-2.result.now _ c.in_ok-parts.ensures.ok c.as_slice.ensures.value c.are_formed.ensures c.if-not-are_formed.false c.as_slice-2.ensures.value in
    let p = err_from_is_err_and c.from_residual-in_err-set.result c.from_residual-in_err-set.ensures.1 in
    rw (p.1, p.2) (inr (listed ∙ c.in_err-set.ensures.why))
