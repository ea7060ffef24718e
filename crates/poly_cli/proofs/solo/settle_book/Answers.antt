use Rattle.std.proofs.lemmas.Result.{err_from_is_err_and}
use Rattle.poly_cli.proofs.Booked.{unsettled}
use Rattle.poly_cli.proofs.solo.settle_book.Goals as goal

pub returns-in_err-settled-clause-why : goal.returns-in_err-settled-clause-why
returns-in_err-settled-clause-why c =
    let p = err_from_is_err_and c.from_residual.result c.from_residual.ensures.1 in
    rw (p.1, p.2) (unsettled c.args.turns c.args.book.now c.settle-settled.new.self c.in_err-settled.field-0.0 c.in_err-settled.ensures.why c.in_err-settled.ensures.full)
