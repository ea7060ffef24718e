use Rattle.std.proofs.lemmas.Result.{on_err_weaker, on_ok_weaker}
use Rattle.std.proofs.Common.{List, Some, subst, sym, ℕ}
use Rattle.poly_catalogue.specs.Index.{Agree}
use Rattle.poly_catalogue.specs.Rows.{at}
use Rattle.poly_catalogue.proofs.Left.{entered, told_only}
use Rattle.poly_catalogue.proofs.entries.add_entry.Goals as goal

pub returns-clause-ok : goal.returns-clause-ok
returns-clause-ok c =
    λ numbers g lack.
    on_ok_weaker c.append.result
    (λ put. entered c.args.tilings.now c.args.positions.now c.args.rows.now c.set.new.self c.append.new.rows c.args.tiling c.args.nth c.number_of-number.result c.count-position.result
    c.number_of-number.ensures c.count-position.ensures c.set.ensures.put put numbers g lack)
    c.append.ensures.ok

pub returns-clause-err : goal.returns-clause-err
returns-clause-err c =
    λ numbers g lack.
    on_err_weaker c.append.result
    (λ same. subst (λ (rs : List (List ℕ)). Agree numbers (at c.set.new.self) (at rs)) (sym same)
    (told_only c.args.positions.now c.args.rows.now c.set.new.self c.args.tiling c.args.nth (Some c.count-position.result) c.set.ensures.put numbers g lack))
    c.append.ensures.err
