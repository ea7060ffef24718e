use Rattle.std.proofs.Common.{inr, refl}
use Rattle.std.proofs.lemmas.Result.{err_from_is_err_and}
use Rattle.poly_book.proofs.prepare.plan_ahead.Goals as goal

pub returns-in_err-after : goal.returns-in_err-after
returns-in_err-after c =
    let p = err_from_is_err_and c.from_residual.result c.from_residual.ensures.1 in
    rw (p.1, p.2) record {
      after = tt;
      plan = tt;
      view = tt;
      last = tt;
      enough = tt;
      first = c.requires.first;
      right = c.requires.right;
      why = inr c.in_err-after.ensures.why;
    }

pub returns-in_err-plan : goal.returns-in_err-plan
returns-in_err-plan c =
    let p = err_from_is_err_and c.from_residual-in_err-plan.result c.from_residual-in_err-plan.ensures.1 in
    let g = c.in_err-plan.ensures in
    rw (p.1, p.2) record {
      after = tt;
      plan = tt;
      view = tt;
      last = tt;
      enough = tt;
      first = g.first;
      right = g.right;
      why = g.why;
    }

pub returns-in_default : goal.returns-in_default
returns-in_default c =
    let g = c.in_ok-plan.ensures in
    record {
      after = tt;
      plan = tt;
      view = tt;
      last = tt;
      enough = tt;
      first = g.first;
      right = g.right;
      why = inr refl;
    }

pub returns : goal.returns
returns c =
    let g = c.in_ok-plan.ensures in
    record {
      after = c.in_ok-after.ensures.ok;
      plan = g.ok;
      view = c.in-Ok.ensures;
      last = g.last;
      enough = g.enough;
      first = g.first;
      right = g.right;
      why = tt;
    }
