use Rattle.std.proofs.Common.{refl, subst, ◌∙◌}
use Rattle.std.proofs.lemmas.Result.{err_from_is_err_and}
use Rattle.poly_tiling.specs.Listings.{HasOverTilings}
use Rattle.poly_report.specs.Shapes.{plan_of}
use Rattle.poly_book.specs.Keeps.{state_of}
use Rattle.poly_book.specs.Refused.{IsNotApplied}
use Rattle.poly_book.specs.Reports.{IsApplied}
use Rattle.poly_book.specs.States.{State}
use Rattle.poly_book.proofs.Amounts.{applied_full}
use Rattle.poly_book.proofs.book.Book.hand_in_found.Goals as goal

pub returns-in_err-applied : goal.returns-in_err-applied
returns-in_err-applied c =
    let p = err_from_is_err_and c.from_residual.result c.from_residual.ensures.1 in
    let report = c.args.found.report in
    let g = c.in_err-applied.ensures in
    rw (p.1, p.2) record {
      ok = tt;
      report = tt;
      atoms = tt;
      left = tt;
      err = g.err ∙ c.self.view_is;
      why = subst (λ (s : State). IsNotApplied report.task (plan_of report.tree) s c.in_err-applied.field-0.0) c.self.view_is g.why;
      full = λ q. subst (λ (s : State). HasOverTilings 1000000 s.design) c.self.view_is
          (applied_full report.task (plan_of report.tree) (state_of c.self.inside.parts) c.in_err-applied.field-0.0 c.self.invariant.whole g.why q);
    }

pub returns : goal.returns
returns c =
    let report = c.args.found.report in
    record {
      ok = subst (λ (s : State). IsApplied report.task report.edition (plan_of report.tree) s (state_of c.apply_found.new.parts) c.in_ok-applied.applied) c.self.view_is c.in_ok-applied.ensures.ok;
      report = refl;
      atoms = refl;
      left = refl;
      err = tt;
      why = tt;
      full = tt;
    }
