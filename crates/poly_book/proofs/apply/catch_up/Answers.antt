use Rattle.std.proofs.Common.{subst, sym}
use Rattle.std.specs.List.Sorted.{IsNonDecreasingBy}
use Rattle.poly_tasks.specs.declared.task.Pending.{Pending}
use Rattle.poly_tasks.proofs.Halving.{numbers_rise}
use Rattle.poly_book.proofs.apply.catch_up.Goals as goal

pub catch_up-requires-clause-rise : goal.catch_up-requires-clause-rise
catch_up-requires-clause-rise c =
    let a = c.args.parts.now in
    subst (λ ps. IsNonDecreasingBy (λ (p : Pending). p.number) ps) (sym c.deref.ensures.value) (numbers_rise 0 a.next a.log a.tasks.items c.requires.whole.rising)
