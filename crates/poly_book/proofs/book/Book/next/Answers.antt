use Rattle.std.proofs.Common.{rules, subst, sym, ◌≡◌}
use Rattle.std.specs.List.Sorted.{IsNonDecreasingBy}
use Rattle.poly_tasks.specs.declared.task.Pending.{Pending}
use Rattle.poly_tasks.specs.Nexts.{number_from}
use Rattle.poly_tasks.proofs.Halving.{numbers_rise}
use Rattle.poly_book.proofs.Nexting.{least_from}
use Rattle.poly_book.proofs.book.Book.next.Goals as goal

pub first_from-requires : goal.first_from-requires
first_from-requires c =
    let ps = c.self.inside.parts.tasks.items in
    let e : c.deref.result.now ≡ ps = search rules in
    subst (λ qs. IsNonDecreasingBy (λ (p : Pending). p.number) qs) (sym e) (numbers_rise 0 c.self.inside.parts.next c.self.inside.parts.log ps c.self.invariant.whole.rising)

pub returns : goal.returns
returns c =
    let ps = c.self.inside.parts.tasks.items in
    let e : c.first_from.result ≡ number_from c.args.from ps = search rules in
    rw (← c.self.view_is, e) (least_from c.args.from 0 c.self.inside.parts.log ps c.self.inside.parts.next c.self.invariant.whole.rising)
