use Rattle.std.proofs.Common.{rules, subst, sym, ◌≡◌}
use Rattle.poly_book.specs.Vouched.{AllLead}
use Rattle.poly_book.proofs.Leading.{all_lead}
use Rattle.poly_book.proofs.book.Book.vouch.Goals as goal

pub leads_to-requires : goal.leads_to-requires
leads_to-requires c =
    let e : c.deref.result.now ≡ c.self.inside.parts.steps.items = search rules in
    subst (λ ss. AllLead c.self.inside.parts.opened ss) (sym e) (all_lead c.self.inside.parts.opened c.self.inside.parts.steps.items c.self.invariant.whole.replay.designs)
