use Rattle.std.proofs.Common.{subst, sym}
use Rattle.poly_place.specs.Between.{IsChangeOf}
use Rattle.poly_book.proofs.prepare.guards_of_change.Goals as goal

pub both_guards-requires : goal.both_guards-requires
both_guards-requires c = subst (λ v. IsChangeOf v c.args.view.now c.args.delta.now) (sym c.view.ensures) c.requires
