use Rattle.std.proofs.lemmas.Result.{IfErr-weaker}
use Rattle.std.proofs.Common.{subst}
use Rattle.poly_tiling.specs.Listings.{HasOverTilings}
use Rattle.poly_book.specs.Keeps.{state_of}
use Rattle.poly_book.specs.States.{State}
use Rattle.poly_book.proofs.Amounts.{settled_full}
use Rattle.poly_book.proofs.book.Book.settle.Goals as goal

pub returns-clause-full : goal.returns-clause-full
returns-clause-full c = IfErr-weaker c.settle_all.result _ _ (λ e why q. subst (λ (s : State). HasOverTilings 1000000 s.design) c.self.view_is
    (settled_full c.args.turns (state_of c.self.inside.parts) (state_of c.settle_all.new.parts) e c.settle_all.ensures.keeps.whole why q)) c.settle_all.ensures.why
