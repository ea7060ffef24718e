use Rattle.std.proofs.Common.{◌≡◌, ap, subst}
use Rattle.poly_design.specs.declared.change.Change.{Change}
use Rattle.poly_design.specs.Changes.{HasBefore, changed, inverse_of}
use Rattle.poly_design.proofs.Restored.{restored, stands}
use Rattle.poly_design.proofs.change.Change.inverse.Goals as goal

pub returns-in-Cell-clause-restores : goal.returns-in-Cell-clause-restores
returns-in-Cell-clause-restores c = λ d is has. subst (λ (v : Change). changed (changed d c.args.self) v ≡ d) (ap inverse_of c.in-Cell.is) (restored d c.args.self is has)

pub returns-in-Cell-clause-stands : goal.returns-in-Cell-clause-stands
returns-in-Cell-clause-stands c = λ d is. subst (λ (v : Change). HasBefore (changed d c.args.self) v) (ap inverse_of c.in-Cell.is) (stands d c.args.self is)

pub returns-in-Piece-clause-restores : goal.returns-in-Piece-clause-restores
returns-in-Piece-clause-restores c = λ d is has. subst (λ (v : Change). changed (changed d c.args.self) v ≡ d) (ap inverse_of c.in-Piece.is) (restored d c.args.self is has)

pub returns-in-Piece-clause-stands : goal.returns-in-Piece-clause-stands
returns-in-Piece-clause-stands c = λ d is. subst (λ (v : Change). HasBefore (changed d c.args.self) v) (ap inverse_of c.in-Piece.is) (stands d c.args.self is)
