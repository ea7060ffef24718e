use Rattle.std.specs.List.{Contains}
use Rattle.std.specs.Map.{keys_of}
use Rattle.poly_design.specs.Placements.{IsOfPiece, IsPlace}
use Rattle.std.proofs.Common.{◌≡◌, ap}
use Rattle.std.specs.Option.{option_copied}
use Rattle.poly_design.proofs.Rows.{listed_ok}
use Rattle.poly_design.proofs.Outside.{of_some}
use Rattle.poly_design.proofs.design.count.placements_of_some.Goals as goal

pub returns-in-Some-clause-ok : goal.returns-in-Some-clause-ok
returns-in-Some-clause-ok c = listed_ok (λ p. (p.name ≡ c.args.name) × IsPlace (Contains (keys_of c.args.cells.now.entries)) c.in-Some.spec.now p.cells) (IsOfPiece (Contains (keys_of c.args.cells.now.entries)) c.args.name (option_copied c.args.spec)) c.placements_of.result c.placements_of.ensures.ok
    (of_some (Contains (keys_of c.args.cells.now.entries)) c.args.name (option_copied c.args.spec) c.in-Some.spec.now (ap option_copied c.in-Some.is))
