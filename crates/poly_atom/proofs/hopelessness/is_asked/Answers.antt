use Rattle.std.proofs.Common.{eqb, ◌∙◌}
use Rattle.poly_atom.proofs.Counted.{any_asked}
use Rattle.poly_atom.proofs.hopelessness.is_asked.Goals as goal

pub returns : goal.returns
returns c = c.any_asking.ensures ∙ any_asked (λ q. eqb q c.args.p) c.args.atoms.now
