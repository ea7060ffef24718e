use Rattle.std.proofs.Common.{List, ap, map, ◌++◌, ◌∙◌}
use Rattle.poly_atom.specs.declared.atom.Atom.{Atom}
use Rattle.poly_report.proofs.gathered.Gathered.into_leaves.Goals as goal

pub returns-clause-rests : goal.returns-clause-rests
returns-clause-rests c = c.new.ensures ∙ ap (λ (xs : List Atom). map (λ p. xs ++ p) c.args.self.paths) c.in_ok-stem.ensures.items
