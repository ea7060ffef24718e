use Rattle.std.proofs.Common.{sym, ◌∙◌}
use Rattle.std.proofs.lemmas.Bool.{true≢false}
use Rattle.poly_lists.proofs.Exact.{atom_decides}
use Rattle.poly_lists.proofs.Linking.{no_other_end}
use Rattle.poly_lists.proofs.walk.without_atom.Goals as goal

pub returns-else-eq : goal.returns-else-eq
returns-else-eq c = λ B e.
    let same = no_other_end c.args.list.now c.in-Some.rest.now B c.in-Some.last.now c.args.atom c.in-Some.ensures.cases.0 e in
    true≢false (sym ((atom_decides c.in-Some.last.now c.args.atom).1 same) ∙ sym c.eq.ensures ∙ c.if-eq.false)
