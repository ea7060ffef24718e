use Rattle.std.proofs.Common.{refl, sym, subst, ◌∙◌}
use Rattle.poly_text.specs.Sets.{MakesSet}
use Rattle.poly_text.proofs.Asking.{named_is}
use Rattle.poly_text.proofs.command.queries.placement_of.Goals as goal

pub returns-in-Some-clause-ok : goal.returns-in-Some-clause-ok
returns-in-Some-clause-ok c =
    let read = c.in_ok-set.ensures.ok in
    let is = named_is c.args.text.now c.in_ok-equals.equals c.in_ok-name.name read.0 (sym c.index_of.ensures.is ∙ c.in_ok-equals.ensures.ok_part) (sym c.name_of.ensures ∙ c.in_ok-name.ensures.ok_part) read.1 in
    ((c.in_ok-name.name, read.0), is, (refl, subst (λ z. MakesSet read.0 z) c.in-Some.is read.2))

pub returns-in-None-clause-ok : goal.returns-in-None-clause-ok
returns-in-None-clause-ok c =
    let read = c.in_ok-set.ensures.ok in
    let is = named_is c.args.text.now c.in_ok-equals.equals c.in_ok-name.name read.0 (sym c.index_of.ensures.is ∙ c.in_ok-equals.ensures.ok_part) (sym c.name_of.ensures ∙ c.in_ok-name.ensures.ok_part) read.1 in
    ((c.in_ok-name.name, read.0), is, subst (λ z. MakesSet read.0 z) c.in-None.is read.2)
