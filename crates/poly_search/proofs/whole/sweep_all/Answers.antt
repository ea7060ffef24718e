use Rattle.poly_search.proofs.whole.sweep_all.Goals as goal

pub returns-clause-all : goal.returns-clause-all
returns-clause-all c = c.sweep_each-swept.ensures.all

pub returns-clause-few : goal.returns-clause-few
returns-clause-few c = c.sweep_each-swept.ensures.few

pub returns-clause-too_many : goal.returns-clause-too_many
returns-clause-too_many c = c.sweep_each-swept.ensures.too_many

pub returns-clause-why : goal.returns-clause-why
returns-clause-why c = c.sweep_each-swept.ensures.why
