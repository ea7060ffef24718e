use Rattle.std.proofs.Common.{ap, sym, ◌∙◌}
use Rattle.std.specs.Option.{option_copied}
use Rattle.poly_place.proofs.Untouched.{listed_none}
use Rattle.poly_place.proofs.update.found_of.Goals as goal

pub returns-in-None-clause-ok : goal.returns-in-None-clause-ok
returns-in-None-clause-ok c = listed_none c.args.after.now c.args.name c.new.result.items (sym c.spec.ensures ∙ ap (λ o. option_copied o) c.in-None.is) c.new.ensures.items
