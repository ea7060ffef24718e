use Rattle.std.proofs.Common.{ap, sym, ◌∙◌}
use Rattle.poly_atom.specs.Logs.{flat}
use Rattle.poly_tasks.specs.Spots.{spots_from}
use Rattle.poly_tasks.proofs.Spotting.{spots_none}
use Rattle.poly_tasks.proofs.spots.Spots.none.Goals as goal

pub returns : goal.returns
returns c = λ log. c.new-2.ensures.items ∙ spots_none 0 (flat log) ∙ ap (λ ps. spots_from ps 0 (flat log)) (sym c.new.ensures.items)
