use Rattle.poly_atom.proofs.Widths.{widths_show_lem}
use Rattle.poly_atom.proofs.laws.widths_show.Goals as goal

pub returns : goal.returns
returns c = widths_show_lem
