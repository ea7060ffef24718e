use Rattle.std.proofs.Common.{rules}
use Rattle.poly_tiling.specs.Lister.{fits_beside}
use Rattle.poly_tiling.proofs.lister.fits_beside.Goals as goal

pub returns-then-has_number : goal.returns-then-has_number
unfolding fits_beside
returns-then-has_number c = search rules

pub returns-then-any_conflict : goal.returns-then-any_conflict
unfolding fits_beside
returns-then-any_conflict c = search rules

pub returns : goal.returns
unfolding fits_beside
returns c = search rules
