use Rattle.std.proofs.Common.{rules}
use Rattle.poly_report.proofs.size.fits.Goals as goal

pub returns : goal.returns
returns c = search rules
