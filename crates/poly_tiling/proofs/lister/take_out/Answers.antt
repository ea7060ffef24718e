use Rattle.std.proofs.Common.{eqb, not, rules}
use Rattle.std.proofs.lemmas.Fn.{filter_same}
use Rattle.poly_tiling.proofs.lister.take_out.Goals as goal

pub returns : goal.returns
returns c = filter_same _ (λ q. not (eqb q c.args.p)) _ (λ x b f' k. search rules) _ _ c.retain.ensures.filtered
