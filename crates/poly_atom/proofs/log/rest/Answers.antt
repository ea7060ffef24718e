use Rattle.std.proofs.Common.{◌∙◌}
use Rattle.std.proofs.lemmas.List.{take_rest}
use Rattle.poly_atom.proofs.Offsets.{tail_is}
use Rattle.poly_atom.proofs.log.rest.Goals as goal

pub returns : goal.returns
returns c =
    take_rest c.args.guards.now c.start_of-start.result ∙ tail_is c.args.starts.now c.args.guards.now c.args.edition c.start_of-start.result c.requires c.start_of-start.ensures.value
