use Rattle.std.proofs.Common.{arith, get_or}
use Rattle.std.proofs.lemmas.List.{get_or_default}
use Rattle.poly_atom.proofs.Offsets.{start_in, start_is, start_past}
use Rattle.poly_atom.proofs.log.start_of.Goals as goal

pub returns-then-edition-starts-clause-value : goal.returns-then-edition-starts-clause-value
returns-then-edition-starts-clause-value c = start_is c.args.starts.now c.args.guards.now c.args.edition (get_or c.args.starts.now c.args.edition 0) c.requires c.if-edition-starts.true (get_or_default c.args.starts.now c.args.edition 0 _ c.if-edition-starts.true)

pub returns-then-edition-starts-clause-inside : goal.returns-then-edition-starts-clause-inside
returns-then-edition-starts-clause-inside c =
    let e = start_is c.args.starts.now c.args.guards.now c.args.edition (get_or c.args.starts.now c.args.edition 0) c.requires c.if-edition-starts.true (get_or_default c.args.starts.now c.args.edition 0 _ c.if-edition-starts.true) in
    omega (arith, e, start_in c.args.starts.now c.args.guards.now c.args.edition c.requires)

pub returns-else-edition-starts-clause-value : goal.returns-else-edition-starts-clause-value
returns-else-edition-starts-clause-value c = start_past c.args.starts.now c.args.guards.now c.args.edition c.requires c.if-edition-starts.false
