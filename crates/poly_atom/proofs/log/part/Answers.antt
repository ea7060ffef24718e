use Rattle.std.proofs.Common.{arith, drop, rules, ◌-◌, ◌≤◌}
use Rattle.poly_atom.specs.LogKept.{rows}
use Rattle.poly_atom.proofs.Small.{AllSmall-drop, AllSmall-take}
use Rattle.poly_atom.proofs.Offsets.{part_is, starts_rise}
use Rattle.poly_atom.proofs.log.part.Goals as goal

pub slice_bounds-result-count : goal.slice_bounds-result-count
slice_bounds-result-count c = omega (arith, c.start_of-start.ensures.value, c.end_of-end.ensures.value, starts_rise (rows c.args.starts.now c.args.guards.now) c.args.edition)

pub slice_bounds-result-start : goal.slice_bounds-result-start
slice_bounds-result-start c =
    let rises : c.start_of-start.result ≤ c.end_of-end.result = omega (arith, c.start_of-start.ensures.value, c.end_of-end.ensures.value, starts_rise (rows c.args.starts.now c.args.guards.now) c.args.edition) in
    search rules

pub returns-clause-value : goal.returns-clause-value
returns-clause-value c = part_is c.args.starts.now c.args.guards.now c.args.edition c.start_of-start.result c.end_of-end.result c.requires c.start_of-start.ensures.value c.end_of-end.ensures.value

pub returns-clause-small : goal.returns-clause-small
returns-clause-small c =
    AllSmall-take (c.end_of-end.result - c.start_of-start.result) (drop c.start_of-start.result c.args.guards.now) (AllSmall-drop c.start_of-start.result c.args.guards.now c.requires.small)
