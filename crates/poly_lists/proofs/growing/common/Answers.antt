use Rattle.std.proofs.Common.{length, rules, sym, ◌<◌, ◌∙◌}
use Rattle.std.proofs.lemmas.List.{get_or_default, take_more_same}
use Rattle.poly_lists.proofs.Exact.{atom_decides}
use Rattle.poly_lists.proofs.growing.common.Goals as goal

pub loop-count-preserved : goal.loop-count-preserved
loop-count-preserved c =
    let a = c.index-one-count.result in
    let b = c.index-other-count.result in
    let i = c.loop-count.count in
    let one = c.args.one.now in
    let other = c.args.other.now in
    let within : i < length one = search rules in
    let inside : i < length other = search rules in
    let same = (atom_decides a b).0 (sym c.eq.ensures ∙ c.if-eq.true) in
    let read = sym c.index-one-count.is ∙ same ∙ c.index-other-count.is ∙ get_or_default other i b a inside in
    (search rules, take_more_same one other i a within inside c.loop-count.invariant.1 read)
