use Rattle.std.proofs.Common.{ap, get_or, length, subst, sym, ◌<◌, ◌∙◌}
use Rattle.poly_atom.specs.Atoms.{IsSmall, negated}
use Rattle.poly_atom.proofs.Walks.{small_at}
use Rattle.poly_tasks.proofs.Lacking.{stair_alone}
use Rattle.poly_tasks.proofs.task.ends_alone.Goals as goal

pub negated-requires : goal.negated-requires
negated-requires c =
    let g = c.guards_of.result.now in
    let j = c.args.stair.now.index in
    let low : j < length g = subst (λ x. j < length x) (sym c.guards_of.ensures.value) c.requires.index_in in
    subst IsSmall (sym c.index-guards_of-stair.is) (small_at g j c.index-guards_of-stair.result c.guards_of.ensures.small low)

pub returns : goal.returns
returns c = λ so.
    let s = c.args.stair.now in
    let d = c.index-guards_of-stair.result in
    stair_alone c.args.view.now c.args.log.now s c.negated.result d c.requires
    (c.negated.ensures ∙ ap negated (c.index-guards_of-stair.is ∙ ap (λ g. get_or g s.index d) c.guards_of.ensures.value)) (sym c.hopeless.ensures ∙ so)
