use Rattle.std.proofs.Common.{[], ap, get_or, length, subst, sym, ◌++◌, ◌<◌, ◌∙◌, ◌∷◌}
use Rattle.std.specs.List.{filter}
use Rattle.poly_atom.specs.Atoms.{IsSmall, negated}
use Rattle.poly_atom.proofs.Walks.{small_at}
use Rattle.poly_tasks.specs.Judged.{is_harmful}
use Rattle.poly_tasks.proofs.Spotting.{stair_low, stair_spotted}
use Rattle.poly_tasks.proofs.excerpt.append_harmful_of.Goals as goal

pub append_since-requires-clause-count : goal.append_since-requires-clause-count
append_since-requires-clause-count c = stair_low c.args.log.now c.args.stair.now c.requires.stair

pub negated-requires : goal.negated-requires
negated-requires c =
    let g = c.guards_of.result.now in
    let j = c.args.stair.now.index in
    let low : j < length g = subst (λ x. j < length x) (sym c.guards_of.ensures.value) c.requires.stair.index_in in
    subst IsSmall (sym c.index-guards_of-stair.is) (small_at g j c.index-guards_of-stair.result c.guards_of.ensures.small low)

pub returns-clause-ok : goal.returns-clause-ok
returns-clause-ok c =
    let log = c.args.log.now in
    let s = c.args.stair.now in
    let ps = c.args.spots.now.placements.items in
    let a = c.negated.result in
    c.in_ok-append_lacks.ensures.ok
    ∙ (λ i. c.in_ok-append_since.ensures.ok i ++ filter (is_harmful (c.placements.ensures i)) (a ∷ []))
    ∙ stair_spotted ps log s a c.index-guards_of-stair.result c.args.atoms.now.items c.requires.stair (c.negated.ensures ∙ ap negated (c.index-guards_of-stair.is ∙ ap (λ g. get_or g s.index c.index-guards_of-stair.result) c.guards_of.ensures.value))
