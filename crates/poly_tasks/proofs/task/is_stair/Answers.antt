use Rattle.std.proofs.Common.{[], ap, arith, get_or, length, rules, subst, sym, take, true, ◌+◌, ◌<◌, ◌∙◌, ◌≡◌}
use Rattle.poly_atom.specs.Atoms.{IsSmall, negated}
use Rattle.poly_atom.specs.Stairs.{stairs}
use Rattle.poly_atom.proofs.Walks.{small_at}
use Rattle.poly_lists.proofs.Exact.{atom_decides}
use Rattle.poly_tasks.proofs.Comparing.{stair_by}
use Rattle.poly_tasks.proofs.task.is_stair.Goals as goal

pub negated-requires : goal.negated-requires
negated-requires c =
    let g = c.guards_of-guards.result.now in
    let low : c.args.stair.now.index < length g = subst (λ x. c.args.stair.now.index < length x) (sym c.guards_of-guards.ensures.value) c.requires.index_in in
    subst IsSmall (sym c.index-guards-index.is) (small_at g c.args.stair.now.index c.index-guards-index.result c.guards_of-guards.ensures.small low)

pub returns : goal.returns
returns c = λ yes.
    let g = c.guards_of-guards.result.now in
    let A = c.args.atoms.now in
    let j = c.args.stair.now.index in
    let low : j < length g = subst (λ x. j < length x) (sym c.guards_of-guards.ensures.value) c.requires.index_in in
    let long : length A ≡ j + 1 = omega (arith, c.if-atoms-index.false) in
    let is : c.is_same_list.result ≡ true = search rules in
    let same : take j A ≡ take j g = c.is_same_list.ensures.0 is in
    let one = (atom_decides c.index-atoms-index.result c.negated.result).0 (sym c.eq.ensures ∙ yes) in
    let last : get_or A j c.index-atoms-index.result ≡ negated (get_or g j c.index-guards-index.result) = sym c.index-atoms-index.is ∙ one ∙ c.negated.ensures ∙ ap negated c.index-guards-index.is in
    stair_by g A j c.index-guards-index.result c.index-atoms-index.result low long same last ∙ ap (λ x. get_or (stairs x) j []) c.guards_of-guards.ensures.value
