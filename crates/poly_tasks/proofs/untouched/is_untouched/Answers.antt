use Rattle.std.proofs.Common.{Bool, [], ap, false, get_or, length, subst, sym, take, ◌<◌, ◌∙◌, ◌≡◌}
use Rattle.std.proofs.lemmas.Bool.{not-true}
use Rattle.std.specs.List.{list_any}
use Rattle.poly_atom.specs.declared.atom.Atom.{Atom}
use Rattle.poly_atom.specs.Atoms.{IsSmall, negated}
use Rattle.poly_atom.specs.Logs.{IsStairOf}
use Rattle.poly_atom.proofs.Walks.{small_at}
use Rattle.poly_tasks.specs.Meaning.{IsOwn, own_of}
use Rattle.poly_tasks.specs.Touching.{touches}
use Rattle.poly_tasks.proofs.Lacking.{untouched_stair}
use Rattle.poly_tasks.proofs.untouched.is_untouched.Goals as goal

pub negated-last-requires : goal.negated-last-requires
negated-last-requires c =
    let log = c.args.log.now in
    let s = c.in-Stair.stair in
    let there : IsStairOf log s = subst (λ o. IsOwn log o) c.in-Stair.is c.requires.own in
    let g = c.guards_of.result.now in
    let low : s.index < length g = subst (λ x. s.index < length x) (sym c.guards_of.ensures.value) there.index_in in
    subst IsSmall (sym c.index-guards_of-stair.is) (small_at g s.index c.index-guards_of-stair.result c.guards_of.ensures.small low)

pub returns-clause-untouched : goal.returns-clause-untouched
returns-clause-untouched c = λ so.
    let log = c.args.log.now in
    let s = c.in-Stair.stair in
    let there : IsStairOf log s = subst (λ o. IsOwn log o) c.in-Stair.is c.requires.own in
    let f : Atom → Bool = λ a. touches c.args.touch.now a in
    let first = c.first_of_edition-first.result in
    let d = c.index-guards_of-stair.result in
    let untouched : list_any f (take first.count (get_or log s.edition [])) ≡ false = subst (λ e. list_any f (take first.count (get_or log e [])) ≡ false) c.first_of_edition-first.ensures.edition c.first_of_edition-first.ensures.untouched in
    ap (λ o. list_any f (own_of log o)) c.in-Stair.is
    ∙ untouched_stair f log s first.count c.negated-last.result d there untouched c.if-stair-first.false
    (c.negated-last.ensures ∙ ap negated (c.index-guards_of-stair.is ∙ ap (λ g. get_or g s.index d) c.guards_of.ensures.value)) (sym c.touches.ensures ∙ not-true _ so)
