use Rattle.std.proofs.Common.{List, [], ap, append_assoc, arith, get_or, length, subst, sym, take, ◌++◌, ◌<◌, ◌∙◌, ◌∷◌}
use Rattle.std.specs.List.{filter}
use Rattle.poly_atom.specs.declared.atom.Atom.{Atom}
use Rattle.poly_atom.specs.Atoms.{IsSmall, negated}
use Rattle.poly_atom.specs.Stairs.{stairs}
use Rattle.poly_atom.proofs.Walks.{small_at}
use Rattle.poly_lists.specs.Words.{is_other}
use Rattle.poly_tasks.specs.Judged.{AreLacks}
use Rattle.poly_tasks.proofs.Lacking.{lead_filter, stair_filter}
use Rattle.poly_tasks.proofs.task.append_others.Goals as goal

pub negated-requires : goal.negated-requires
negated-requires c =
    let g = c.guards_of-guards.result.now in
    let j = c.args.stair.now.index in
    let low : j < length g = subst (λ x. j < length x) (sym c.guards_of-guards.ensures.value) c.requires.stair.index_in in
    subst IsSmall (sym c.index-guards-stair.is) (small_at g j c.index-guards-stair.result c.guards_of-guards.ensures.small low)

pub returns-clause-ok : goal.returns-clause-ok
returns-clause-ok c =
    let g = c.guards_of-guards.result.now in
    let j = c.args.stair.now.index in
    let a = c.negated.result in
    let old = c.args.buffer.now.items in
    let n = c.at.result.count in
    let m = c.min-first.result in
    let lead : AreLacks (take n g) = subst (λ (x : List Atom). AreLacks (take n x)) (ap (λ e. get_or c.args.log.now e []) c.at.ensures.edition ∙ sym c.guards_of-guards.ensures.value) c.at.ensures.lead in
    let low : j < length g = subst (λ x. j < length x) (sym c.guards_of-guards.ensures.value) c.requires.stair.index_in in
    c.in_ok-append_others_of-2.ensures.ok ∙ ap (λ B. B ++ filter is_other (a ∷ [])) c.in_ok-append_others_of.ensures.ok
    ∙ ap (λ B. (old ++ B) ++ filter is_other (a ∷ [])) (lead_filter g n m j (omega (arith, c.min-first.ensures)) (omega (arith, c.min-first.ensures)) lead)
    ∙ append_assoc old (filter is_other (take j g)) (filter is_other (a ∷ []))
    ∙ ap (λ B. old ++ B) (stair_filter is_other g j c.index-guards-stair.result a low (c.negated.ensures ∙ ap negated c.index-guards-stair.is) ∙ ap (λ x. filter is_other (get_or (stairs x) j [])) c.guards_of-guards.ensures.value)
