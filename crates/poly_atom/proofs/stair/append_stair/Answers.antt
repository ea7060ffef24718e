use Rattle.std.proofs.Common.{ap, subst, sym, take, ◌++◌, ◌∙◌, ◌∷◌, []}
use Rattle.std.proofs.lemmas.List.{append_assoc}
use Rattle.poly_atom.specs.Atoms.{IsSmall, negated}
use Rattle.poly_atom.proofs.Walks.{small_at, stairs_at}
use Rattle.poly_atom.proofs.stair.append_stair.Goals as goal

pub negated-requires : goal.negated-requires
negated-requires c = subst IsSmall (sym c.index-atoms-index.is) (small_at c.args.atoms.now c.args.index c.index-atoms-index.result c.requires.small c.requires.inside)

pub returns : goal.returns
returns c =
    let old = c.args.list.now.items in
    let before = take c.args.index c.args.atoms.now in
    c.in_ok-push.ensures.items ∙ ap (λ s. s ++ c.negated.result ∷ []) c.in_ok-extend_from_slice.ensures.items
    ∙ append_assoc old before (c.negated.result ∷ [])
    ∙ ap (λ a. old ++ (before ++ a ∷ [])) (c.negated.ensures ∙ ap negated c.index-atoms-index.is)
    ∙ ap (λ s. old ++ s) (sym (stairs_at c.args.atoms.now c.args.index c.index-atoms-index.result c.requires.inside))
