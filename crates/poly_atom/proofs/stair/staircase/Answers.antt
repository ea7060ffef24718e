use Rattle.std.proofs.Common.{Global, Vec, [], ap, arith, map, sym, take, ◌++◌, ◌<◌, ◌∙◌, ◌∷◌, length}
use Rattle.std.proofs.lemmas.List.{map_push, take_all, take_more}
use Rattle.poly_atom.specs.declared.atom.Atom.{Atom}
use Rattle.poly_atom.specs.Stairs.{stairs}
use Rattle.poly_atom.proofs.Walks.{length-stairs}
use Rattle.poly_atom.proofs.stair.staircase.Goals as goal

pub loop-i-preserved : goal.loop-i-preserved
loop-i-preserved c =
    let there : c.loop-i.i < length (stairs c.args.atoms.now) = omega (arith, c.loop-i-test.true, length-stairs c.args.atoms.now) in
    ap (λ xs. map {A = Vec Atom Global} (λ w. w.items) xs) c.in_ok-push.ensures.items ∙ map_push {X = Vec Atom Global} (λ w. w.items) c.loop-i.all.items c.in_ok-stair.stair
    ∙ ap (λ xs. xs ++ c.in_ok-stair.stair.items ∷ []) c.loop-i.invariant ∙ ap (λ s. take c.loop-i.i (stairs c.args.atoms.now) ++ s ∷ []) c.in_ok-stair.ensures
    ∙ sym (take_more (stairs c.args.atoms.now) c.loop-i.i [] there)

pub returns-clause-ok : goal.returns-clause-ok
returns-clause-ok c =
    c.loop-i.invariant ∙ take_all c.loop-i.i (stairs c.args.atoms.now) (omega (arith, c.loop-i-test.false, length-stairs c.args.atoms.now))
