use Rattle.std.proofs.Common.{[], Bool, Global, Vec, ap, arith, get_or, not, sym, ◌&&◌, ◌++◌, ◌∙◌, ◌∷◌}
use Rattle.poly_atom.specs.declared.atom.Atom.{Atom}
use Rattle.poly_atom.specs.declared.atom.Atom.TheVariants.{Has}
use Rattle.poly_atom.specs.Hopeless.{hopeless}
use Rattle.poly_tasks.proofs.Lacking.{calm_next, calm_push}
use Rattle.poly_tasks.proofs.judge.calm_stairs.Goals as goal
use Rattle.poly_tasks.proofs.judge.calm_stairs.Goals.{else-stays, then-stays+in_ok-stays}

pub loop-index-preserved : goal.loop-index-preserved
loop-index-preserved c =
    let w = c.args.view.now in
    let g = c.args.guards.now in
    let base = c.args.atoms.now.items in
    let k = c.loop-index.index in
    let f : Atom → Bool = λ a. hopeless w (base ++ a ∷ []) in
    let pushed = calm_push f g k c.loop-index.calm.items c.loop-index.stays c.push.new.self.items c.in_ok-push.ensures.items c.loop-index.invariant.long c.loop-index.invariant.stays c.loop-index.invariant.each in
    elim c.if-stays.branch [
      | then-stays+in_ok-stays v ↦ record {
        atoms = ap (λ (x : Vec Atom Global). x.items) v.atoms-is ∙ v.in_ok-stays.ensures.atoms ∙ c.loop-index.invariant.atoms;
        long = pushed.0;
        each = pushed.1;
        stays = v.stays-is ∙ ap not (v.in_ok-stays.ensures.ok ∙ (λ i. hopeless w (c.loop-index.invariant.atoms i ++ v.index-guards-index.is i ∷ [])))
            ∙ ap (λ b. b && not (f (get_or g k v.index-guards-index.result))) (sym v.if-stays.true) ∙ calm_next f g k v.index-guards-index.result c.loop-index.stays c.loop-index-test.true c.loop-index.invariant.stays;
      }
      | else-stays v ↦ record {
        atoms = ap (λ (x : Vec Atom Global). x.items) v.atoms-is ∙ c.loop-index.invariant.atoms;
        long = pushed.0;
        each = pushed.1;
        stays = v.stays-is ∙ v.if-stays.false ∙ ap (λ b. b && not (f (get_or g k (Has 0)))) (sym v.if-stays.false) ∙ calm_next f g k (Has 0) c.loop-index.stays c.loop-index-test.true c.loop-index.invariant.stays;
      }
    ]

pub returns-then-index-guards-clause-calm : goal.returns-then-index-guards-clause-calm
returns-then-index-guards-clause-calm c =
    let f : Atom → Bool = λ a. hopeless c.args.view.now (c.args.atoms.now.items ++ a ∷ []) in
    let was = c.loop-index.invariant in
    let pushed = calm_push f c.args.guards.now c.loop-index.index c.loop-index.calm.items c.loop-index.stays c.push.new.self.items c.in_ok-push.ensures.items was.long was.stays was.each in
    record { long = pushed.0 ∙ c.if-index-guards.true; each = λ i l. pushed.1 i (omega (arith, l, c.if-index-guards.true)) }
