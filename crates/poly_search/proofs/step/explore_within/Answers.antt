use Rattle.std.proofs.Common.{ap, subst, sym, true, ◌∙◌, ◌≡◌}
use Rattle.poly_tiling.specs.Lists.{distinct}
use Rattle.std.specs.Prelude.{IfSome, None, Option, Some}
use Rattle.poly_frame.specs.FrameTable.{HasOpen}
use Rattle.poly_frame.specs.Matrices.{IsMatrix}
use Rattle.poly_frame.specs.Walk.{Walk}
use Rattle.poly_report.specs.Shapes.{plan_of}
use Rattle.poly_report.specs.Trees.{Plan}
use Rattle.poly_search.specs.Searches.{IsExplored}
use Rattle.poly_search.proofs.step.explore_within.Goals as goal

both_some : {X : Type 0} (o : Option X) (P Q : X → Type 0) → IfSome o P → IfSome o Q → IfSome o (λ x. P x × Q x)
both_some (Some x) P Q p q = (p, q)
both_some None P Q p q = tt

pub returns-in-Ok-clause-tree : goal.returns-in-Ok-clause-tree
returns-in-Ok-clause-tree c =
    let found = c.in-Ok.e in
    subst (λ (w : Walk). (t : Plan) × (c.args.keep ≡ true → plan_of found.tree ≡ t) × IsExplored w.scene c.args.atoms.now c.args.nodes t found.leaves.tilings.items found.leaves.rests) c.in_ok-frame.ensures.made c.in-Ok.ensures.tree

pub returns-in-Ok-clause-own : goal.returns-in-Ok-clause-own
returns-in-Ok-clause-own c =
    let here = c.in-Ok.ensures.same ∙ c.in_ok-frame.ensures.made in
    let m = c.into_parts-own in
    let w = c.explore_on-explored.new.frame in
    let both = both_some m.result.0 (λ x. IsMatrix w.scene x) (λ x. HasOpen w.scene w.atoms x) m.ensures.part m.ensures.all in
    subst (λ (x : Walk). IfSome m.result.0 (λ y. IsMatrix x.scene y × HasOpen x.scene x.atoms y)) here both

pub explore_on-explored-requires : goal.explore_on-explored-requires
explore_on-explored-requires c =
    let r = c.requires in
    let made = c.in_ok-frame.ensures.made in
    record {
      atoms = ap (λ (w : Walk). w.atoms) made;
      given = ap (λ (w : Walk). w.given) made;
      once = subst (λ (w : Walk). distinct w.scene.live ≡ true) (sym made) c.in_ok-frame.ensures.once;
      some = r.some;
      few = r.few;
    }

pub within-requires : goal.within-requires
within-requires c =
    let r = c.requires in
    record { whole = r.whole; part = r.part; all = r.all }
