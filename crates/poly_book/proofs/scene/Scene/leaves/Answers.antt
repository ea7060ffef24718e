use Rattle.std.proofs.Common.{IfOk, subst, ◌∙◌}
use Rattle.poly_report.specs.Trees.{Plan}
use Rattle.poly_report.specs.declared.leaf.Leaves.{Leaves}
use Rattle.poly_search.specs.Searches.{IsExplored}
use Rattle.poly_book.proofs.scene.Scene.leaves.Goals as goal

pub returns : goal.returns
returns c =
    let g = c.leaves_from.ensures in
    record {
      stays = c.self.view_is;
      tree = subst (λ v. IfOk c.leaves_from.result (λ (l : Leaves). (t : Plan) × IsExplored v c.args.atoms.now c.args.nodes t l.tilings.items l.rests)) (c.deref.ensures ∙ c.self.view_is) g.tree;
      why = g.why;
    }
