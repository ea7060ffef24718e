use Rattle.std.proofs.Common.{ap, subst, sym, ◌∙◌}
use Rattle.poly_design.specs.Changes.{changed}
use Rattle.poly_design.specs.Layout.{Layout}
use Rattle.poly_design.specs.Limits.{IsDesign}
use Rattle.poly_place.proofs.table.after.Goals as goal

pub make-requires : goal.make-requires
make-requires c = subst (λ (d : Layout). IsDesign (changed d c.args.change.now)) (sym c.in_ok-copy.ensures.ok) c.requires

pub returns-clause-ok : goal.returns-clause-ok
returns-clause-ok c = c.in_ok-make.ensures.ok ∙ ap (λ (d : Layout). changed d c.args.change.now) c.in_ok-copy.ensures.ok
