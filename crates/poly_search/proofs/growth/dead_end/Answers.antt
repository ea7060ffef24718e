use Rattle.std.proofs.Common.{ap, ◌∙◌}
use Rattle.poly_report.specs.Trees.{Branches}
use Rattle.poly_report.specs.Shapes.{arms_list}
use Rattle.poly_report.proofs.Rows.{plan_of-Branch}
use Rattle.poly_search.proofs.growth.dead_end.Goals as goal

pub returns-clause-tree : goal.returns-clause-tree
returns-clause-tree c = plan_of-Branch c.args.item c.new.result ∙ ap (λ xs. Branches c.args.item (arms_list xs)) c.new.ensures.items
