use Rattle.std.proofs.Common.{[], Err, refl, subst, sym, ◌≡◌}
use Rattle.std.specs.Arc.{arc_value}
use Rattle.std.specs.Prelude.{IfOk}
use Rattle.std.proofs.lemmas.List.{append-nil}
use Rattle.poly_grid.specs.declared.refusal.Refusal.TheVariants.{Spent}
use Rattle.poly_design.specs.Changes.{changed}
use Rattle.poly_design.specs.Layout.{Layout}
use Rattle.poly_place.specs.declared.plan.Plan.{Plan}
use Rattle.poly_place.specs.Delta.{GivesInOrder, IsPlanFor}
use Rattle.poly_place.specs.Spent.{IsSpent}
use Rattle.poly_place.proofs.Ordered.{order_none}
use Rattle.poly_place.proofs.table.Table.plan.Goals as goal

pub returns-in-Ok-clause-ok : goal.returns-in-Ok-clause-ok
returns-in-Ok-clause-ok c = subst (λ (d : Layout). IfOk c.plan_by.result (λ (p : Plan). IsPlanFor c.args.self.now c.args.design.now d (arc_value p.view) p.delta)) c.in-Ok.ensures.ok c.plan_by.ensures.ok

pub returns-in-Err-clause-stays : goal.returns-in-Err-clause-stays
returns-in-Err-clause-stays c = (([], sym (append-nil c.args.self.now.placements)), refl, refl, refl)

pub returns-in-Ok-clause-order : goal.returns-in-Ok-clause-order
returns-in-Ok-clause-order c = subst (λ (d : Layout). GivesInOrder d c.args.self.now.placements c.plan_by.new.self.placements) c.in-Ok.ensures.ok c.plan_by.ensures.order

pub returns-in-Err-clause-order : goal.returns-in-Err-clause-order
returns-in-Err-clause-order c = order_none (changed c.args.design.now c.args.change.now) c.args.self.now.placements c.args.self.now.placements refl

pub returns-in-Ok-clause-last : goal.returns-in-Ok-clause-last
returns-in-Ok-clause-last c = c.plan_by.ensures.last

pub returns-in-Ok-clause-stays : goal.returns-in-Ok-clause-stays
returns-in-Ok-clause-stays c = c.plan_by.ensures.stays

pub returns-in-Ok-clause-right : goal.returns-in-Ok-clause-right
returns-in-Ok-clause-right c = c.plan_by.ensures.right

pub returns-in-Err-clause-right : goal.returns-in-Err-clause-right
returns-in-Err-clause-right c = c.requires.standing

pub returns-in-Ok-clause-spent : goal.returns-in-Ok-clause-spent
returns-in-Ok-clause-spent c = subst (λ (d : Layout). c.plan_by.result ≡ Err Spent → IsSpent c.args.self.now.placements d) c.in-Ok.ensures.ok c.plan_by.ensures.spent
