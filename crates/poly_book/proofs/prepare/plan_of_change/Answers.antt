use Rattle.poly_design.specs.Changes.{changed}
use Rattle.poly_tiling.proofs.Grown.{grown_on}
use Rattle.poly_book.proofs.Enough.{plan_enough, plan_over}
use Rattle.poly_book.proofs.prepare.plan_of_change.Goals as goal

pub returns-in-Ok-clause-ok : goal.returns-in-Ok-clause-ok
returns-in-Ok-clause-ok c = plan_over c.args.view.now c.args.table.now c.args.design.now c.args.after.now (changed c.args.design.now c.args.change.now) c.in-Ok.plan c.requires.first c.requires.right c.requires.after c.in-Ok.ensures.ok

pub returns-in-Ok-clause-enough : goal.returns-in-Ok-clause-enough
returns-in-Ok-clause-enough c = plan_enough c.args.view.now c.args.table.now c.args.design.now c.args.after.now (changed c.args.design.now c.args.change.now) c.in-Ok.plan c.requires.first c.requires.after c.in-Ok.ensures.ok c.in-Ok.ensures.few

pub returns-in-Ok-clause-first : goal.returns-in-Ok-clause-first
returns-in-Ok-clause-first c = grown_on c.args.view.now c.args.table.now c.plan_by.new.self c.requires.first c.plan_by.ensures.stays

pub returns-in-Err-Memory-clause-first : goal.returns-in-Err-Memory-clause-first
returns-in-Err-Memory-clause-first c = grown_on c.args.view.now c.args.table.now c.plan_by.new.self c.requires.first c.plan_by.ensures.stays

pub plan_again-requires-clause-first : goal.plan_again-requires-clause-first
plan_again-requires-clause-first c = grown_on c.args.view.now c.args.table.now c.plan_by.new.self c.requires.first c.plan_by.ensures.stays
