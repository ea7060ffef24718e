use Rattle.poly_tasks.proofs.base.base_over_own.Goals as goal

pub with_stair-requires-clause-base : goal.with_stair-requires-clause-base
with_stair-requires-clause-base c = c.in_ok-base-in-Stair.ensures.is c.args.log.now
