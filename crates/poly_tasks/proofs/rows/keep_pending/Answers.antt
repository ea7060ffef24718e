use Rattle.std.proofs.Common.{rules}
use Rattle.std.proofs.lemmas.Fn.{filter_same}
use Rattle.poly_tasks.specs.Mapped.{has_pending}
use Rattle.poly_tasks.proofs.rows.keep_pending.Goals as goal

pub returns : goal.returns
returns c = filter_same _ (λ s. has_pending c.args.pending.now s) _ (λ x b f' k. search rules) _ _ c.retain.ensures.filtered
