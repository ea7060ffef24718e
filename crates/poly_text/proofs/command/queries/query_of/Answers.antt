use Rattle.std.proofs.Common.{refl, sym, ◌∙◌}
use Rattle.poly_text.specs.Queries.{has, lacks, covers}
use Rattle.poly_text.proofs.Asking.{query_plus, query_minus, query_at}
use Rattle.poly_text.proofs.command.queries.query_of.Goals as goal

pub returns-in_ok-made-clause-ok : goal.returns-in_ok-made-clause-ok
returns-in_ok-made-clause-ok c =
    let read = c.in_ok-made.ensures.ok in
    (has read.0, query_plus c.args.word.now read.0 c.in-len1-up.len_at_least c.if-first-eq43.true read.1, read.2)

pub returns-in_ok-made-2-clause-ok : goal.returns-in_ok-made-2-clause-ok
returns-in_ok-made-2-clause-ok c =
    let read = c.in_ok-made-2.ensures.ok in
    (lacks read.0, query_minus c.args.word.now read.0 c.in-len1-up.len_at_least c.if-first-eq45.true read.1, read.2)

pub returns-in_ok-item-clause-ok : goal.returns-in_ok-item-clause-ok
returns-in_ok-item-clause-ok c =
    (covers c.in_ok-item.item, query_at c.args.word.now c.in_ok-item.item c.in-len1-up.len_at_least c.if-first-eq64.true (sym c.item_of.ensures ∙ c.in_ok-item.was), refl)
