use Rattle.std.proofs.Common.{ap, refl, ◌++◌, ◌∙◌}
use Rattle.std.specs.List.{filter}
use Rattle.poly_tasks.specs.Judged.{is_has, named}
use Rattle.poly_tasks.proofs.fresh.read_frozen.Goals as goal

pub returns-in_err-read-clause-stays : goal.returns-in_err-read-clause-stays
returns-in_err-read-clause-stays c = refl

pub returns-in_err-read_brief-clause-stays : goal.returns-in_err-read_brief-clause-stays
returns-in_err-read_brief-clause-stays c = refl

pub returns-in_err-extend_from_slice-clause-stays : goal.returns-in_err-extend_from_slice-clause-stays
returns-in_err-extend_from_slice-clause-stays c = refl

pub returns-in_err-write_harmed-clause-stays : goal.returns-in_err-write_harmed-clause-stays
returns-in_err-write_harmed-clause-stays c = refl

pub returns-clause-stays : goal.returns-clause-stays
returns-clause-stays c = refl

pub returns-clause-laid : goal.returns-clause-laid
returns-clause-laid c = c.in_ok-read.ensures.laid

pub returns-clause-others : goal.returns-clause-others
returns-clause-others c = c.in_ok-read.ensures.others

pub returns-clause-atoms : goal.returns-clause-atoms
returns-clause-atoms c =
    let asks = c.asks.ensures ∙ c.in_ok-read.ensures.laid.asks ∙ ap (filter is_has) c.in_ok-read.ensures.others in
    c.in_ok-extend_from_slice.ensures.items ∙ (λ i. c.in_ok-read_brief.ensures.ok i ++ asks i)

pub returns-clause-placements : goal.returns-clause-placements
returns-clause-placements c =
    let others = c.others.ensures ∙ c.in_ok-read.ensures.others in
    c.in_ok-write_harmed.ensures.ok ∙ (λ i. c.deref.ensures.value i ++ named (others i))

pub read-requires-clause-frozen : goal.read-requires-clause-frozen
read-requires-clause-frozen c = c.requires.frozen

pub read-requires-clause-laid : goal.read-requires-clause-laid
read-requires-clause-laid c = c.requires.laid

pub read_brief-requires-clause-own : goal.read_brief-requires-clause-own
read_brief-requires-clause-own c = c.requires.frozen.own

pub read_brief-requires-clause-lead : goal.read_brief-requires-clause-lead
read_brief-requires-clause-lead c = c.requires.lead

pub returns-in_err-read-clause-lead : goal.returns-in_err-read-clause-lead
returns-in_err-read-clause-lead c = c.requires.lead

pub returns-in_err-read_brief-clause-lead : goal.returns-in_err-read_brief-clause-lead
returns-in_err-read_brief-clause-lead c = c.read_brief.ensures.lead

pub returns-in_err-extend_from_slice-clause-lead : goal.returns-in_err-extend_from_slice-clause-lead
returns-in_err-extend_from_slice-clause-lead c = c.read_brief.ensures.lead

pub returns-in_err-write_harmed-clause-lead : goal.returns-in_err-write_harmed-clause-lead
returns-in_err-write_harmed-clause-lead c = c.read_brief.ensures.lead

pub returns-clause-lead : goal.returns-clause-lead
returns-clause-lead c = c.read_brief.ensures.lead
