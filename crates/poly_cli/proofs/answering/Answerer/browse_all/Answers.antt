use Rattle.std.proofs.Common.{inl, refl}
use Rattle.poly_cli.specs.Questions.{answer_text}
use Rattle.poly_cli.proofs.answering.Answerer.browse_all.Goals as goal

pub returns-in-Ok-clause-says : goal.returns-in-Ok-clause-says
returns-in-Ok-clause-says g c =
    let a = c.in-Ok.answer in
    (answer_text a.forced.items a.options.items a.count, inl (a.count, a.forced.items, a.options.items, c.in-Ok.ensures.ok, refl), c.print_answer.ensures)
