use Rattle.std.proofs.Common.{ap, sym, ◌∙◌, ◌≡◌}
use Rattle.poly_cli.specs.Books.{session_of}
use Rattle.poly_cli.proofs.Crewed.{stopped_answers}
use Rattle.poly_cli.proofs.team.work_with.Goals.{else-is_pending, then-is_pending}
use Rattle.poly_cli.proofs.team.work_with.Goals as goal

pub returns-after-is_pending-clause-err : goal.returns-after-is_pending-clause-err
returns-after-is_pending-clause-err g c =
    let same : c.of_book-solo.result ≡ c.args.solo = c.of_book-solo.ensures ∙ c.in-Ok.ensures.same ∙ sym (c.into_book.ensures ∙ ap (session_of c.into_book.result) c.requires.unsettled) in
    elim c.if-is_pending.branch [
      | then-is_pending w ↦ rw w.end-is (stopped_answers c.args.solo c.of_book-solo.result w.stopped_by-end.result c.requires.unsettled c.requires.alive same w.stopped_by-end.ensures.why)
      | else-is_pending w ↦ rw w.end-is tt
    ]
