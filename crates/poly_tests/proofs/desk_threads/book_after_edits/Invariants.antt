use Rattle.poly_desk.specs.Changes.{cut_count}
use Rattle.poly_tests.proofs.desk_threads.book_after_edits.Given as goal

abbrev pub ghosts-edit_together-C-Ledger : goal.ghosts-edit_together-C-Ledger
ghosts-edit_together-C-Ledger g a = record { name = a.changes.name; parts = a.changes.parts }

abbrev pub ghosts-edit_together-K-Ledger : goal.ghosts-edit_together-K-Ledger
ghosts-edit_together-K-Ledger g a = record { name = a.cuts.name; parts = a.cuts.parts }

abbrev pub ghosts-edit_together-O-Opening : goal.ghosts-edit_together-O-Opening
ghosts-edit_together-O-Opening g a = record { design = a.book.opened; view = a.book.view; steps = a.book.steps; cuts = cut_count a.book.endings }
