use Rattle.poly_desk.specs.Changes.{cut_count}
use Rattle.poly_tests.proofs.desk_crews.work_by_two.Given as goal

abbrev pub ghosts-work_at_a_desk-C-Ledger : goal.ghosts-work_at_a_desk-C-Ledger
ghosts-work_at_a_desk-C-Ledger g a = record { name = a.changes.name; parts = a.changes.parts }

abbrev pub ghosts-work_at_a_desk-K-Ledger : goal.ghosts-work_at_a_desk-K-Ledger
ghosts-work_at_a_desk-K-Ledger g a = record { name = a.cuts.name; parts = a.cuts.parts }

abbrev pub ghosts-work_at_a_desk-O-Opening : goal.ghosts-work_at_a_desk-O-Opening
ghosts-work_at_a_desk-O-Opening g a = record { design = a.book.opened; view = a.book.view; steps = a.book.steps; cuts = cut_count a.book.endings }
