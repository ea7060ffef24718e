use Rattle.poly_desk.specs.Changes.{cut_count}
use Rattle.poly_tests.proofs.desk_day.whole_day.Given as goal

abbrev pub ghosts-day-C-Ledger : goal.ghosts-day-C-Ledger
ghosts-day-C-Ledger g a = record { name = a.changes.name; parts = a.changes.parts }

abbrev pub ghosts-day-K-Ledger : goal.ghosts-day-K-Ledger
ghosts-day-K-Ledger g a = record { name = a.cuts.name; parts = a.cuts.parts }

abbrev pub ghosts-day-O-Opening : goal.ghosts-day-O-Opening
ghosts-day-O-Opening g a = record { design = a.book.opened; view = a.book.view; steps = a.book.steps; cuts = cut_count a.book.endings }
