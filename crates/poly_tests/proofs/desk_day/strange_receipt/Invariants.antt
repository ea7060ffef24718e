use Rattle.poly_desk.specs.Changes.{cut_count}
use Rattle.poly_tests.proofs.desk_day.strange_receipt.Given as goal

abbrev pub ghosts-fourth-C-Ledger : goal.ghosts-fourth-C-Ledger
ghosts-fourth-C-Ledger g a = record { name = a.changes.name; parts = a.changes.parts }

abbrev pub ghosts-fourth-K-Ledger : goal.ghosts-fourth-K-Ledger
ghosts-fourth-K-Ledger g a = record { name = a.cuts.name; parts = a.cuts.parts }

abbrev pub ghosts-fourth-O-Opening : goal.ghosts-fourth-O-Opening
ghosts-fourth-O-Opening g a = record { design = a.book.opened; view = a.book.view; steps = a.book.steps; cuts = cut_count a.book.endings }
