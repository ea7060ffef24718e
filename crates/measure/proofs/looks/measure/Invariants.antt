use Rattle.poly_desk.specs.Changes.{cut_count}
use Rattle.measure.proofs.looks.measure.Given as goal

abbrev pub ghosts-measure_desk-C-Ledger : goal.ghosts-measure_desk-C-Ledger
ghosts-measure_desk-C-Ledger g a = record { name = a.changes.name; parts = a.changes.parts }

abbrev pub ghosts-measure_desk-K-Ledger : goal.ghosts-measure_desk-K-Ledger
ghosts-measure_desk-K-Ledger g a = record { name = a.cuts.name; parts = a.cuts.parts }

abbrev pub ghosts-measure_desk-O-Opening : goal.ghosts-measure_desk-O-Opening
ghosts-measure_desk-O-Opening g a = record { design = a.book.opened; view = a.book.view; steps = a.book.steps; cuts = cut_count a.book.endings }
