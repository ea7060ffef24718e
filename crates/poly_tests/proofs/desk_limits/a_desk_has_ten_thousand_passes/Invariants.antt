use Rattle.poly_desk.specs.Changes.{cut_count}
use Rattle.poly_tests.proofs.desk_limits.a_desk_has_ten_thousand_passes.Given as goal

abbrev pub ghosts-make_passes-C-Ledger : goal.ghosts-make_passes-C-Ledger
ghosts-make_passes-C-Ledger g a = record { name = a.changes.name; parts = a.changes.parts }

abbrev pub ghosts-make_passes-K-Ledger : goal.ghosts-make_passes-K-Ledger
ghosts-make_passes-K-Ledger g a = record { name = a.cuts.name; parts = a.cuts.parts }

abbrev pub ghosts-make_passes-O-Opening : goal.ghosts-make_passes-O-Opening
ghosts-make_passes-O-Opening g a = record { design = a.book.opened; view = a.book.view; steps = a.book.steps; cuts = cut_count a.book.endings }
