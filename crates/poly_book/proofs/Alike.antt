use mathlib.Core.Path.{transport}
use Rattle.std.proofs.Common.{List, sym, ℕ, ◌≡◌}
use Rattle.poly_design.specs.Layout.{Layout}
use Rattle.poly_design.specs.declared.change.Change.{Change}
use Rattle.poly_tiling.specs.Puzzle.{View}
use Rattle.poly_atom.specs.declared.atom.Atom.{Atom}
use Rattle.poly_undo.specs.Steps.{Steps}
use Rattle.poly_tasks.specs.declared.register.Register.{Register}
use Rattle.poly_tasks.specs.declared.shelf.Kept.{Kept}
use Rattle.poly_tasks.specs.declared.task.Pending.{Pending}
use Rattle.poly_book.specs.declared.step.Step.{Step}
use Rattle.poly_book.specs.declared.step.Ending.{Ending}
use Rattle.poly_book.specs.Keeps.{KeepsOf}

-- what holds of the fields holds of equal fields: of lists that room was made for, or that were put back
pub keeps_alike : {m : Register} {o d : Layout} {v t : View} {ls ls2 : List (List ℕ)} {log : List (List Atom)} {ps ps2 : List Pending} {n : ℕ} {h : Steps Change Kept} {ss ss2 : List Step} {es es2 : List Ending} →
    ls2 ≡ ls → ps2 ≡ ps → ss2 ≡ ss → es2 ≡ es → KeepsOf m o d v t ls log ps n h ss es → KeepsOf m o d v t ls2 log ps2 n h ss2 es2
keeps_alike {m} {o} {d} {v} {t} {log = log} {n = n} {h = h} l p s e k = transport (λ i. KeepsOf m o d v t (sym l i) log (sym p i) n h (sym s i) (sym e i)) k
