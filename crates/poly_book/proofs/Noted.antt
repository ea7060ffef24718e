-- Which tasks the maps have noted after a change.
use Rattle.std.proofs.Common.{Bool, List, [], subst, sym, ℕ, ◌++◌, ◌∷◌, ◌≤◌}
use Rattle.std.specs.List.{items_where_true}
use Rattle.poly_design.specs.Layout.{Layout}
use Rattle.poly_design.specs.declared.change.Change.{Change}
use Rattle.poly_tiling.specs.Puzzle.{View}
use Rattle.poly_atom.specs.declared.atom.Atom.{Atom}
use Rattle.poly_atom.specs.Guards.{guards}
use Rattle.poly_atom.specs.Stairs.{stairs}
use Rattle.poly_undo.specs.Steps.{Steps}
use Rattle.poly_tasks.specs.declared.maps.Maps.{Maps}
use Rattle.poly_tasks.specs.declared.shelf.Kept.{Kept}
use Rattle.poly_book.specs.declared.step.Ending.{Ending}
use Rattle.poly_book.specs.declared.step.Kind.{Kind}
use Rattle.poly_book.specs.declared.step.Step.{Step}
use Rattle.poly_tasks.specs.declared.task.Pending.{Pending}
use Rattle.poly_tasks.specs.Mapped.{AreNotedBelow}
use Rattle.poly_tasks.specs.Meaning.{AreTasks}
use Rattle.poly_book.specs.Changing.{stood_by}
use Rattle.poly_tasks.specs.Shelves.{openings}
use Rattle.poly_tasks.specs.Tasks.{hopeful}
use Rattle.poly_book.proofs.Changes.{Did}
use Rattle.poly_tasks.proofs.Noted.{all_picked, below_append, below_fresh, below_push, has_below}

-- if the tasks below b are noted before a change, those below b are noted after it
pub did_noted : {o d d2 : Layout} {v w t2 : View} {ls ls2 : List (List ℕ)} {log log2 : List (List Atom)} {ps ps2 fresh : List Pending} {flags : List Bool} {n n2 : ℕ} {h h2 : Steps Change Kept} {ss ss2 : List Step} {es es2 : List Ending} {k : Kind} {x : Change} {kept : Kept} (b : ℕ) (m : Maps) →
    Did o d d2 v w t2 ls ls2 log log2 ps ps2 fresh flags n n2 h h2 ss ss2 es es2 k x kept → AreTasks log ps → b ≤ n → AreNotedBelow b m log ps → AreNotedBelow b m log2 ps2
did_noted {v = v} {w = w} {log = log} {log2 = log2} {ps = ps} {ps2 = ps2} {fresh = fresh} {flags = flags} {n = n} {h = h} {k = k} b m c are low mapped =
    let log3 = log ++ guards v w ∷ [] in
    let old : AreNotedBelow b m log3 ps = below_push b m log (guards v w) ps are mapped in
    let kept : AreNotedBelow b m log3 (items_where_true flags ps) = all_picked (has_below b m log3) flags ps old in
    let new : AreNotedBelow b m log3 fresh = below_fresh b n m log3 fresh (hopeful w (openings (stood_by log k h) (stairs (guards v w)))) low c.fresh_are.tasks in
    subst (λ L. AreNotedBelow b m L ps2) (sym c.log_is)
    (subst (λ qs. AreNotedBelow b m log3 qs) (sym c.tasks_are) (below_append b m log3 (items_where_true flags ps) fresh kept new))
