-- What a history keeps is still read from the guard log after a change is noted.
use Rattle.std.proofs.Common.{List, Some, [], subst, sym, ◌++◌, ◌∷◌}
use Rattle.poly_design.specs.declared.change.Change.{Change}
use Rattle.poly_atom.specs.declared.atom.Atom.{Atom}
use Rattle.poly_undo.specs.declared.step.Step.{Step as Beside}
use Rattle.poly_undo.specs.Steps.{Steps}
use Rattle.poly_tasks.specs.declared.shelf.Kept.{Kept}
use Rattle.poly_book.specs.declared.step.Kind.{Kind}
use Rattle.poly_book.specs.declared.step.Kind.TheVariants as kind
use Rattle.poly_book.specs.Changing.{Noted}
use Rattle.poly_tasks.specs.Meaning.{AreHeld, AreHeldBy, IsHeld}
use Rattle.poly_tasks.proofs.Holding.{held_append, held_left, held_made, held_newest}

-- the log has what the shelves are read from also after a change is noted, if it has that of the change's own shelf
pub held_after : (log : List (List Atom)) (k : Kind) (h h2 : Steps Change Kept) (x : Change) (kept : Kept) → AreHeld log h → IsHeld log kept.shelf → Noted k h h2 x kept → AreHeld log h2
held_after log kind.Edit h h2 x kept a b n =
    let added : Beside Change Kept = record { change = x; kept = Some kept } in
    (held_newest log (h.undo ++ added ∷ []) h2.undo n.0 (held_append log h.undo (added ∷ []) a.0 (b, tt)), subst (λ xs. AreHeldBy log xs) (sym n.1) tt)
held_after log kind.Undo h h2 x kept a b n =
    let m = n.1 in
    (held_left log h.undo h.redo h2.undo h2.redo (Some kept) n.0 m a.0, held_made log h.undo h.redo h2.undo h2.redo (Some kept) n.0 m a.1 b)
held_after log kind.Redo h h2 x kept a b n =
    let m = n.1 in
    (held_made log h.redo h.undo h2.redo h2.undo (Some kept) n.0 m a.0 b, held_left log h.redo h.undo h2.redo h2.undo (Some kept) n.0 m a.1)
