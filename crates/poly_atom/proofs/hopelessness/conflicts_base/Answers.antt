use Rattle.std.proofs.Common.{ap, sym, ℕ, ◌||◌, ◌∙◌}
use Rattle.std.proofs.lemmas.Bool.{or_left}
use Rattle.std.specs.List.{list_any}
use Rattle.poly_tiling.specs.Puzzle.{conflicts}
use Rattle.poly_atom.specs.Hopeless.{asked}
use Rattle.poly_atom.proofs.Counted.{any_asked, any_base}
use Rattle.poly_atom.proofs.hopelessness.conflicts_base.Goals as goal

pub returns-then-conflicts_asked : goal.returns-then-conflicts_asked
returns-then-conflicts_asked c =
    let f = λ (q : ℕ). conflicts c.args.view.now c.args.p q in
    let yes = sym (any_asked f c.args.atoms.now) ∙ sym c.if-conflicts_asked.ensures in
    c.if-conflicts_asked.true ∙ sym (any_base c.args.view.now c.args.atoms.now f ∙ or_left (list_any f (asked c.args.atoms.now)) (list_any f c.args.view.now.pins) yes)

pub returns-else-conflicts_asked : goal.returns-else-conflicts_asked
returns-else-conflicts_asked c =
    let f = λ (q : ℕ). conflicts c.args.view.now c.args.p q in
    let no = sym (any_asked f c.args.atoms.now) ∙ sym c.if-conflicts_asked.ensures in
    c.any_conflict.ensures ∙ ap (λ ps. list_any f ps) c.pins.ensures.value ∙ sym (any_base c.args.view.now c.args.atoms.now f ∙ ap (λ b. b || list_any f c.args.view.now.pins) no)
