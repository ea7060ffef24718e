use Rattle.std.proofs.Common.{Bool, ap, sym, ◌||◌, ◌∙◌}
use Rattle.std.proofs.lemmas.Bool.{or_left}
use Rattle.std.specs.List.{list_any}
use Rattle.poly_atom.specs.Hopeless.{beyond, lost}
use Rattle.poly_atom.proofs.Asked.{found_is}
use Rattle.poly_atom.proofs.hopelessness.any_bad.Goals as goal

pub returns-then-any_lost : goal.returns-then-any_lost
returns-then-any_lost c =
    let v = c.args.view.now in
    let first : Bool = list_any (λ a. lost v c.args.gathered.now a) c.args.gathered.now in
    let second : Bool = list_any (λ a. beyond v c.args.gathered.now a) c.args.atoms.now in
    c.if-any_lost.true ∙ sym (sym (found_is v c.args.gathered.now c.args.atoms.now c.requires) ∙ or_left first second (sym c.if-any_lost.ensures))

pub returns-else-any_lost : goal.returns-else-any_lost
returns-else-any_lost c =
    let v = c.args.view.now in
    let second : Bool = list_any (λ a. beyond v c.args.gathered.now a) c.args.atoms.now in
    c.any_beyond.ensures ∙ sym (sym (found_is v c.args.gathered.now c.args.atoms.now c.requires) ∙ ap (λ b. b || second) (sym c.if-any_lost.ensures))
