use Rattle.std.proofs.Common.{List, ap, arith, drop, length, not, sym, take, ◌-◌, ◌∙◌, ◌||◌, ◌≡◌}
use Rattle.std.specs.List.{list_any}
use Rattle.std.proofs.lemmas.List.{length-drop, take_all}
use Rattle.poly_atom.specs.declared.atom.Atom.{Atom}
use Rattle.poly_atom.specs.Hopeless.{lacks}
use Rattle.poly_frame.proofs.Alive.{dead_says, some_word}
use Rattle.poly_frame.proofs.frame.alive.is_dead.Goals as goal

pub returns-then-not-has_number : goal.returns-then-not-has_number
returns-then-not-has_number c =
    let n = c.args.node.now in
    let p = c.args.number in
    ap not c.if-not-has_number.true ∙ ap (λ b. not b || list_any (λ a. lacks a p) (drop n.given n.trail.now)) (sym (sym c.has_number.ensures ∙ c.if-not-has_number.true))
    ∙ dead_says n.view.now n.trail.now n.given n.alive.now p c.requires (some_word n.alive.now (sym c.is_empty.ensures ∙ c.if-is_empty.false))

pub returns-else-not-has_number : goal.returns-else-not-has_number
returns-else-not-has_number c =
    let n = c.args.node.now in
    let p = c.args.number in
    let later : take (length n.trail.now - n.given) (drop n.given n.trail.now) ≡ drop n.given n.trail.now = take_all (length n.trail.now - n.given) (drop n.given n.trail.now) (omega (arith, length-drop n.given n.trail.now)) in
    c.any_lacks.ensures ∙ ap (λ (A : List Atom). list_any (λ a. lacks a p) A) later
    ∙ ap (λ b. not b || list_any (λ a. lacks a p) (drop n.given n.trail.now)) (sym (sym c.has_number.ensures ∙ c.if-not-has_number.false))
    ∙ dead_says n.view.now n.trail.now n.given n.alive.now p c.requires (some_word n.alive.now (sym c.is_empty.ensures ∙ c.if-is_empty.false))
