use Rattle.std.specs.Arc.{arc_value}
use Rattle.std.proofs.Common.{Bool, ap, refl, subst, sym, true, ◌∙◌, ◌≡◌}
use Rattle.std.specs.List.{filter, list_all}
use Rattle.poly_atom.specs.declared.atom.Atom.{Atom}
use Rattle.poly_lists.specs.Words.{is_other}
use Rattle.poly_tasks.specs.Mapped.{below, under}
use Rattle.poly_tasks.specs.Meaning.{IsOwn, base_of}
use Rattle.poly_tasks.proofs.Mapping.{all_others, on_ok_then}
use Rattle.poly_tasks.proofs.maps.Maps.note_base.Goals as goal

pub returns-then-is_noted-clause-ok : goal.returns-then-is_noted-clause-ok
returns-then-is_noted-clause-ok c =
    let k = c.args.number in
    let log = c.args.log.now in
    let f : Atom → Bool = λ a. under c.args.self.now a k in
    let b = arc_value c.in-Crossed.base in
    let own = subst (λ o. IsOwn log o) c.in-Crossed.is c.requires.own in
    let told = c.is_noted.ensures c.if-is_noted.true in
    let is : filter is_other (base_of log b) ≡ c.args.known.now.others.items = sym own.0.others ∙ ap (λ x. x.others.items) (sym c.deref.ensures) ∙ sym c.others-others.ensures ∙ told.0 in
    ap (λ o. list_all f (below log o)) c.in-Crossed.is ∙ all_others f (base_of log b) (λ p. refl) (ap (list_all f) is ∙ c.requires.known k told.1)

pub returns-else-is_noted-clause-ok : goal.returns-else-is_noted-clause-ok
returns-else-is_noted-clause-ok c =
    let k = c.args.number in
    let log = c.args.log.now in
    let m = c.note_new_base.new.self in
    let f : Atom → Bool = λ a. under m a k in
    let b = arc_value c.in-Crossed.base in
    let own = subst (λ o. IsOwn log o) c.in-Crossed.is c.requires.own in
    let others = c.others-others.result.now in
    let is : filter is_other (base_of log b) ≡ others = sym own.0.others ∙ ap (λ x. x.others.items) (sym c.deref.ensures) ∙ sym c.others-others.ensures in
    on_ok_then c.note_new_base.result (list_all f others ≡ true) (list_all f (below log c.args.own.now) ≡ true)
    (λ e. ap (λ o. list_all f (below log o)) c.in-Crossed.is ∙ all_others f (base_of log b) (λ p. refl) (ap (list_all f) is ∙ e))
    c.note_new_base.ensures.ok

pub returns-in-Listed-clause-known : goal.returns-in-Listed-clause-known
returns-in-Listed-clause-known c = c.requires.known

pub returns-in-Listed-clause-wider : goal.returns-in-Listed-clause-wider
returns-in-Listed-clause-wider c = λ a n h. h

pub returns-in-Stair-clause-known : goal.returns-in-Stair-clause-known
returns-in-Stair-clause-known c = c.requires.known

pub returns-in-Stair-clause-wider : goal.returns-in-Stair-clause-wider
returns-in-Stair-clause-wider c = λ a n h. h

pub returns-then-is_noted-clause-known : goal.returns-then-is_noted-clause-known
returns-then-is_noted-clause-known c = c.requires.known

pub returns-then-is_noted-clause-wider : goal.returns-then-is_noted-clause-wider
returns-then-is_noted-clause-wider c = λ a n h. h

pub returns-else-is_noted-clause-known : goal.returns-else-is_noted-clause-known
returns-else-is_noted-clause-known c = c.note_new_base.ensures.known

pub returns-else-is_noted-clause-wider : goal.returns-else-is_noted-clause-wider
returns-else-is_noted-clause-wider c = c.note_new_base.ensures.wider
