use Rattle.std.proofs.Common.{subst, sym, ◌∙◌, ◌≡◌}
use Rattle.poly_atom.specs.Atoms.{AllSmall}
use Rattle.poly_atom.specs.Guards.{guards, guards_by}
use Rattle.poly_atom.proofs.Laid.{back_is, forth_is}
use Rattle.poly_atom.proofs.Small.{guards_small}
use Rattle.poly_atom.proofs.both.both_guards.Goals as goal

forth_items : (c : goal.In_ok-back) → c.in_ok-forth.forth.items ≡ guards c.args.before.now c.args.after.now
forth_items c =
    c.in_ok-forth.ensures
    ∙ (λ i. guards_by c.args.before.now (c.deref.ensures.value i) (c.deref-2.ensures.value i) (c.deref-3.ensures.value i) (c.deref-4.ensures.value i))
    ∙ forth_is c.args.before.now c.args.after.now c.args.delta.now c.requires

back_items : (c : goal.In_ok-back) → c.in_ok-back.back.items ≡ guards c.args.after.now c.args.before.now
back_items c =
    c.in_ok-back.ensures
    ∙ (λ i. guards_by c.args.after.now (c.deref-5.ensures.value i) (c.deref-6.ensures.value i) (c.deref-7.ensures.value i) (c.deref-8.ensures.value i))
    ∙ back_is c.args.before.now c.args.after.now c.args.delta.now c.requires

pub returns-clause-forth : goal.returns-clause-forth
returns-clause-forth c = forth_items c

pub returns-clause-back : goal.returns-clause-back
returns-clause-back c = back_items c

pub returns-clause-small : goal.returns-clause-small
returns-clause-small c = (
  subst AllSmall (sym (forth_items c)) (guards_small c.args.before.now c.args.after.now c.requires.shown.well),
  subst AllSmall (sym (back_items c)) (guards_small c.args.after.now c.args.before.now c.requires.updated.well),
)
