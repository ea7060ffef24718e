use Rattle.std.proofs.Common.{Some, ap, arith, get_or, inl, inr, rules, subst, sym, refl, false, ◌∙◌, ◌≡◌}
use Rattle.poly_report.specs.Gather.{IsCutUp}
use Rattle.poly_report.specs.Holds.{holds}
use Rattle.poly_report.specs.Shapes.{plan_of}
use Rattle.poly_tasks.specs.Meaning.{IsTask, task_of}
use Rattle.poly_tasks.specs.Tasks.{atoms_of}
use Rattle.poly_tasks.proofs.Held.{task_at}
use Rattle.poly_tasks.proofs.Indices.{at_below, at_find, first_at}
use Rattle.poly_book.proofs.hand_in.checked_leaves.Goals as goal

pub index-requires : goal.index-requires
index-requires c = omega (arith, at_below c.args.report.now.task c.args.parts.now.tasks.items c.args.at (first_at c.args.report.now.task c.args.parts.now.tasks.items c.args.at c.requires.index))

pub all_atoms-requires : goal.all_atoms-requires
all_atoms-requires c =
    let ps = c.args.parts.now.tasks.items in
    let e = c.requires.index in
    let x = c.index.result.now in
    let is : x ≡ get_or ps c.args.at x = search rules in
    subst (λ p. IsTask c.args.parts.now.log p) (sym is) (task_at c.args.parts.now.log ps c.args.at x c.requires.keeps.tasks (at_below c.args.report.now.task ps c.args.at (first_at c.args.report.now.task ps c.args.at e)))

pub returns-clause-leaves : goal.returns-clause-leaves
returns-clause-leaves c =
    let k = c.args.report.now.task in
    let a = c.args.parts.now in
    let ps = a.tasks.items in
    let log = a.log in
    let v = a.scene in
    let tree = plan_of c.args.report.now.tree in
    let found = c.in-Some.leaves in
    let e = c.requires.index in
    let x = c.index.result.now in
    let is : x ≡ get_or ps c.args.at x = search rules in
    let atoms : c.deref.result.now ≡ atoms_of (task_of log x) = c.deref.ensures.value ∙ c.in_ok-atoms.ensures.ok in
    let m0 : IsCutUp v c.deref.result.now tree found.tilings.items found.rests = rw c.in-Some.is at c.in_ok-leaves.ensures.value in
    let m1 = subst (λ A. IsCutUp v A tree found.tilings.items found.rests) atoms m0 in
    record {
      task = task_of log x;
      first = e;
      there = at_find k log ps c.args.at x (first_at k ps c.args.at e) ∙ ap (λ y. Some (task_of log y)) (sym is);
      small = c.requires.small;
      cut = m1;
    }

pub returns-in_default-clause-why : goal.returns-in_default-clause-why
returns-in_default-clause-why c =
    let k = c.args.report.now.task in
    let a = c.args.parts.now in
    let ps = a.tasks.items in
    let log = a.log in
    let v = a.scene in
    let tree = plan_of c.args.report.now.tree in
    let e = c.requires.index in
    let x = c.index.result.now in
    let is : x ≡ get_or ps c.args.at x = search rules in
    let atoms : c.deref.result.now ≡ atoms_of (task_of log x) = c.deref.ensures.value ∙ c.in_ok-atoms.ensures.ok in
    let m0 : holds v c.deref.result.now tree ≡ false = search rules in
    let wrong : holds v (atoms_of (task_of log x)) tree ≡ false = sym (ap (λ A. holds v A tree) atoms) ∙ m0 in
    inr (inl (task_of log x, at_find k log ps c.args.at x (first_at k ps c.args.at e) ∙ ap (λ y. Some (task_of log y)) (sym is), inr (refl, c.requires.small, wrong)))
