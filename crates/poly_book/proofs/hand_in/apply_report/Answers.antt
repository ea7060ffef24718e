use Rattle.std.proofs.Common.{None, Some, get_or, inl, inr, rules, subst, sym, refl, false, ◌≡◌}
use Rattle.std.proofs.lemmas.Result.{IfErr-weaker, IfOk-weaker}
use Rattle.std.specs.List.{position_from}
use Rattle.std.specs.List.Sorted.{IsNonDecreasingBy}
use Rattle.std.specs.Prelude.{◌==◌}
use Rattle.poly_report.specs.Shapes.{plan_of}
use Rattle.poly_report.specs.Sizes.{fits}
use Rattle.poly_tasks.specs.declared.task.Pending.{Pending}
use Rattle.poly_tasks.specs.Meaning.{task_of}
use Rattle.std.specs.Prelude.{IfErr, IfOk, OnErr}
use Rattle.poly_book.specs.declared.parts.Parts.{Parts}
use Rattle.poly_book.specs.Keeps.{Keeps, state_of}
use Rattle.poly_book.specs.Refused.{IsNotApplied}
use Rattle.poly_book.specs.Reports.{AreLeaves, IsApplied}
use Rattle.poly_tasks.proofs.Halving.{numbers_rise}
use Rattle.poly_tasks.proofs.Held.{some_of}
use Rattle.poly_tasks.proofs.Indices.{at_below, at_find, first_at, nowhere}
use Rattle.poly_book.proofs.hand_in.apply_report.Goals as goal

pub index_of-requires : goal.index_of-requires
index_of-requires c =
    let a = c.args.parts.now in
    subst (λ ps. IsNonDecreasingBy (λ (p : Pending). p.number) ps) (sym c.deref.ensures.value) (numbers_rise 0 a.next a.log a.tasks.items c.requires.keeps.whole.rising)

pub returns-in_default-clause-why : goal.returns-in_default-clause-why
returns-in_default-clause-why c =
    let e : position_from (λ (p : Pending). p.number == c.args.report.now.task) 0 c.args.parts.now.tasks.items ≡ None = search rules in
    inl (refl, nowhere c.args.report.now.task 0 c.args.parts.now.log c.args.parts.now.tasks.items e)

pub apply_leaves-requires-clause-keeps : goal.apply_leaves-requires-clause-keeps
apply_leaves-requires-clause-keeps c = subst (λ (p : Parts). Keeps p) (sym c.in_ok-leaves.ensures.stays) c.requires.keeps

pub apply_leaves-requires-clause-leaves : goal.apply_leaves-requires-clause-leaves
apply_leaves-requires-clause-leaves c =
    let f = c.in_ok-leaves.leaves in
    let k = c.args.report.now.task in
    let tree = plan_of c.args.report.now.tree in
    (k, tree, subst (λ (p : Parts). AreLeaves p k c.in-Some.at tree f.tilings.items f.rests) (sym c.in_ok-leaves.ensures.stays) c.in_ok-leaves.ensures.leaves)

pub returns-clause-ok : goal.returns-clause-ok
returns-clause-ok c =
    let b = c.checked_leaves.new.parts in
    let f = c.in_ok-leaves.leaves in
    let k = c.args.report.now.task in
    let tree = plan_of c.args.report.now.tree in
    let same = c.in_ok-leaves.ensures.stays in
    let l : AreLeaves b k c.in-Some.at tree f.tilings.items f.rests = subst (λ (p : Parts). AreLeaves p k c.in-Some.at tree f.tilings.items f.rests) (sym same) c.in_ok-leaves.ensures.leaves in
    subst (λ (p : Parts). IfOk c.apply_leaves.result (λ a. IsApplied k c.args.report.now.edition tree (state_of p) (state_of c.apply_leaves.new.parts) a)) same
    (IfOk-weaker c.apply_leaves.result _ (λ a. IsApplied k c.args.report.now.edition tree (state_of b) (state_of c.apply_leaves.new.parts) a) (λ a h. h k tree l) c.apply_leaves.ensures.ok)

pub returns-clause-err : goal.returns-clause-err
returns-clause-err c = subst (λ (p : Parts). OnErr c.apply_leaves.result (state_of c.apply_leaves.new.parts ≡ state_of p)) c.in_ok-leaves.ensures.stays c.apply_leaves.ensures.err

pub returns-clause-why : goal.returns-clause-why
returns-clause-why c =
    let b = c.checked_leaves.new.parts in
    let f = c.in_ok-leaves.leaves in
    let k = c.args.report.now.task in
    let tree = plan_of c.args.report.now.tree in
    let same = c.in_ok-leaves.ensures.stays in
    let l : AreLeaves b k c.in-Some.at tree f.tilings.items f.rests = subst (λ (p : Parts). AreLeaves p k c.in-Some.at tree f.tilings.items f.rests) (sym same) c.in_ok-leaves.ensures.leaves in
    subst (λ (p : Parts). IfErr c.apply_leaves.result (λ e. IsNotApplied k tree (state_of p) e)) same
    (IfErr-weaker c.apply_leaves.result _ (λ e. IsNotApplied k tree (state_of b) e) (λ e h. inr (inr (h k tree l))) c.apply_leaves.ensures.why)

pub returns-then-not-fits-clause-why : goal.returns-then-not-fits-clause-why
returns-then-not-fits-clause-why c =
    let k = c.args.report.now.task in
    let a = c.args.parts.now in
    let ps = a.tasks.items in
    let e : position_from (λ (p : Pending). p.number == k) 0 ps ≡ Some c.in-Some.at = search rules in
    let small : fits (plan_of c.args.report.now.tree) ≡ false = search rules in
    let x = some_of ps c.in-Some.at (at_below k ps c.in-Some.at (first_at k ps c.in-Some.at e)) in
    inr (inl (task_of a.log (get_or ps c.in-Some.at x), at_find k a.log ps c.in-Some.at x (first_at k ps c.in-Some.at e), inl (refl, small)))
