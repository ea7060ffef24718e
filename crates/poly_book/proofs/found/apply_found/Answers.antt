use Rattle.std.proofs.Common.{None, Some, ap, inl, inr, refl, rules, subst, sym, ◌∙◌, ◌≡◌}
use Rattle.std.proofs.lemmas.Result.{IfErr-weaker, IfOk-weaker}
use Rattle.std.specs.List.{position_from}
use Rattle.std.specs.List.Sorted.{IsNonDecreasingBy}
use Rattle.std.specs.Prelude.{◌==◌}
use Rattle.poly_report.specs.Shapes.{plan_of}
use Rattle.poly_tasks.specs.declared.task.Pending.{Pending}
use Rattle.poly_book.specs.Findings.{IsFound}
use Rattle.poly_book.specs.Keeps.{state_of}
use Rattle.poly_book.specs.Refused.{IsNotApplied}
use Rattle.poly_book.specs.Reports.{AreLeaves, IsApplied}
use Rattle.poly_tasks.specs.Tasks.{AreHopeful}
use Rattle.poly_tasks.proofs.Halving.{numbers_rise}
use Rattle.poly_tasks.proofs.Indices.{nowhere}
use Rattle.poly_book.proofs.Searched.{found_leaves}
use Rattle.poly_book.proofs.found.apply_found.Goals as goal

pub index_of-requires : goal.index_of-requires
index_of-requires c =
    let a = c.args.parts.now in
    subst (λ ps. IsNonDecreasingBy (λ (p : Pending). p.number) ps) (sym c.deref.ensures.value) (numbers_rise 0 a.next a.log a.tasks.items c.requires.keeps.whole.rising)

pub returns-in_default : goal.returns-in_default
returns-in_default c =
    let none : c.index_of.result ≡ None = search rules in
    let e : position_from (λ (p : Pending). p.number == c.args.report.now.task) 0 c.args.parts.now.tasks.items ≡ None = ap (λ ps. position_from (λ (p : Pending). p.number == c.args.report.now.task) 0 ps) (sym c.deref.ensures.value) ∙ sym c.index_of.ensures ∙ none in
    record {
      keeps = c.requires.keeps;
      ok = tt;
      err = refl;
      why = inl (refl, nowhere c.args.report.now.task 0 c.args.parts.now.log c.args.parts.now.tasks.items e);
    }

pub is_hopeful-sure-requires : goal.is_hopeful-sure-requires
is_hopeful-sure-requires c =
    let r = c.args.report.now in
    let ls = c.args.leaves in
    (plan_of r.tree, subst (λ v. IsFound v c.args.atoms.now (plan_of r.tree) ls.tilings.items ls.rests) (sym c.view.ensures) c.requires.found)

pub apply_leaves-requires-clause-sure : goal.apply_leaves-requires-clause-sure
apply_leaves-requires-clause-sure c = λ yes. subst (λ v. AreHopeful v c.args.leaves.rests) c.view.ensures (c.is_hopeful-sure.ensures yes)

pub returns-then-has_atoms : goal.returns-then-has_atoms
returns-then-has_atoms c =
    let a = c.args.parts.now in
    let r = c.args.report.now in
    let k = r.task in
    let tree = plan_of r.tree in
    let ls = c.args.leaves in
    let g = c.apply_leaves.ensures in
    let first : position_from (λ (p : Pending). p.number == k) 0 a.tasks.items ≡ Some c.in-Some.at = ap (λ ps. position_from (λ (p : Pending). p.number == k) 0 ps) (sym c.deref.ensures.value) ∙ sym c.index_of.ensures ∙ c.in-Some.is in
    let l : AreLeaves a k c.in-Some.at tree ls.tilings.items ls.rests = found_leaves a k c.in-Some.at a.scene c.args.atoms.now tree ls.tilings.items ls.rests refl c.requires.found first (c.has_atoms.ensures.same c.if-has_atoms.true) in
    record {
      keeps = g.keeps;
      ok = IfOk-weaker c.apply_leaves.result _ (λ x. IsApplied k r.edition tree (state_of a) (state_of c.apply_leaves.new.parts) x) (λ x h. h k tree l) g.ok;
      err = g.err;
      why = IfErr-weaker c.apply_leaves.result _ (λ e. IsNotApplied k tree (state_of a) e) (λ e h. inr (inr (h k tree l))) g.why;
    }

pub returns : goal.returns
returns c =
    let g = c.apply_report.ensures in
    record {
      keeps = g.keeps;
      ok = g.ok;
      err = g.err;
      why = g.why;
    }
