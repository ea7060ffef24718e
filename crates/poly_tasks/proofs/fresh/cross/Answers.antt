use Rattle.std.specs.Arc.{arc_value}
use Rattle.std.proofs.Common.{List, arith, inl, inr, map, subst, sym, ℕ, ◌++◌, ◌∙◌, ◌∷◌, ◌≡◌, []}
use Rattle.std.proofs.lemmas.Result.{err_from_is_err_and}
use Rattle.poly_tiling.specs.Puzzle.{View}
use Rattle.poly_atom.specs.declared.atom.Atom.{Atom}
use Rattle.poly_atom.specs.Stairs.{stairs}
use Rattle.poly_tasks.specs.declared.task.Pending.{Pending}
use Rattle.poly_tasks.specs.Meaning.{base_of, frozen_of}
use Rattle.poly_tasks.specs.Judged.{AreJudged}
use Rattle.poly_tasks.specs.Opens.{Opening}
use Rattle.poly_tasks.proofs.Judging.{judged_over, opening_none}
use Rattle.poly_tasks.proofs.fresh.cross.Goals as goal

-- what is still to be opened over a list, over the same list
opening_over_same : (log : List (List Atom)) (next n : ℕ) (w : View) (all S rest : List (List Atom)) (ps : List Pending) (A C : List Atom) → C ≡ A → Opening log next n w all (map (λ B. A ++ B) S ++ rest) ps → Opening log next n w all (map (λ B. C ++ B) S ++ rest) ps
opening_over_same log next n w all S rest ps A C e o = subst (λ X. Opening log next n w all (map (λ B. X ++ B) S ++ rest) ps) (sym e) o

pub shared_base-requires-clause-laid : goal.shared_base-requires-clause-laid
shared_base-requires-clause-laid c = c.in_ok-judge_frozen.ensures.laid

pub shared_base-requires-clause-none : goal.shared_base-requires-clause-none
shared_base-requires-clause-none c = c.in_ok-judge_frozen.ensures.ready.none

pub add_crossed-requires-clause-edition : goal.add_crossed-requires-clause-edition
add_crossed-requires-clause-edition c = omega (arith, c.len-edition.ensures, c.requires.edition)

pub returns-then-not-branch-clause-ok : goal.returns-then-not-branch-clause-ok
returns-then-not-branch-clause-ok c = λ next all rest o.
    let log = c.args.log.now in
    let base = frozen_of log c.args.frozen.now in
    opening_none (log ++ c.args.guards.now ∷ []) next c.args.start c.args.view.now all (map (λ B. base ++ B) (stairs c.args.guards.now)) rest c.args.tasks.now.items (c.in_ok-judge_frozen.ensures.none c.if-not-branch.true) o

pub returns-clause-ok : goal.returns-clause-ok
returns-clause-ok c = λ next all rest o.
    let log = c.args.log.now in
    let g = c.args.guards.now in
    let w = c.args.view.now in
    let base = base_of log (arc_value c.in_ok-base.base) in
    let is : base ≡ frozen_of log c.args.frozen.now = c.in_ok-base.ensures.base in
    let judged : AreJudged w base (stairs g) c.deref.result.now = c.deref.ensures.value ∙ judged_over w (frozen_of log c.args.frozen.now) base (stairs g) _ (c.in_ok-judge_frozen.ensures.flags c.if-not-branch.false) (sym is) in
    c.in_ok-number.ensures.ok w g log next all rest (sym c.len-edition.ensures) c.in_ok-base.ensures.is judged (opening_over_same (log ++ g ∷ []) next c.args.start w all (stairs g) rest c.args.tasks.now.items (frozen_of log c.args.frozen.now) base is o)

pub returns-in_err-number-clause-why : goal.returns-in_err-number-clause-why
returns-in_err-number-clause-why c =
    let p = err_from_is_err_and c.from_residual-in_err-number.result c.from_residual-in_err-number.ensures.1 in
    let log = c.args.log.now in
    let g = c.args.guards.now in
    let w = c.args.view.now in
    let base = base_of log (arc_value c.in_ok-base.base) in
    let is : base ≡ frozen_of log c.args.frozen.now = c.in_ok-base.ensures.base in
    let judged : AreJudged w base (stairs g) c.deref.result.now = c.deref.ensures.value ∙ judged_over w (frozen_of log c.args.frozen.now) base (stairs g) _ (c.in_ok-judge_frozen.ensures.flags c.if-not-branch.false) (sym is) in
    rw (p.1, p.2) (elim c.in_err-number.ensures.why [
      | inl m ↦ inl (
        m.0,
        λ next all rest n o. m.1 w g log next all rest (sym c.len-edition.ensures) c.in_ok-base.ensures.is judged n (opening_over_same (log ++ g ∷ []) next c.args.start w all (stairs g) rest c.args.tasks.now.items (frozen_of log c.args.frozen.now) base is o),
      )
      | inr m ↦ inr m
    ])

pub judge_frozen-requires-clause-small : goal.judge_frozen-requires-clause-small
judge_frozen-requires-clause-small c = c.requires.small

pub judge_frozen-requires-clause-once : goal.judge_frozen-requires-clause-once
judge_frozen-requires-clause-once c = c.requires.once

pub judge_frozen-requires-clause-frozen : goal.judge_frozen-requires-clause-frozen
judge_frozen-requires-clause-frozen c = c.requires.frozen

pub judge_frozen-requires-clause-ready : goal.judge_frozen-requires-clause-ready
judge_frozen-requires-clause-ready c = c.requires.ready

pub shared_base-requires-clause-frozen : goal.shared_base-requires-clause-frozen
shared_base-requires-clause-frozen c = c.requires.frozen

pub shared_base-requires-clause-lead : goal.shared_base-requires-clause-lead
shared_base-requires-clause-lead c = c.in_ok-judge_frozen.ensures.ready.lead

pub returns-clause-ready : goal.returns-clause-ready
returns-clause-ready c = c.in_ok-judge_frozen.ensures.ready
