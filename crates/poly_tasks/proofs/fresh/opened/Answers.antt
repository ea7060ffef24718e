use Rattle.std.proofs.Common.{Bool, List, [], ap, arith, drop, false, get_or, inl, inr, length, not, refl, replicate, subst, suc, sym, true, ◌+◌, ◌<◌, ◌∙◌, ◌∷◌, ◌≡◌}
use Rattle.std.proofs.Math.Seq.{drop-cons}
use Rattle.std.proofs.lemmas.List.{drop_all, length-replicate, length_push}
use Rattle.std.proofs.lemmas.Result.{err_from_is_err_and}
use Rattle.poly_atom.specs.declared.atom.Atom.{Atom}
use Rattle.poly_atom.specs.Hopeless.{hopeless}
use Rattle.poly_tasks.specs.Tasks.{AreHopeful}
use Rattle.poly_tasks.specs.declared.task.Own.TheVariants.{Listed}
use Rattle.poly_tasks.specs.declared.task.Pending.{Pending}
use Rattle.poly_tasks.proofs.Held.{opening_end, opening_more, opening_over, opening_skip, opening_start}
use Rattle.poly_tasks.proofs.Held.{first_hopeful}
use Rattle.poly_tasks.proofs.fresh.opened.Goals.{then-branch+in_ok-push_list, else-branch}
use Rattle.poly_tasks.proofs.fresh.opened.Goals as goal

opposite : (b c : Bool) → not b ≡ c → b ≡ not c
opposite true c h = ap not h
opposite false c h = ap not h

-- the lists from an index on are the one at the index and those after it
from_here : (all : List (List Atom)) (i : _) → i < length all → drop i all ≡ get_or all i [] ∷ drop (i + 1) all
from_here all i within = let next : suc i ≡ i + 1 = omega arith in drop-cons all i [] within ∙ ap (λ n. get_or all i [] ∷ drop n all) next

pub loop-index-init : goal.loop-index-init
loop-index-init c = record {
  same = λ log le. rw c.new-tasks.ensures.items (opening_start log c.args.next c.args.view.now c.args.all);
  number = omega (arith, ap length c.new-tasks.ensures.items);
  few = c.requires.next;
  sure = c.requires.sure;
}

pub is_opened-requires-clause-index : goal.is_opened-requires-clause-index
is_opened-requires-clause-index c = omega (arith, ap length c.in_ok-shared.ensures.ok, c.len-count.ensures, c.loop-index-test.true)

pub is_opened-requires-clause-sure : goal.is_opened-requires-clause-sure
is_opened-requires-clause-sure c = λ yes.
    let w = c.args.view.now in
    let i = c.loop-index.index in
    let all = c.args.all in
    let within : i < length all = omega (arith, c.len-count.ensures, c.loop-index-test.true) in
    ap (λ l. hopeless w (get_or l i [])) c.in_ok-shared.ensures.ok ∙ (first_hopeful w (get_or all i []) (drop (i + 1) all) (subst (AreHopeful w) (from_here all i within) (c.loop-index.invariant.sure yes))).0

pub loop-index-preserved : goal.loop-index-preserved
loop-index-preserved c =
    let w = c.args.view.now in
    let i = c.loop-index.index in
    let all = c.args.all in
    let A = get_or all i [] in
    let rest = drop (i + 1) all in
    let within : i < length all = omega (arith, c.len-count.ensures, c.loop-index-test.true) in
    let cons = from_here all i within in
    let read : c.in_ok-is_opened.field-0 ≡ not (hopeless w A) = c.in_ok-is_opened.ensures.ok ∙ ap (λ l. not (hopeless w (get_or l i []))) c.in_ok-shared.ensures.ok in
    let sure : c.args.sure ≡ true → AreHopeful w rest = λ yes. (first_hopeful w A rest (subst (AreHopeful w) cons (c.loop-index.invariant.sure yes))).1 in
    elim c.if-branch.branch [
      | then-branch+in_ok-push_list k ↦
          let fresh = opposite (hopeless w A) true (sym read ∙ k.if-branch.true) in
          let lists : c.in_ok-shared.shared ≡ all = c.in_ok-shared.ensures.ok in
          let here : i < length c.in_ok-shared.shared = omega (arith, ap length lists, within) in
          let task : Pending = record { number = c.loop-index.number; own = Listed c.in_ok-shared.shared i; made = c.args.made } in
          let pushed = ap (λ t. t.items) k.tasks-is ∙ k.in_ok-push_list.ensures.tasks in
          record {
            same = λ log le.
                rw (pushed, k.number-is)
                (opening_more log c.args.next c.loop-index.number w all rest A c.loop-index.tasks.items _ fresh refl (ap (λ l. get_or l i []) lists) here (sym le) (rw cons at c.loop-index.invariant.same log le));
            number = omega (arith, k.number-is, ap length pushed, length_push c.loop-index.tasks.items task, c.loop-index.invariant.number);
            few = omega (arith, k.number-is, k.in_ok-push_list.ensures.few);
            sure = sure;
          }
      | else-branch k ↦
          let gone = opposite (hopeless w A) false (sym read ∙ k.if-branch.false) in
          record {
            same = λ log le. rw (ap (λ t. t.items) k.tasks-is, k.number-is) (opening_skip log c.args.next c.loop-index.number w all rest A c.loop-index.tasks.items gone (rw cons at c.loop-index.invariant.same log le));
            number = omega (arith, k.number-is, ap (λ t. length t.items) k.tasks-is, c.loop-index.invariant.number);
            few = omega (arith, k.number-is, c.loop-index.invariant.few);
            sure = sure;
          }
    ]

pub returns-in_err-push_list-clause-why : goal.returns-in_err-push_list-clause-why
returns-in_err-push_list-clause-why c =
    let p = err_from_is_err_and c.from_residual-in_err-push_list.result c.from_residual-in_err-push_list.ensures.1 in
    let w = c.args.view.now in
    let i = c.loop-index.index in
    let all = c.args.all in
    let A = get_or all i [] in
    let within : i < length all = omega (arith, c.len-count.ensures, c.loop-index-test.true) in
    let cons = from_here all i within in
    let read : c.in_ok-is_opened.field-0 ≡ not (hopeless w A) = c.in_ok-is_opened.ensures.ok ∙ ap (λ l. not (hopeless w (get_or l i []))) c.in_ok-shared.ensures.ok in
    let fresh = opposite (hopeless w A) true (sym read ∙ c.if-branch.true) in
    let log : List (List Atom) = replicate c.args.made [] in
    let before = rw cons at c.loop-index.invariant.same log (length-replicate c.args.made []) in
    rw (p.1, p.2) (elim c.in_err-push_list.ensures.why [
      | inl m ↦ inl (m.0, opening_over log c.args.next c.loop-index.number w all (drop (i + 1) all) A c.loop-index.tasks.items fresh before c.loop-index.invariant.number m.1)
      | inr m ↦ inr m
    ])

pub returns-clause-ok : goal.returns-clause-ok
returns-clause-ok c = λ log le.
    let i = c.loop-index.index in
    let all = c.args.all in
    opening_end log c.args.next c.loop-index.number c.args.view.now all (drop i all) c.loop-index.tasks.items (drop_all i all (omega (arith, c.loop-index-test.false, c.len-count.ensures))) (c.loop-index.invariant.same log le)

pub returns-clause-few : goal.returns-clause-few
returns-clause-few c = omega (arith, c.loop-index.invariant.number, c.loop-index.invariant.few)
