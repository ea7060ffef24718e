use Rattle.std.proofs.Common.{[], Global, Vec, ap, sym, take, ◌++◌, ◌∙◌, ◌∷◌}
use Rattle.std.proofs.lemmas.List.{append-nil, take_all}
use Rattle.std.specs.List.{filter}
use Rattle.poly_atom.specs.declared.atom.Atom.{Atom}
use Rattle.poly_tasks.specs.Judged.{is_has}
use Rattle.poly_tasks.proofs.Lacking.{filter_more}
use Rattle.poly_tasks.proofs.laid.append_asks.Goals as goal
use Rattle.poly_tasks.proofs.laid.append_asks.Goals.{else-is_has, then-is_has+in_ok-push}

pub loop-atom-preserved : goal.loop-atom-preserved
loop-atom-preserved c =
    let d = c.atom-item.result in
    let k = c.loop-atom.atom-index in
    let old = c.args.buffer.now.items in
    elim c.if-is_has.branch [
      | then-is_has+in_ok-push w ↦
          ap (λ (v : Vec Atom Global). v.items) w.buffer-is ∙ w.in_ok-push.ensures.items ∙ ap (λ B. B ++ d ∷ []) c.loop-atom.invariant
          ∙ filter_more is_has c.args.atoms.now k d old _ c.loop-atom-test.true c.atom-item.is (sym w.if-is_has.true ∙ c.is_has.ensures)
      | else-is_has w ↦
          ap (λ (v : Vec Atom Global). v.items) w.buffer-is ∙ c.loop-atom.invariant ∙ sym (append-nil (old ++ filter is_has (take k c.args.atoms.now)))
          ∙ filter_more is_has c.args.atoms.now k d old _ c.loop-atom-test.true c.atom-item.is (sym w.if-is_has.false ∙ c.is_has.ensures)
    ]

pub loop-atom-init : goal.loop-atom-init
loop-atom-init c = sym (append-nil c.args.buffer.now.items)

pub returns-clause-ok : goal.returns-clause-ok
returns-clause-ok c = c.loop-atom.invariant ∙ ap (λ l. c.args.buffer.now.items ++ filter is_has l) (take_all c.loop-atom.atom-index c.args.atoms.now c.loop-atom-test.false)
