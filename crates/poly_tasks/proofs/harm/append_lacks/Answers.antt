use Rattle.std.proofs.Common.{[], Global, Vec, ap, sym, take, ◌++◌, ◌∙◌, ◌∷◌}
use Rattle.std.proofs.lemmas.List.{append-nil, take_all}
use Rattle.std.specs.List.{filter}
use Rattle.poly_atom.specs.declared.atom.Atom.{Atom}
use Rattle.poly_tasks.specs.Judged.{is_harmful}
use Rattle.poly_tasks.proofs.Lacking.{filter_more}
use Rattle.poly_tasks.proofs.harm.append_lacks.Goals as goal
use Rattle.poly_tasks.proofs.harm.append_lacks.Goals.{else-is_harmful, then-is_harmful+in_ok-push}

pub loop-atom-preserved : goal.loop-atom-preserved
loop-atom-preserved c =
    let d = c.atom-item.result in
    let k = c.loop-atom.atom-index in
    let old = c.args.atoms.now.items in
    let f = is_harmful c.args.placements.now in
    elim c.if-is_harmful.branch [
      | then-is_harmful+in_ok-push w ↦
          ap (λ (v : Vec Atom Global). v.items) w.atoms-is ∙ w.in_ok-push.ensures.items ∙ ap (λ B. B ++ d ∷ []) c.loop-atom.invariant
          ∙ filter_more f c.args.list.now k d old _ c.loop-atom-test.true c.atom-item.is (sym w.if-is_harmful.true ∙ c.is_harmful.ensures)
      | else-is_harmful w ↦
          ap (λ (v : Vec Atom Global). v.items) w.atoms-is ∙ c.loop-atom.invariant ∙ sym (append-nil (old ++ filter f (take k c.args.list.now)))
          ∙ filter_more f c.args.list.now k d old _ c.loop-atom-test.true c.atom-item.is (sym w.if-is_harmful.false ∙ c.is_harmful.ensures)
    ]

pub loop-atom-init : goal.loop-atom-init
loop-atom-init c = sym (append-nil c.args.atoms.now.items)

pub returns-clause-ok : goal.returns-clause-ok
returns-clause-ok c = c.loop-atom.invariant ∙ ap (λ l. c.args.atoms.now.items ++ filter (is_harmful c.args.placements.now) l) (take_all c.loop-atom.atom-index c.args.list.now c.loop-atom-test.false)
