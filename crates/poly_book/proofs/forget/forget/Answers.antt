use Rattle.std.proofs.Common.{ap, subst, sym, ◌∙◌}
use Rattle.poly_book.specs.Keeps.{KeepsOf}
use Rattle.poly_book.specs.Shown.{shown}
use Rattle.poly_tasks.specs.Needed.{ArePendingFrom}
use Rattle.poly_book.proofs.Forgetting.{forgotten_keeps, shown_same}
use Rattle.poly_book.proofs.forget.forget.Goals as goal

pending_from : (c : goal.After-parts-1) → ArePendingFrom c.first_needed-edition.result c.args.parts.now.tasks.items
pending_from c = subst (λ ps. ArePendingFrom c.first_needed-edition.result ps) c.deref.ensures.value c.first_needed-edition.ensures.tasks

pub returns-clause-keeps : goal.returns-clause-keeps
returns-clause-keeps c =
    let p = c.args.parts.now in
    let e = c.first_needed-edition.result in
    let k = forgotten_keeps e c.requires (pending_from c) c.first_needed-edition.ensures.undo c.first_needed-edition.ensures.redo in
    subst (λ log. KeepsOf p.register p.opened p.design p.scene p.table p.listed log p.tasks.items p.next p.history p.steps.items p.endings.items) (sym c.forget_before.ensures) k

pub returns-clause-state : goal.returns-clause-state
returns-clause-state c =
    let p = c.args.parts.now in
    let e = c.first_needed-edition.result in
    ap (λ log. shown p.opened p.design p.scene p.listed log p.tasks.items p.next p.history p.steps.items p.endings.items) c.forget_before.ensures
    ∙ shown_same e p.opened p.design p.scene p.listed p.log p.tasks.items p.next p.history p.steps.items p.endings.items (pending_from c) c.first_needed-edition.ensures.undo c.first_needed-edition.ensures.redo
