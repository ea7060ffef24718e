use Rattle.std.proofs.Common.{List, [], ap, subst, sym, ◌∙◌, ◌∷◌, ◌≡◌}
use Rattle.std.specs.Arc.{arc_value}
use Rattle.poly_design.specs.Limits.{IsDesign}
use Rattle.poly_place.specs.Right.{IsRight}
use Rattle.poly_book.specs.declared.parts.Parts.{Parts}
use Rattle.poly_atom.specs.declared.atom.Atom.{Atom}
use Rattle.poly_book.specs.Keeps.{state_of}
use Rattle.poly_book.specs.Shown.{shown}
use Rattle.poly_tasks.specs.Meaning.{own_of}
use Rattle.poly_book.specs.States.{opening}
use Rattle.poly_tasks.specs.Tasks.{Task}
use Rattle.poly_book.proofs.Tops.{begin_keeps}
use Rattle.poly_book.proofs.book.Book.begin.Goals as goal

pub invariant_of-result : goal.invariant_of-result
invariant_of-result c =
    let is : IsDesign c.args.design = subst IsDesign c.design.view_is c.design.invariant.design in
    let numbered = c.in_ok-table.ensures in
    let first = c.in_ok-tasks.ensures.ok in
    let k = begin_keeps c.new-5.result c.new-5.ensures c.args.design (arc_value c.in_ok-table.view) c.in_ok-table.table first.0 first.1 first.2 is numbered.right numbered.view in
    rw (c.in_ok-opened.ensures.ok, c.new-2.ensures, c.new-3.ensures, c.new-4.ensures, first.3, c.in_ok-history.ensures.ok, c.new-6.ensures.items, c.new-7.ensures.items) k

pub returns-clause-ok : goal.returns-clause-ok
returns-clause-ok c =
    let d = c.args.design in
    let v = c.new-2.result in
    let first = c.in_ok-tasks.ensures.ok in
    let p : Parts = record {
      alloc = c.args.alloc;
      opened = c.in_ok-opened.opened;
      design = d;
      table = c.in_ok-table.table;
      scene = v;
      listed = c.new-3.result;
      log = c.new-4.result;
      settled = 0;
      tasks = c.in_ok-tasks.tasks;
      register = c.new-5.result;
      next = 2;
      history = c.in_ok-history.history;
      steps = c.new-6.result;
      endings = c.new-7.result;
    } in
    let right : IsRight v d = subst (λ z. IsRight z d) (sym (c.new-2.ensures ∙ c.in_ok-table.ensures.view)) c.in_ok-table.ensures.right in
    let task : Task = record { number = 1; own = own_of [] first.0; laid = [] } in
    let fields : state_of p ≡ record (opening d v) { pending = task ∷ [] } = λ i. shown (c.in_ok-opened.ensures.ok i) d v (c.new-3.ensures i) (c.new-4.ensures i) (first.3 i) 2 (c.in_ok-history.ensures.ok i) (c.new-6.ensures.items i) (c.new-7.ensures.items i) in
    (fields ∙ ap (λ (A : List Atom). record (opening d v) { pending = (let t : Task = record { number = 1; own = A; laid = [] } in t) ∷ [] }) first.1, right.well, right.shows)
