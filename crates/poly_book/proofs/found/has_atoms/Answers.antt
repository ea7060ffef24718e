use Rattle.std.proofs.Common.{arith, get_or, rules, subst, sym, ◌≡◌}
use Rattle.poly_tasks.specs.Meaning.{IsTask}
use Rattle.poly_tasks.proofs.Held.{task_at}
use Rattle.poly_tasks.proofs.Indices.{at_below, first_at}
use Rattle.poly_book.proofs.Searched.{has_atoms_if}
use Rattle.poly_book.proofs.found.has_atoms.Goals as goal

pub index-requires : goal.index-requires
index-requires c = omega (arith, at_below c.args.number c.args.parts.now.tasks.items c.args.at (first_at c.args.number c.args.parts.now.tasks.items c.args.at c.requires.index))

pub is_made_of-requires : goal.is_made_of-requires
is_made_of-requires c =
    let ps = c.args.parts.now.tasks.items in
    let x = c.index.result.now in
    let is : x ≡ get_or ps c.args.at x = search rules in
    subst (λ p. IsTask c.args.parts.now.log p) (sym is) (task_at c.args.parts.now.log ps c.args.at x c.requires.keeps.tasks (at_below c.args.number ps c.args.at (first_at c.args.number ps c.args.at c.requires.index)))

pub returns : goal.returns
returns c = record {
  same = λ yes.
      let a = c.args.parts.now in
      let x = c.index.result.now in
      let is : x ≡ get_or a.tasks.items c.args.at x = search rules in
      has_atoms_if a c.args.number c.args.at x c.args.atoms.now c.requires.index is (c.is_made_of.ensures yes);
}
