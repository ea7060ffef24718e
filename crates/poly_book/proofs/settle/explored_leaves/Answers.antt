use Rattle.std.proofs.Common.{get_or, rules, subst, sym, ◌∙◌, ◌≡◌}
use Rattle.poly_search.specs.Searches.{IsExplored}
use Rattle.poly_tasks.specs.Meaning.{IsTask, task_of}
use Rattle.poly_tasks.specs.Tasks.{AreHopeful, atoms_of}
use Rattle.poly_tasks.proofs.Held.{task_at}
use Rattle.poly_book.proofs.Hoping.{hopeful_at, rests_hopeful}
use Rattle.poly_book.proofs.Taking.{found_leaves_at}
use Rattle.poly_book.proofs.settle.explored_leaves.Goals as goal

pub read_all-requires : goal.read_all-requires
read_all-requires c =
    let ps = c.args.parts.now.tasks.items in
    let x = c.index.result.now in
    let is : x ≡ get_or ps c.args.at x = search rules in
    subst (λ p. IsTask c.args.parts.now.log p) (sym is) (task_at c.args.parts.now.log ps c.args.at x c.requires.keeps.tasks c.requires.index)

pub returns-clause-leaves : goal.returns-clause-leaves
returns-clause-leaves c =
    let a = c.args.parts.now in
    let ps = a.tasks.items in
    let x = c.index.result.now in
    let l = c.in_ok-leaves.leaves in
    let t = c.in_ok-leaves.ensures.tree in
    let is : x ≡ get_or ps c.args.at x = search rules in
    let atoms : c.deref.result.now ≡ atoms_of (task_of a.log x) = c.deref.ensures.value ∙ c.in_ok-read_all.ensures.ok in
    let e = subst (λ A. IsExplored a.scene A c.args.nodes t.0 l.tilings.items l.rests) atoms t.1 in
    (x.number, t.0, found_leaves_at c.args.nodes a x c.args.at t.0 l.tilings.items l.rests c.requires.keeps c.requires.index is e.fits e.holds e.tilings e.rests e.inner e.root e.smaller)

pub returns-clause-sure : goal.returns-clause-sure
returns-clause-sure c =
    let a = c.args.parts.now in
    let x = c.index.result.now in
    let u = task_of a.log x in
    let l = c.in_ok-leaves.leaves in
    let t = c.in_ok-leaves.ensures.tree in
    let is : x ≡ get_or a.tasks.items c.args.at x = search rules in
    let atoms : c.deref.result.now ≡ atoms_of u = c.deref.ensures.value ∙ c.in_ok-read_all.ensures.ok in
    let e = subst (λ A. IsExplored a.scene A c.args.nodes t.0 l.tilings.items l.rests) atoms t.1 in
    λ n low from. subst (λ L. AreHopeful a.scene L) (sym e.rests) (rests_hopeful a.scene (atoms_of u) t.0 e.opened (hopeful_at a x c.args.at n low c.requires.index is from))
