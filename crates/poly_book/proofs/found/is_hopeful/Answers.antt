use Rattle.std.proofs.Common.{false, refl, rules, ◌≡◌}
use Rattle.poly_atom.specs.Hopeless.{hopeless}
use Rattle.poly_book.proofs.Searched.{found_hopeful, none_hopeful}
use Rattle.poly_book.proofs.found.is_hopeful.Goals as goal

pub returns-then-is_empty : goal.returns-then-is_empty
returns-then-is_empty c = λ yes. none_hopeful c.args.view.now c.args.leaves.now.rests (c.is_empty.ensures.0 c.if-is_empty.true)

pub returns-else-is_empty : goal.returns-else-is_empty
returns-else-is_empty c = λ yes.
    let v = c.args.view.now in
    let ls = c.args.leaves.now in
    let fine : hopeless v c.args.atoms.now ≡ false = search rules in
    found_hopeful v v c.args.atoms.now c.requires.0 ls.tilings.items ls.rests refl c.requires.1 fine
