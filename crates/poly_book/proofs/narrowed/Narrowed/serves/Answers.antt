use Rattle.std.proofs.Common.{◌∙◌}
use Rattle.poly_book.proofs.Narrowing.{begins_right}
use Rattle.poly_book.proofs.narrowed.Narrowed.serves.Goals as goal

pub returns-then-count-atoms : goal.returns-then-count-atoms
returns-then-count-atoms c = λ t v p. begins_right v c.args.self.now c.args.atoms.now c.len-count.result (c.is_same_list.ensures.0 t ∙ c.deref.ensures.value) p
