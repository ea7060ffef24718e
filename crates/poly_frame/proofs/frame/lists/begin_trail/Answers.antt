use Rattle.std.proofs.Common.{ap, arith, ◌++◌, ◌∙◌}
use Rattle.poly_frame.proofs.frame.lists.begin_trail.Goals as goal

pub returns-clause-room : goal.returns-clause-room
returns-clause-room c = omega (arith, c.clear.ensures.len, c.saturating_add.ensures, c.in_ok-reserve.ensures.ok, c.in_ok-extend_from_slice.ensures.capacity)

pub returns-clause-items : goal.returns-clause-items
returns-clause-items c = c.in_ok-extend_from_slice.ensures.items ∙ ap (λ xs. xs ++ c.args.atoms.now) (c.in_ok-reserve.ensures.items ∙ c.clear.ensures.items)
