use Rattle.std.proofs.Common.{◌∙◌}
use Rattle.poly_atom.proofs.Joined.{joined_four}
use Rattle.poly_atom.proofs.both.guards_by.Goals as goal

pub returns : goal.returns
returns c =
    joined_four c.in_ok-atoms.ensures c.in_ok-extend_from_slice.ensures.items (c.deref.ensures.value ∙ c.in_ok-least.ensures) c.in_ok-extend_from_slice-2.ensures.items
    (c.deref-2.ensures.value ∙ c.in_ok-most.ensures) c.in_ok-extend_from_slice-3.ensures.items (c.deref-3.ensures.value ∙ c.in_ok-has.ensures)
