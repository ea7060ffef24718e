use Rattle.std.proofs.Common.{ap, sym, ◌&&◌, ◌||◌, ◌∙◌}
use Rattle.std.specs.List.{list_any}
use Rattle.std.specs.Prelude.{nat_lt}
use Rattle.poly_tiling.specs.declared.item.Item.{Item}
use Rattle.poly_tiling.specs.declared.item.Item.TheVariants.{Piece}
use Rattle.poly_tiling.specs.Puzzle.{count, is_piece, items_of, most}
use Rattle.poly_tiling.proofs.Coded.{no_cell}
use Rattle.poly_atom.specs.Hopeless.{base}
use Rattle.poly_atom.proofs.Counted.{or_no}
use Rattle.poly_atom.proofs.hopelessness.is_over.Goals as goal

pub returns-in-Some : goal.returns-in-Some
returns-in-Some c =
    let over = λ (i : Item). nat_lt (most c.args.view.now i) (count c.args.view.now (base c.args.view.now c.args.atoms.now) i) in
    let piece = over (Piece c.in-Some.placement.name) in
    c.is_piece_over.ensures
    ∙ sym (ap (λ o. list_any (λ i. is_piece i && over i) (items_of o)) (sym c.in-Some.ensures) ∙ ap (λ b. piece || b) (no_cell over c.in-Some.placement.cells) ∙ or_no piece)
