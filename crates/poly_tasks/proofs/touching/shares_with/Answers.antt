use Rattle.std.proofs.Common.{ap, false, map, rules, sym, ◌||◌, ◌∙◌, ◌≡◌}
use Rattle.std.specs.List.{list_any}
use Rattle.poly_tiling.specs.Puzzle.{has_item}
use Rattle.poly_tiling.specs.declared.item.Item.TheVariants.{Cell, Piece}
use Rattle.poly_tiling.proofs.Coded.{any_map}
use Rattle.poly_tasks.proofs.touching.shares_with.Goals as goal

pub returns-else-covers : goal.returns-else-covers
returns-else-covers c =
    let v = c.args.view.now in
    let p = c.args.p in
    let other = c.args.other.now in
    let none : has_item v p (Piece other.name) ≡ false = sym c.covers.ensures ∙ c.if-covers.false in
    let cells : c.as_slice.result.now ≡ other.cells = search rules in
    let all = list_any (λ i. has_item v p i) (map (λ d. Cell d) other.cells) in
    c.shares_cell.ensures ∙ ap (λ cs. list_any (λ d. has_item v p (Cell d)) cs) cells ∙ sym (any_map (λ i. has_item v p i) (λ d. Cell d) other.cells) ∙ sym (ap (λ b. b || all) none)
