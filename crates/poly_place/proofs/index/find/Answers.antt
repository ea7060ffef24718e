use Rattle.std.proofs.Common.{rules, ◌≡◌}
use Rattle.std.proofs.lemmas.List.Sorted.{answers_always}
use Rattle.poly_tiling.specs.contracts.item.ItemOrd.TheImpl.{ghosts}
use Rattle.poly_tiling.specs.declared.item.Item.{Item}
use Rattle.poly_tiling.specs.declared.item.Item.TheVariants.{Cell, Piece}
use Rattle.poly_tiling.specs.Names.{item_cmp}
use Rattle.poly_place.proofs.Rows.{row_found, row_missing}
use Rattle.poly_place.proofs.index.find.Goals as goal

-- the order that the code derives for items is the item order of the definitions
derived : (i j : Item) → ghosts.cmp i j ≡ item_cmp i j
derived (Cell c) (Cell d) = search rules
derived (Cell c) (Piece n) = search rules
derived (Piece m) (Cell d) = search rules
derived (Piece m) (Piece n) = search rules

pub returns-in-Ok-clause-index : goal.returns-in-Ok-clause-index
returns-in-Ok-clause-index c =
    let i = c.args.item.now in
    row_found c.args.rows.now i (λ r. ghosts.cmp r.0 i) (λ r. derived r.0 i) c.requires c.in-Ok.at c.in-Ok.ensures.bound
    (c.in-Ok.ensures.position (λ r. r.0) (answers_always _ _ _ (λ f a r g h. search rules)))

pub returns-in-Err-clause-index : goal.returns-in-Err-clause-index
returns-in-Err-clause-index c =
    let i = c.args.item.now in
    row_missing c.args.rows.now i (λ r. ghosts.cmp r.0 i) (λ r. derived r.0 i) c.requires c.in-Err.field-0
    (c.in-Err.ensures.position (λ r. r.0) (answers_always _ _ _ (λ f a r g h. search rules)))
