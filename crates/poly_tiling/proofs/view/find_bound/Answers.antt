use Rattle.std.proofs.Common.{rules, sym, ◌≡◌}
use Rattle.std.proofs.lemmas.List.Sorted.{answers_always}
use Rattle.poly_tiling.specs.contracts.item.ItemOrd.TheImpl.{ghosts}
use Rattle.poly_tiling.specs.declared.item.Item.{Item}
use Rattle.poly_tiling.specs.declared.item.Item.TheVariants.{Cell, Piece}
use Rattle.poly_tiling.specs.Names.{item_cmp}
use Rattle.poly_tiling.proofs.Searched.{bound_found, bound_missing, is_there, is_nowhere}
use Rattle.poly_tiling.proofs.view.find_bound.Goals as goal

-- the order that the code derives for items is the item order of the definitions
derived : (i j : Item) → ghosts.cmp i j ≡ item_cmp i j
derived (Cell c) (Cell d) = search rules
derived (Cell c) (Piece n) = search rules
derived (Piece m) (Cell d) = search rules
derived (Piece m) (Piece n) = search rules

pub returns-in-Ok-clause-bounds : goal.returns-in-Ok-clause-bounds
returns-in-Ok-clause-bounds c =
    let i = c.args.item.now in
    bound_found c.args.bounds.now i (λ b. ghosts.cmp b.item i) (λ b. derived b.item i) c.requires c.in-Ok.at c.in-Ok.ensures.bound
    (c.in-Ok.ensures.position (λ b. b.item) (answers_always _ _ _ (λ f a r g h. search rules)))
    c.index-bounds-at.result c.index-bounds-at.is

pub returns-in-Err-clause-bounds : goal.returns-in-Err-clause-bounds
returns-in-Err-clause-bounds c =
    let i = c.args.item.now in
    bound_missing c.args.bounds.now i (λ b. ghosts.cmp b.item i) (λ b. derived b.item i) c.requires c.in-Err.field-0
    (c.in-Err.ensures.position (λ b. b.item) (answers_always _ _ _ (λ f a r g h. search rules)))

pub returns-in-Ok-clause-there : goal.returns-in-Ok-clause-there
returns-in-Ok-clause-there c =
    let i = c.args.item.now in
    sym (is_there c.args.bounds.now i (bound_found c.args.bounds.now i (λ b. ghosts.cmp b.item i) (λ b. derived b.item i) c.requires c.in-Ok.at c.in-Ok.ensures.bound
    (c.in-Ok.ensures.position (λ b. b.item) (answers_always _ _ _ (λ f a r g h. search rules)))
    c.index-bounds-at.result c.index-bounds-at.is (λ b. 1)))

pub returns-in-Err-clause-there : goal.returns-in-Err-clause-there
returns-in-Err-clause-there c =
    let i = c.args.item.now in
    sym (is_nowhere c.args.bounds.now i (bound_missing c.args.bounds.now i (λ b. ghosts.cmp b.item i) (λ b. derived b.item i) c.requires c.in-Err.field-0
    (c.in-Err.ensures.position (λ b. b.item) (answers_always _ _ _ (λ f a r g h. search rules))) (λ b. 1)))
