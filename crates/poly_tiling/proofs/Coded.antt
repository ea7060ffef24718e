-- Tests and counts of the definitions, in the forms in which the loops of the code compute them.
use Rattle.std.proofs.Common.{Bool, List, [], ap, arith, map, ◌++◌, ◌+◌, ◌||◌, ◌&&◌, ◌∷◌, ◌≡◌, refl, false}
use Rattle.std.specs.List.{list_all, list_any}
use Rattle.poly_tiling.specs.declared.item.Item.{Item}
use Rattle.poly_grid.specs.Spot.{Spot}
use Rattle.poly_tiling.specs.declared.item.Item.TheVariants.{Cell}
use Rattle.poly_tiling.specs.Puzzle.{is_piece}
use Rattle.poly_tiling.specs.Lists.{one, tally}
use Rattle.poly_tiling.proofs.Lists.{tally_append}

pub any_map : {X Y : Type 0} (g : Y → Bool) (f : X → Y) (xs : List X) → list_any g (map f xs) ≡ list_any (λ x. g (f x)) xs
any_map g f [] = refl
any_map g f (x ∷ xs) = ap (λ b. g (f x) || b) (any_map g f xs)

pub all_map_is : {X Y : Type 0} (g : Y → Bool) (f : X → Y) (xs : List X) → list_all g (map f xs) ≡ list_all (λ x. g (f x)) xs
all_map_is g f [] = refl
all_map_is g f (x ∷ xs) = ap (λ b. g (f x) && b) (all_map_is g f xs)

pub tally_push : {X : Type 0} (f : X → Bool) (xs : List X) (x : X) → tally f (xs ++ x ∷ []) ≡ tally f xs + one (f x)
tally_push f xs x = omega (arith, tally_append f xs (x ∷ []))

pub no_cell : (f : Item → Bool) (xs : List Spot) → list_any (λ i. is_piece i && f i) (map (λ c. Cell c) xs) ≡ false
no_cell f [] = refl
no_cell f (x ∷ xs) = no_cell f xs
