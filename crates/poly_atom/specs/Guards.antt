-- The guards of a change.
use Rattle.std.specs.List.{filter}
use Rattle.std.specs.Prelude.{List, map, nat_lt, not, ℕ, ◌++◌}
use Rattle.poly_tiling.specs.Lists.{mem}
use Rattle.poly_tiling.specs.Puzzle.{View, least, most}
use Rattle.poly_tiling.specs.declared.item.Item.{Item}
use Rattle.poly_tiling.specs.declared.item.Item.TheVariants.{Piece}
use Rattle.poly_atom.specs.declared.atom.Atom.{Atom}
use Rattle.poly_atom.specs.declared.atom.Atom.TheVariants.{AtLeast, AtMost, Has, Lacks}

abbrev pub guards_fresh : View → View → List Atom
guards_fresh old new = map (λ p. Lacks p) (filter (λ p. not (mem old.live p)) new.live)

abbrev pub guards_least : View → View → List Atom
guards_least old new = map (λ b. AtLeast b.item (least old b.item)) (filter (λ b. nat_lt (least new b.item) (least old b.item)) old.bounds)

abbrev pub guards_most : View → View → List Atom
guards_most old new = map (λ b. AtMost b.item (most old b.item)) (filter (λ b. nat_lt (most old b.item) (most new b.item)) old.bounds)

abbrev pub guards_pins : View → View → List Atom
guards_pins old new = map (λ p. Has p) (filter (λ p. not (mem new.pins p)) old.pins)

-- if each number of the old view names the same placement in the new one, a tiling of the new design meets all of these atoms
-- exactly if it is a tiling of the old design too
abbrev pub guards : View → View → List Atom
guards old new = guards_fresh old new ++ (guards_least old new ++ (guards_most old new ++ guards_pins old new))

-- Lacks of each number of the first list, AtLeast of each item with its least in the view, AtMost of each piece with its most
-- in the view, and Has of each pin
abbrev pub guards_by : View → List ℕ → List Item → List (List ℕ) → List ℕ → List Atom
guards_by v lacked leasts mosts pins =
    map (λ p. Lacks p) lacked ++ (map (λ i. AtLeast i (least v i)) leasts ++ (map (λ n. AtMost (Piece n) (most v (Piece n))) mosts ++ map (λ p. Has p) pins))
