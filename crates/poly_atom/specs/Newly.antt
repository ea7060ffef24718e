-- The atoms by which a change can make a list hopeless, and atoms that can be added without making a list hopeless.
use Rattle.std.specs.List.{list_any}
use Rattle.std.specs.Prelude.{Bool, List, [], false, nat_le, true, ℕ, ◌&&◌, ◌++◌, ◌||◌, ◌∷◌, ◌≡◌}
use Rattle.poly_design.specs.Changes.{changed}
use Rattle.poly_design.specs.declared.change.Change.{Change}
use Rattle.poly_place.specs.Between.{IsChangeOf}
use Rattle.poly_place.specs.Index.{item_of}
use Rattle.poly_place.specs.declared.delta.Delta.{Delta}
use Rattle.poly_tiling.specs.Lists.{mem}
use Rattle.poly_tiling.specs.Puzzle.{View, conflicts, count, has_item, is_piece, items, most, same_item}
use Rattle.poly_tiling.specs.declared.item.Item.{Item}
use Rattle.poly_tiling.specs.declared.item.Item.TheVariants.{Piece}
use Rattle.poly_atom.specs.declared.atom.Atom.{Atom}
use Rattle.poly_atom.specs.declared.atom.Atom.TheVariants.{AtLeast, AtMost, Has, Lacks}
use Rattle.poly_atom.specs.Hopeless.{base, hopeless, lacks}

-- The atom is about what the change touches: Has of a placement that is gone, that belongs to a piece whose most fell, or
-- that has an item of a new pin; Lacks of a new pin; AtLeast of a piece whose most fell, or of the change's own item;
-- AtMost of an item whose least rose.
abbrev pub touched : View → Delta → Item → Atom → Bool
touched w x own (Has p) = mem x.gone.items p || list_any (λ n. has_item w p (Piece n)) x.narrowed.items || list_any (λ q. list_any (λ i. has_item w p i) (items w q)) x.pinned.items
touched w x own (Lacks p) = mem x.pinned.items p
touched w x own (AtLeast i n) = list_any (λ m. same_item (Piece m) i) x.narrowed.items || same_item own i
touched w x own (AtMost i n) = list_any (λ j. same_item j i) x.needed.items

-- A list that a change makes hopeless has an atom about what the change touches.
abbrev pub NewlyHopelessIsTouched : Type 0
NewlyHopelessIsTouched = (v w : View) (x : Delta) (y : Change) (A : List Atom) → (c : IsChangeOf v w x) → c.after ≡ changed c.before y → hopeless v A ≡ false → hopeless w A ≡ true →
    list_any (touched w x (item_of y)) A ≡ true

-- the placement may join the base: it is in the design and not in the base, no atom lacks it, it is in conflict with no
-- member of the base, and the base has room for one more placement of its piece
pub record IsOpenFor (v : View) (A : List Atom) (p : ℕ) : Type 0 where
  pub live : mem v.live p ≡ true
  pub outside : mem (base v A) p ≡ false
  pub spared : list_any (λ a. lacks a p) A ≡ false
  pub apart : list_any (λ q. conflicts v p q) (base v A) ≡ false
  pub room : list_any (λ i. is_piece i && nat_le (most v i) (count v (base v A) i)) (items v p) ≡ false

-- Adding Has of an open placement does not change whether a list is hopeless.
abbrev pub TakingKeepsHope : Type 0
TakingKeepsHope = (v : View) (A : List Atom) (p : ℕ) → IsOpenFor v A p → hopeless v (A ++ Has p ∷ []) ≡ hopeless v A

-- Adding Lacks of a placement that is neither asked for nor pinned does not change whether a list is hopeless.
abbrev pub LeavingKeepsHope : Type 0
LeavingKeepsHope = (v : View) (A : List Atom) (p : ℕ) → mem (base v A) p ≡ false → hopeless v (A ++ Lacks p ∷ []) ≡ hopeless v A
