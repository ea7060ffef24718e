-- Which placements are open at a list of atoms, and what the atoms ask of items.
use Rattle.std.specs.Prelude.{ℕ, Bool, cond, not, ◌&&◌, ◌||◌, ◌==◌, nat_lt, nat_le, min, max, List, [], ◌∷◌}
use Rattle.std.specs.List.{list_any, list_all}
use Rattle.poly_tiling.specs.Lists.{mem, tally}
use Rattle.poly_tiling.specs.Lists.{distinct}
use Rattle.poly_tiling.specs.declared.item.Item.{Item}
use Rattle.poly_tiling.specs.Puzzle.{View, items, has_item, conflicts, same_item, count, least, most}
use Rattle.poly_atom.specs.declared.atom.Atom.{Atom}
use Rattle.poly_atom.specs.declared.atom.Atom.TheVariants.{Has, Lacks, AtLeast, AtMost}
use Rattle.poly_atom.specs.Hopeless.{base, lacks}

-- how many members may have the item at most: its `most` in the view, lowered by the AtMost atoms
abbrev pub most_at : View → List Atom → Item → ℕ
most_at v [] i = most v i
most_at v (Has p ∷ A) i = most_at v A i
most_at v (Lacks p ∷ A) i = most_at v A i
most_at v (AtLeast j n ∷ A) i = most_at v A i
most_at v (AtMost j n ∷ A) i = cond (same_item j i) (min n (most_at v A i)) (most_at v A i)

-- how many members must have the item at least: its `least` in the view, raised by the AtLeast atoms
abbrev pub least_at : View → List Atom → Item → ℕ
least_at v [] i = least v i
least_at v (Has p ∷ A) i = least_at v A i
least_at v (Lacks p ∷ A) i = least_at v A i
least_at v (AtLeast j n ∷ A) i = cond (same_item j i) (max n (least_at v A i)) (least_at v A i)
least_at v (AtMost j n ∷ A) i = least_at v A i

-- `least_at`, or the number of members of the base that have the item if that is more
abbrev pub least_with_base : View → List Atom → Item → ℕ
least_with_base v A i = max (least_at v A i) (count v (base v A) i)

-- how many members other than p have the item
abbrev pub others : View → List ℕ → ℕ → Item → ℕ
others v T p i = tally (λ q. has_item v q i && not (q == p)) T

-- no tiling that meets the atoms has the placement, because an atom lacks it, it is in conflict with a member of the base, or
-- the other members of the base cover one of its items as often as they may
abbrev pub ruled_out : View → List Atom → ℕ → Bool
ruled_out v A p =
    list_any (λ a. lacks a p) A
    || list_any (λ q. conflicts v p q) (base v A)
    || list_any (λ i. nat_le (most_at v A i) (others v (base v A) p i)) (items v p)

-- the placement is neither in the base nor ruled out
abbrev pub open_in : View → List Atom → ℕ → Bool
open_in v A p = not (mem (base v A) p) && not (ruled_out v A p)

-- the placement isn't one of the design, or an atom lacks it
abbrev pub dead : View → List Atom → ℕ → Bool
dead v A p = not (mem v.live p) || list_any (λ a. lacks a p) A

-- a Branch on the item may have arms for these placements: they differ, each has the item, and the other placements of the
-- design that have the item and are not ruled out are fewer than its `least_with_base`
abbrev pub arms_fit : View → List Atom → Item → List ℕ → Bool
arms_fit v A i ps =
    distinct ps
    && list_all (λ p. has_item v p i) ps
    && nat_lt (tally (λ p. has_item v p i && not (ruled_out v A p) && not (mem ps p)) v.live) (least_with_base v A i)
