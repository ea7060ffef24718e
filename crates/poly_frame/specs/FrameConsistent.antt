-- Whether the base of a frame's atoms is consistent. If so, it is a tiling that meets the atoms as soon as no item is due.
use Rattle.std.specs.Prelude.{Bool, List, length, nat_le, not, slice_index, take, true, ℕ, ◌&&◌, ◌+◌, ◌<◌, ◌||◌, ◌≡◌, ◌≤◌}
use Rattle.std.specs.List.{list_all}
use Rattle.poly_tiling.specs.Lists.{mem}
use Rattle.poly_tiling.specs.declared.bound.Bound.{Bound}
use Rattle.poly_tiling.specs.declared.item.Item.{Item}
use Rattle.poly_tiling.specs.Puzzle.{View, count, is_piece, items}
use Rattle.poly_atom.specs.declared.atom.Atom.{Atom}
use Rattle.poly_atom.specs.Hopeless.{base}
use Rattle.poly_frame.specs.FrameItems.{item_at}
use Rattle.poly_frame.specs.Open.{most_at, ruled_out}

-- each member is a placement of the design and is not ruled out
abbrev pub is_consistent : View → List Atom → Bool
is_consistent v A = list_all (λ p. mem v.live p && not (ruled_out v A p)) (base v A)

-- the base is consistent at the first `consistent` levels: after the first `first + k` atoms, for each `k` below `consistent`
pub record ConsistentShows (v : View) (A : List Atom) (first consistent : ℕ) : Type 0 where
  pub few : consistent + first ≤ length A + 1
  pub levels : (k : ℕ) → k < consistent → is_consistent v (take (first + k) A) ≡ true

-- at most as many members have the item as may have it, and at most one if it is a cell
abbrev pub fits_at : Item → ℕ → ℕ → Bool
fits_at i most have = nat_le have most && (is_piece i || nat_le have 1)

-- the same at the atoms
abbrev pub item_fits : View → List Atom → Item → Bool
item_fits v A i = fits_at i (most_at v A i) (count v (base v A) i)

-- each item of the placement fits
abbrev pub items_fit : View → List Atom → ℕ → Bool
items_fit v A p = list_all (λ i. item_fits v A i) (items v p)

abbrev pub AllFit : List Bound → List ℕ → List ℕ → Type 0
AllFit bounds mosts have = (b : ℕ) → b < length bounds → fits_at (item_at bounds b) (slice_index mosts b) (slice_index have b) ≡ true
