-- When a tiling, as a list of numbers, meets the words of a query.
use Rattle.std.specs.Int.{bit_at}
use Rattle.std.specs.List.{AllPairs, Contains, list_all, list_any}
use Rattle.std.specs.Prelude.{Bool, List, [], bit_or, false, nat_eq, not, slice_index_or, ℕ, ◌&&◌, ◌↔◌, ◌∷◌, ◌≢◌}
use Rattle.poly_tiling.specs.Lists.{tally}
use Rattle.poly_tiling.specs.declared.item.Item.{Item}
use Rattle.poly_browse.specs.declared.covers.Covers.{Covers}
use Rattle.poly_browse.specs.declared.covers.Masks.{Masks}
use Rattle.poly_browse.specs.declared.lines.Has.{Has}
use Rattle.poly_browse.specs.declared.lines.Line.{Line}
use Rattle.poly_browse.specs.declared.lines.Words.{Words}

-- a tiling has at least one of the flagged numbers
abbrev pub has_flagged : Line → List ℕ → Bool
has_flagged l T = list_any (λ n. slice_index_or l.flags.items n false) T

-- each of the placements has a number, and exactly `h.count` numbers of a tiling are flagged
abbrev pub has_these : Has → List ℕ → Bool
has_these h T = h.named && nat_eq (tally (λ n. slice_index_or h.line.flags.items n false) T) h.count

-- the mask of the number has the bit
abbrev pub in_mask : List ℕ → ℕ → ℕ → Bool
in_mask masks n t = nat_eq (bit_at (slice_index_or masks n 0) t) 1

-- the bits that the masks of the numbers have together
abbrev pub joined : List ℕ → List ℕ → ℕ
joined masks [] = 0
joined masks (n ∷ T) = bit_or (slice_index_or masks n 0) (joined masks T)

-- the numbers together have all the items of the masks
abbrev pub have_all : Masks → List ℕ → Bool
have_all m T = nat_eq (joined m.masks.items T) m.wanted

-- each item is in some placement, and a tiling covers all the items
abbrev pub are_covered : Covers → List ℕ → Bool
are_covered c T = c.there && list_all (λ m. have_all m T) c.masks.items

-- a tiling meets all words
abbrev pub are_met : Words → List ℕ → Bool
are_met w T = has_these w.has T && not (has_flagged w.lacks T) && are_covered w.covers T

-- the list has exactly the given items, each once
pub record AreDifferent (items list : List Item) : Type 0 where
  pub same : (i : Item) → Contains list i ↔ Contains items i
  pub apart : AllPairs (λ i j. i ≢ j) list
