-- What a frame keeps while it moves. In this file, level `k` is the node after the first `k` steps.
use Rattle.std.specs.Prelude.{Bool, List, None, Option, Some, ◌⊎◌, false, length, nat_lt, slice_index, slice_index_or, take, drop, true, ℕ, ◌&&◌, ◌*◌, ◌+◌, ◌-◌, ◌<◌, ◌==◌, ◌||◌, ◌≡◌, ◌≤◌}
use Rattle.std.specs.List.{list_all, list_any}
use Rattle.std.specs.Vec.{vec_capacity}
use Rattle.poly_tiling.specs.declared.item.Item.{Item}
use Rattle.poly_tiling.specs.Puzzle.{View, count}
use Rattle.poly_atom.specs.declared.atom.Atom.{Atom}
use Rattle.poly_atom.specs.Hopeless.{base}
use Rattle.poly_frame.specs.Open.{least_at, open_in, most_at}
use Rattle.poly_frame.specs.Bits.{has_bit}
use Rattle.poly_frame.specs.FrameItems.{item_of, times}
use Rattle.poly_frame.specs.FrameTable.{TableShows}
use Rattle.poly_frame.specs.declared.frame.TheConstants.{STEPS}
use Rattle.poly_frame.specs.declared.frame.items.TheConstants.{PLACEMENT_ITEMS}
use Rattle.poly_frame.specs.declared.frame.matrix.Matrix.{Matrix}
use Rattle.poly_frame.specs.declared.frame.node.Node.{Node}
use Rattle.poly_frame.specs.declared.frame.table.Table.{Table}
use Rattle.poly_frame.specs.declared.frame.steps.Mark.{Mark}
use Rattle.poly_frame.specs.declared.frame.steps.Steps.{Steps}

-- the length that `raised` had at level `k`
abbrev pub mark_of : List Mark → List ℕ → ℕ → ℕ
mark_of marks raised k = (slice_index_or marks k (record { raised = length raised; row = 0; cleared = None })).raised

-- the word at which the row of level `k` begins
abbrev pub row_of : ℕ → List ℕ → List Mark → ℕ → ℕ
row_of w live marks k = (slice_index_or marks k (record { raised = 0; row = length live - w; cleared = None })).row

-- the column is the one whose bit a step cleared
abbrev pub clears : Option ℕ → ℕ → Bool
clears None j = false
clears (Some i) j = i == j

-- a step cleared the bit of the column in the row that begins at word `at`
abbrev pub cleared_in : ℕ → List Mark → ℕ → Bool
cleared_in at marks j = list_any (λ m. (m.row == at) && clears m.cleared j) marks

-- whether column `j` was open at level `k`: its bit is set in the row of that level, or a later step cleared it there
abbrev pub level_bit : ℕ → List ℕ → List Mark → ℕ → ℕ → Bool
level_bit w live marks k j = has_bit live (64 * row_of w live marks k + j) || cleared_in (row_of w live marks k) (drop k marks) j

-- the bits are those of the columns that are open at the atoms, and no others
abbrev pub RowShows : View → List Atom → List ℕ → ℕ → (ℕ → Bool) → Type 0
RowShows v A ns w bits = record {
  opened : (j : ℕ) → j < length ns → bits j ≡ open_in v A (slice_index ns j);
  past : (j : ℕ) → length ns ≤ j → j < 64 * w → bits j ≡ false;
}

-- the counts, without what was raised since `mark`, are those of the base of the atoms
abbrev pub HaveAt : View → List Atom → List ℕ → List ℕ → ℕ → Type 0
HaveAt v A have raised mark = (b : ℕ) → b < length v.bounds → slice_index have b ≡ count v (base v A) (item_of v b) + times (drop mark raised) b

-- what the lists keep for level `k`, whose atoms are `A`
pub record LevelShows (v : View) (A0 A : List Atom) (matrix : Matrix) (t : Table) (live have raised : List ℕ) (marks : List Mark) (k : ℕ) : Type 0 where
  pub row : RowShows v A matrix.numbers.items matrix.width (level_bit matrix.width live marks k)
  pub counted : HaveAt v A have raised (mark_of marks raised k)
  pub mosts : (i : Item) → most_at v A i ≡ most_at v A0 i
  pub leasts : (i : Item) → least_at v A i ≡ least_at v A0 i
  pub few : mark_of marks raised k ≤ PLACEMENT_ITEMS * k
  pub begun : mark_of marks raised k ≤ length raised

-- a level for the given atoms, and one for each step; two levels share a row, or their rows are apart
pub record Kept (v : View) (A : List Atom) (first : ℕ) (matrix : Matrix) (t : Table) (live have raised : List ℕ) (marks : List Mark) : Type 0 where
  pub low : first ≤ length A
  pub table : TableShows v (take first A) matrix t
  pub steps : length marks + first ≡ length A
  pub have_len : length have ≡ length v.bounds
  pub wide : matrix.width ≤ length live
  pub rows : (k : ℕ) → k ≤ length marks → row_of matrix.width live marks k ≤ matrix.width * k
  pub apart : (k l : ℕ) → k ≤ l → l ≤ length marks → (row_of matrix.width live marks k ≡ row_of matrix.width live marks l) ⊎ (row_of matrix.width live marks k + matrix.width ≤ row_of matrix.width live marks l)
  pub columns : (k j : ℕ) → k < length marks → (slice_index_or marks k (record { raised = 0; row = 0; cleared = None })).cleared ≡ Some j → j < 64 * matrix.width
  pub indices : list_all (λ b. nat_lt b (length v.bounds)) raised ≡ true
  pub up : (k l : ℕ) → k ≤ l → l ≤ length marks → mark_of marks raised k ≤ mark_of marks raised l
  pub levels : (k : ℕ) → k ≤ length marks → LevelShows v (take first A) (take (first + k) A) matrix t live have raised marks k

-- `Kept` for the lists of the steps
abbrev pub StepsKeep : View → List Atom → ℕ → Matrix → Table → Steps → Type 0
StepsKeep v A first m t s = Kept v A first m t s.live.items s.have.items s.raised.items s.marks.items

-- the steps are those of the node
abbrev pub IsAt : Node → Steps → Type 0
IsAt n s = StepsKeep n.view.now n.trail.now n.base n.matrix.now n.table.now s

-- room for 4,096 steps
pub record HasRoom (matrix : Matrix) (s : Steps) : Type 0 where
  pub live : matrix.width * (STEPS + 1) ≤ vec_capacity s.live
  pub raised : STEPS * PLACEMENT_ITEMS ≤ vec_capacity s.raised
  pub marks : STEPS ≤ vec_capacity s.marks
