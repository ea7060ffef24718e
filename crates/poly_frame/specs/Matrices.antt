-- What a cover matrix means.
use Rattle.std.specs.Arc.{arc_value}
use Rattle.std.specs.declared.sync.Arc.{Arc}
use Rattle.std.specs.Global.{Global}
use Rattle.std.specs.Prelude.{Bool, List, None, Option, Some, [], drop, false, length, slice_index, take, true, ℕ, zero, suc, ◌*◌, ◌+◌, ◌-◌, ◌<◌, ◌^◌, ◌||◌, ◌≡◌, ◌≤◌}
use Rattle.std.specs.List.{filter}
use Rattle.poly_tiling.specs.Lists.{distinct, mem}
use Rattle.poly_tiling.specs.Names.{WellNamed}
use Rattle.poly_tiling.specs.Puzzle.{View, has_item, items}
use Rattle.poly_frame.specs.Bits.{has_bit}
use Rattle.poly_frame.specs.FrameItems.{Noted, item_of}
use Rattle.poly_frame.specs.declared.frame.items.TheConstants.{PLACEMENT_ITEMS}
use Rattle.poly_frame.specs.declared.frame.matrix.Columns.{Columns}
use Rattle.poly_frame.specs.declared.frame.matrix.Columns.TheVariants.{Own, Lent}
use Rattle.poly_frame.specs.declared.frame.matrix.Lists.{Lists}
use Rattle.poly_frame.specs.declared.frame.matrix.Matrix.{Matrix}

-- the index of the bit of row b for column j, if a row has w words
abbrev pub bit_index : ℕ → ℕ → ℕ → ℕ
bit_index w b j = 64 * (w * b) + j

-- the bit of row b for a column is set exactly if the number of that column has the item at b
abbrev pub RowsShow : View → List ℕ → ℕ → List ℕ → Type 0
RowsShow v ns w rows = (b j : ℕ) → b < length v.bounds → j < length ns → has_bit rows (bit_index w b j) ≡ has_item v (slice_index ns j) (item_of v b)

-- `stands` has the column of each number
abbrev pub StandsShow : List ℕ → List ℕ → Type 0
StandsShow ns stands = (j : ℕ) → j < length ns → (slice_index ns j < length stands) × (slice_index stands (slice_index ns j) ≡ j)

-- `chosen` and `theirs` have the numbers and the homes of those of the first k columns whose bit is set in the row
pub record ListedTo (ns homes row chosen theirs : List ℕ) (k : ℕ) : Type 0 where
  pub fewer : length chosen ≤ k
  pub numbers : (f : ℕ → Bool) → ((j : ℕ) → j < length ns → f (slice_index ns j) ≡ has_bit row j) → chosen ≡ filter f (take k ns)
  pub len : length theirs ≡ length chosen
  pub each : (stands : List ℕ) → StandsShow ns stands → (i : ℕ) → i < length chosen → slice_index theirs i ≡ slice_index homes (slice_index stands (slice_index chosen i))

-- list j: the entries from its start to the start of the next list
abbrev pub list_at : List ℕ → List ℕ → ℕ → List ℕ
list_at starts indices j = take (slice_index starts (j + 1) - slice_index starts j) (drop (slice_index starts j) indices)

-- list j has the indices of the items of the number p
pub record ListShows (v : View) (p : ℕ) (starts indices : List ℕ) (j : ℕ) : Type 0 where
  pub up : slice_index starts j ≤ slice_index starts (j + 1)
  pub end : slice_index starts (j + 1) ≤ length indices
  pub noted : Noted v.bounds (items v p) (list_at starts indices j)
  pub short : length (list_at starts indices j) ≤ PLACEMENT_ITEMS

-- there are k lists, and they are right for the first k numbers
pub record ListsTo (v : View) (ns starts indices : List ℕ) (k : ℕ) : Type 0 where
  pub len : length starts ≡ k + 1
  pub last : slice_index starts k ≡ length indices
  pub each : (j : ℕ) → j < k → ListShows v (slice_index ns j) starts indices j

abbrev pub ListsShow : View → List ℕ → Lists → Type 0
ListsShow v ns l = ListsTo v ns l.starts.items l.indices.items (length ns)

-- the list of column j is list `homes j`, and it has the indices of the items of the column's number
pub record HomesIn (v : View) (ns homes starts indices : List ℕ) : Type 0 where
  pub len : length homes ≡ length ns
  pub inside : (j : ℕ) → j < length ns → slice_index homes j + 1 < length starts
  pub each : (j : ℕ) → j < length ns → ListShows v (slice_index ns j) starts indices (slice_index homes j)

-- `HomesIn` for the lists of a matrix, which has none only if it has no columns
abbrev pub HomesShow : View → List ℕ → List ℕ → Option (Arc Lists Global) → Type 0
HomesShow v ns homes None = (length ns ≡ 0) × (length homes ≡ 0)
HomesShow v ns homes (Some a) = HomesIn v ns homes (arc_value a).starts.items (arc_value a).indices.items

-- the indices of the items of column j
abbrev pub column_items : Option (Arc Lists Global) → List ℕ → ℕ → List ℕ
column_items None homes j = []
column_items (Some a) homes j = list_at (arc_value a).starts.items (arc_value a).indices.items (slice_index homes j)

-- the matrix is the cover matrix of the view, or has some of its columns
pub record IsMatrix (v : View) (m : Matrix) : Type 0 where
  pub well : WellNamed v
  pub once : distinct m.numbers.items ≡ true
  pub fewer : length m.numbers.items ≤ length v.live
  pub live : (q : ℕ) → mem m.numbers.items q ≡ true → mem v.live q ≡ true
  pub stands : StandsShow m.numbers.items m.stands.items
  pub lists : HomesShow v m.numbers.items m.homes.items m.lists
  pub wide : length m.numbers.items ≤ 64 * m.width
  pub narrow : m.width < 2 ^ 58
  pub rows : RowsShow v m.numbers.items m.width m.rows.items
  pub rows_len : length m.rows.items ≡ m.width * length v.bounds

-- the whole cover matrix: each placement of the design has a column
pub record IsWhole (v : View) (m : Matrix) : Type 0 where
  pub part : IsMatrix v m
  pub all : m.numbers.items ≡ v.live

-- some number below n passes
abbrev pub any_below : (ℕ → Bool) → ℕ → Bool
any_below f zero = false
any_below f (suc n) = any_below f n || f n

-- the matrix that a frame reads
abbrev pub matrix_of : Columns → Matrix
matrix_of (Own m) = m
matrix_of (Lent m) = m.now

-- the bits that are set in the row are those of the columns whose number passes the test
pub record RowOf (f : ℕ → Bool) (m : Matrix) (row : List ℕ) : Type 0 where
  pub inside : (j : ℕ) → j < length m.numbers.items → has_bit row j ≡ f (slice_index m.numbers.items j)
  pub past : (j : ℕ) → length m.numbers.items ≤ j → j < 64 * m.width → has_bit row j ≡ false
