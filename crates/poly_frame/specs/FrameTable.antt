-- What the lists of a frame's table mean.
use Rattle.std.specs.Prelude.{Bool, List, length, nat_le, nat_lt, not, slice_index, true, ℕ, ◌&&◌, ◌<◌, ◌^◌, ◌||◌, ◌≡◌, ◌≤◌, cond}
use Rattle.std.specs.List.{list_all, list_any}
use Rattle.poly_tiling.specs.declared.item.Item.{Item}
use Rattle.poly_tiling.specs.Lists.{mem}
use Rattle.poly_tiling.specs.Puzzle.{View, count, is_piece, same_item}
use Rattle.poly_atom.specs.declared.atom.Atom.{Atom}
use Rattle.poly_atom.specs.Hopeless.{base}
use Rattle.poly_frame.specs.Open.{least_at, open_in, most_at}
use Rattle.poly_frame.specs.Plain.{of_asked}
use Rattle.poly_frame.specs.FrameItems.{item_of}
use Rattle.poly_frame.specs.Matrices.{IsMatrix}
use Rattle.poly_frame.specs.declared.frame.matrix.Matrix.{Matrix}
use Rattle.poly_frame.specs.declared.frame.table.Table.{Table}

abbrev pub HaveShows : View → List ℕ → List ℕ → Type 0
HaveShows v T have = (b : ℕ) → b < length v.bounds → slice_index have b ≡ count v T (item_of v b)

abbrev pub MostsShow : View → List Atom → List ℕ → Type 0
MostsShow v A mosts = (b : ℕ) → b < length v.bounds → slice_index mosts b ≡ most_at v A (item_of v b)

abbrev pub LeastsShow : View → List Atom → List ℕ → Type 0
LeastsShow v A leasts = (b : ℕ) → b < length v.bounds → slice_index leasts b ≡ least_at v A (item_of v b)

-- whether the placements outside the base that have the item are closed, if at most `most` members may have it and `have`
-- members of the base have it
abbrev pub shut_at : Item → ℕ → ℕ → Bool
shut_at i most have = nat_le most have || (not (is_piece i) && nat_lt 0 have)

-- if a member that has the item is added, and at least this many members have the item then, all other placements that have
-- it are closed
abbrev pub limit_at : Item → ℕ → ℕ
limit_at i most = cond (is_piece i) most 0

-- each placement of the design that is open at the atoms has a column
abbrev pub HasOpen : View → List Atom → Matrix → Type 0
HasOpen v A m = (q : ℕ) → mem v.live q ≡ true → open_in v A q ≡ true → mem m.numbers.items q ≡ true

-- the matrix and the table of a frame are right for the given atoms; both stay the same while the frame moves
pub record TableShows (v : View) (A : List Atom) (m : Matrix) (t : Table) : Type 0 where
  pub matrix : IsMatrix v m
  pub all : HasOpen v A m
  pub limits : (b : ℕ) → b < length v.bounds → slice_index t.limits.items b ≡ limit_at (item_of v b) (most_at v A (item_of v b))
  pub limits_len : length t.limits.items ≡ length v.bounds
  pub mosts : MostsShow v A t.mosts.items
  pub mosts_len : length t.mosts.items ≡ length v.bounds
  pub leasts : LeastsShow v A t.leasts.items
  pub leasts_len : length t.leasts.items ≡ length v.bounds
  pub listed : t.listed ≡ true → list_all (of_asked (λ i. list_any (λ b. same_item b.item i) v.bounds)) A ≡ true
  pub quiet : (b : ℕ) → t.leasts_end ≤ b → b < length v.bounds → slice_index t.leasts.items b ≡ 0
  pub alone : t.alone ≡ true → (b : ℕ) → b < length v.bounds → slice_index t.limits.items b ≤ 1
  pub small : (i : Item) → count v (base v A) i < 2 ^ 63
