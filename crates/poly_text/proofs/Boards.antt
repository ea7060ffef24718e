-- The cells of a board, and how a map takes them one after another.
use Rattle.std.proofs.Common.{◌≡◌, ◌≢◌, ◌+◌, ◌*◌, ◌≤◌, ◌<◌, ℕ, zero, suc, Bool, true, false, List, [], ◌∷◌, ◌++◌, length, take, get_or, cond, refl, sym, ap, subst, ◌∙◌, arith, length-append, Option, Some, None, append_assoc, append-nil, inl, inr}
use Rattle.std.specs.Prelude.{◌⊎◌, nat_le, count_by, sum_by, is_some, ◌==◌, if◌then◌else◌}
use Rattle.std.specs.List.{All, AllPass, list_all}
use Rattle.std.specs.BTreeMap.{insert_entry}
use Rattle.std.specs.Ordering.{nat_cmp, ordering_then}
use Rattle.std.specs.Cmp.{nat_cmp_is}
use Rattle.std.specs.declared.cmp.Ordering.TheVariants.{Equal, Greater}
use Rattle.std.proofs.lemmas.Bool.{cases_lt, and_parts, leb-true}
use Rattle.std.proofs.lemmas.List.Sums.{sum_by-cons, AllPass-from_list_all}
use Rattle.std.proofs.lemmas.List.{take_more, length-take-le}
use Rattle.std.proofs.lemmas.List.Elements.{All-contains}
use Rattle.serde_json.specs.View.{view}
use Rattle.serde_json.specs.declared.value.Value.{Value}
use Rattle.poly_grid.specs.Spot.{Spot}
use Rattle.poly_shape.specs.Order.{spot_cmp}
use Rattle.poly_design.specs.Limits.{NoneBlocked}
use Rattle.poly_design.specs.declared.mode.Mode.{Mode}
use Rattle.poly_design.specs.declared.mode.Mode.TheVariants.{Required, Optional, Blocked}
use Rattle.poly_text.specs.Board.{AreBefore, open_mode, is_open, is_mark, is_row, is_board, row_cells, cells_from, board_cells, with_mode}
use Rattle.poly_text.specs.Json as json
use Rattle.poly_text.specs.Views.{rows_of}
use Rattle.poly_text.proofs.Testing.{rows_length, rows_pass}

-- ---- how many cells there are

length_with_mode : (c : Spot) (m : Option Mode) → length (with_mode c m) ≡ cond (is_some m) 1 0
length_with_mode c None = refl
length_with_mode c (Some m) = refl

length_row_cells : (x y : ℕ) (row : List ℕ) → length (row_cells x y row) ≡ count_by is_open row
length_row_cells x y [] = refl
length_row_cells x y (byte ∷ row) =
    length-append (with_mode (record { x = x; y = y }) (open_mode byte)) (row_cells (suc x) y row)
    ∙ ap (λ n. n + length (row_cells (suc x) y row)) (length_with_mode (record { x = x; y = y }) (open_mode byte))
    ∙ ap (λ n. cond (is_open byte) 1 0 + n) (length_row_cells (suc x) y row) ∙ sym (sum_by-cons (λ b. cond (is_open b) 1 0) byte row)

length_cells_from : (y : ℕ) (vs : List Value) → length (cells_from y (rows_of vs)) ≡ sum_by (λ v. count_by is_open (json.text (view v))) vs
length_cells_from y [] = refl
length_cells_from y (v ∷ vs) =
    length-append (row_cells 0 y (json.text (view v))) (cells_from (suc y) (rows_of vs)) ∙ ap (λ n. n + length (cells_from (suc y) (rows_of vs))) (length_row_cells 0 y (json.text (view v)))
    ∙ ap (λ n. count_by is_open (json.text (view v)) + n) (length_cells_from (suc y) vs) ∙ sym (sum_by-cons (λ w. count_by is_open (json.text (view w))) v vs)

pub board_length : (vs : List Value) → length (board_cells (rows_of vs)) ≡ sum_by (λ v. count_by is_open (json.text (view v))) vs
board_length vs = length_cells_from 0 vs

-- ---- no byte of a row gives the mode Blocked

open_not_blocked : (byte : ℕ) (m : Mode) → open_mode byte ≡ Some m → m ≢ Blocked
open_not_blocked byte m e = go (byte == 35) (byte == 43) e
  where
    go : (s t : Bool) → (if s then Some Required else (if t then Some Optional else None)) ≡ Some m → m ≢ Blocked
    go true t e = λ b. cc
    go false true e = λ b. cc
    go false false e = λ b. cc

-- ---- the map takes the cells in reading order, so each new cell comes last

pub before_more : (p q : ℕ) (es : List (Spot × Mode)) → p ≤ q → AreBefore p es → AreBefore q es
before_more p q [] le h = tt
before_more p q (e ∷ es) le h = (omega (arith, le, h.0), h.1, before_more p q es le h.2)

pub before_append : (p : ℕ) (es fs : List (Spot × Mode)) → AreBefore p es → AreBefore p fs → AreBefore p (es ++ fs)
before_append p [] fs h i = i
before_append p (e ∷ es) fs h i = (h.0, h.1, before_append p es fs h.2 i)

after_is_greater : (c d : Spot) → c.x < 64 → d.x < 64 → 64 * d.y + d.x < 64 * c.y + c.x → spot_cmp c d ≡ Greater
after_is_greater c d fits fits' lt = go (cases_lt d.y c.y)
  where
    greater : (a b : ℕ) → b < a → nat_cmp a b ≡ Greater
    greater a b h = sym (nat_cmp_is a b Greater h)

    equal : (a b : ℕ) → a ≡ b → nat_cmp a b ≡ Equal
    equal a b h = sym (nat_cmp_is a b Equal h)

    go : (d.y < c.y) ⊎ (c.y ≤ d.y) → spot_cmp c d ≡ Greater
    go (inl above) = ap (λ o. ordering_then o (nat_cmp c.x d.x)) (greater c.y d.y above)
    go (inr le) = ap (λ o. ordering_then o (nat_cmp c.x d.x)) (equal c.y d.y (omega (arith, lt, le, fits, fits'))) ∙ greater c.x d.x (omega (arith, lt, le, fits, fits'))

pub insert_last : (c : Spot) (m : Mode) (es : List (Spot × Mode)) → c.x < 64 → AreBefore (64 * c.y + c.x) es → insert_entry spot_cmp es c m ≡ es ++ (c, m) ∷ []
insert_last c m [] fits h = refl
insert_last c m (e ∷ es) fits h = rw (after_is_greater c e.0 fits h.1 h.0) (ap (λ z. e ∷ z) (insert_last c m es fits h.2))

pub with_mode_before : (p : ℕ) (c : Spot) (m : Option Mode) → 64 * c.y + c.x < p → c.x < 64 → AreBefore p (with_mode c m)
with_mode_before p c None lt fits = tt
with_mode_before p c (Some m) lt fits = (lt, fits, tt)

row_append : (x y : ℕ) (row : List ℕ) (byte : ℕ) → row_cells x y (row ++ byte ∷ []) ≡ row_cells x y row ++ with_mode (record { x = x + length row; y = y }) (open_mode byte)
row_append x y [] byte = append-nil (with_mode (record { x = x; y = y }) (open_mode byte)) ∙ ap (λ n. with_mode (record { x = n; y = y }) (open_mode byte)) (omega arith)
row_append x y (b ∷ row) byte =
    ap (λ z. with_mode (record { x = x; y = y }) (open_mode b) ++ z) (row_append (suc x) y row byte) ∙ sym (append_assoc (with_mode (record { x = x; y = y }) (open_mode b)) (row_cells (suc x) y row) (with_mode (record { x = suc x + length row; y = y }) (open_mode byte)))
    ∙ ap (λ n. (with_mode (record { x = x; y = y }) (open_mode b) ++ row_cells (suc x) y row) ++ with_mode (record { x = n; y = y }) (open_mode byte)) (omega arith)

-- one more byte of a row adds its cell, unless that cell is blocked
pub row_more : (y x : ℕ) (row : List ℕ) → x < length row → row_cells 0 y (take (x + 1) row) ≡ row_cells 0 y (take x row) ++ with_mode (record { x = x; y = y }) (open_mode (get_or row x 0))
row_more y x row lt =
    let len : length (take x row) ≡ x = length-take-le x row (omega arith) in
    ap (row_cells 0 y) (take_more row x 0 lt) ∙ row_append 0 y (take x row) (get_or row x 0) ∙ ap (λ n. row_cells 0 y (take x row) ++ with_mode (record { x = n; y = y }) (open_mode (get_or row x 0))) (omega (arith, len))

rows_append : (y : ℕ) (rows : List (List ℕ)) (row : List ℕ) → cells_from y (rows ++ row ∷ []) ≡ cells_from y rows ++ row_cells 0 (y + length rows) row
rows_append y [] row = append-nil (row_cells 0 y row) ∙ ap (λ n. row_cells 0 n row) (omega arith)
rows_append y (r ∷ rows) row =
    ap (λ z. row_cells 0 y r ++ z) (rows_append (suc y) rows row) ∙ sym (append_assoc (row_cells 0 y r) (cells_from (suc y) rows) (row_cells 0 (suc y + length rows) row))
    ∙ ap (λ n. (row_cells 0 y r ++ cells_from (suc y) rows) ++ row_cells 0 n row) (omega arith)

-- one more row of a board adds the cells of that row
pub rows_more : (y : ℕ) (vs : List Value) (v : Value) → y < length vs → v ≡ get_or vs y v → cells_from 0 (rows_of (take (y + 1) vs)) ≡ cells_from 0 (rows_of (take y vs)) ++ row_cells 0 y (json.text (view v))
rows_more y vs v lt is =
    let len : length (rows_of (take y vs)) ≡ y = rows_length (take y vs) ∙ length-take-le y vs (omega arith) in
    ap (λ ws. cells_from 0 (rows_of ws)) (take_more vs y v lt ∙ ap (λ w. take y vs ++ w ∷ []) (sym is)) ∙ ap (cells_from 0) (rows_of_append (take y vs) v)
    ∙ rows_append 0 (rows_of (take y vs)) (json.text (view v)) ∙ ap (λ n. cells_from 0 (rows_of (take y vs)) ++ row_cells 0 n (json.text (view v))) (omega (arith, len))
  where
    rows_of_append : (ws : List Value) (w : Value) → rows_of (ws ++ w ∷ []) ≡ rows_of ws ++ json.text (view w) ∷ []
    rows_of_append [] w = refl
    rows_of_append (x ∷ ws) w = ap (λ z. json.text (view x) ∷ z) (rows_of_append ws w)

-- each row of a board has an index below 64 and at most 64 bytes
pub board_bounds : (vs : List Value) (y : ℕ) (v : Value) → is_board (rows_of vs) ≡ true → y < length vs → v ≡ get_or vs y v → (y < 64) × (length (json.text (view v)) ≤ 64)
board_bounds vs y v board lt is =
    let parts = and_parts (nat_le (length (rows_of vs)) 64) (list_all is_row (rows_of vs)) board in
    let few : length (rows_of vs) ≤ 64 = leb-true (length (rows_of vs)) 64 parts.0 in
    let all : AllPass (λ w. is_row (json.text (view w))) vs = AllPass-from_list_all (λ w. is_row (json.text (view w))) vs (sym (rows_pass vs) ∙ parts.1) in
    let row : is_row (json.text (view v)) ≡ true = subst (λ w. is_row (json.text (view w)) ≡ true) (sym is) (all y v lt) in
    let sizes = and_parts (nat_le (length (json.text (view v))) 64) (list_all is_mark (json.text (view v))) row in
    (omega (arith, lt, few, rows_length vs), leb-true (length (json.text (view v))) 64 sizes.0)

-- ---- no cell of `board_cells` has the mode Blocked

abbrev AllOpen : List (Spot × Mode) → Type 0
AllOpen [] = Unit {0}
AllOpen (e ∷ es) = (e.1 ≢ Blocked) × AllOpen es

open_append : (es fs : List (Spot × Mode)) → AllOpen es → AllOpen fs → AllOpen (es ++ fs)
open_append [] fs h i = i
open_append (e ∷ es) fs h i = (h.0, open_append es fs h.1 i)

open_with_mode : (c : Spot) (byte : ℕ) (o : Option Mode) → open_mode byte ≡ o → AllOpen (with_mode c o)
open_with_mode c byte None e = tt
open_with_mode c byte (Some m) e = (open_not_blocked byte m e, tt)

open_row : (x y : ℕ) (row : List ℕ) → AllOpen (row_cells x y row)
open_row x y [] = tt
open_row x y (byte ∷ row) = open_append (with_mode (record { x = x; y = y }) (open_mode byte)) (row_cells (suc x) y row) (open_with_mode (record { x = x; y = y }) byte (open_mode byte) refl) (open_row (suc x) y row)

open_rows : (y : ℕ) (rows : List (List ℕ)) → AllOpen (cells_from y rows)
open_rows y [] = tt
open_rows y (row ∷ rows) = open_append (row_cells 0 y row) (cells_from (suc y) rows) (open_row 0 y row) (open_rows (suc y) rows)

all_open : (es : List (Spot × Mode)) → AllOpen es → All (λ e. e.1 ≢ Blocked) es
all_open [] h = λ k d lt. absurd (omega (arith, lt))
all_open (e ∷ es) h = go (all_open es h.1)
  where
    go : All (λ x. x.1 ≢ Blocked) es → (k : ℕ) (d : Spot × Mode) → k < length (e ∷ es) → (get_or (e ∷ es) k d).1 ≢ Blocked
    go rest zero d lt = h.0
    go rest (suc k) d lt = rest k d (omega (arith, lt))

pub none_blocked : (rows : List (List ℕ)) → NoneBlocked (board_cells rows)
none_blocked rows = λ c m has. All-contains (λ e. e.1 ≢ Blocked) (board_cells rows) (c, m) (all_open (board_cells rows) (open_rows 0 rows)) has
