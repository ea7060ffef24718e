-- The rows of a table, and what a write, a further row and a shorter list change in it.
use Rattle.std.proofs.Common.{IsSome, List, Some, [], ap, arith, cond, drop, eqb, get_or, inl, inr, length, ltb, map, refl, replicate, set, slice_get, subst, suc, sym, take, zero, ℕ, ◌&&◌, ◌*◌, ◌++◌, ◌+◌, ◌-◌, ◌<◌, ◌∙◌, ◌∷◌, ◌≡◌, ◌≤◌}
use Rattle.std.proofs.Math.Seq.{drop-nil, take-set-lt}
use Rattle.std.proofs.lemmas.Bool.{and_from, and_left, and_right, cases_eq, cases_lt, cond-false, cond-true, eq-eqb, le-ltb, lt-ltb, ne_eqb}
use Rattle.std.specs.List.{swap_remove}
use Rattle.std.proofs.lemmas.List.{append_assoc, take_all, get_or-map, get_or-take, get_or_past, length-replicate, take_more, drop-append-le, drop-set-add, drop-set-lt, drop-take, length-append, length-drop, length-set, length-take-le, take-append-le, take-set-le, take-take}
use Rattle.std.proofs.lemmas.Option.{slice_get_past}
use native.Mathlib.Nat.{mul-le-mul_left}
use Rattle.poly_catalogue.specs.Rows.{Puts, at, over, row}
use Rattle.poly_catalogue.specs.Table.{rows_of}
use Rattle.poly_catalogue.proofs.Written.{get_take, put_puts, row_gone, row_kept, row_set_other, row_set_same, row_swapped, there}

pub length_rows : (w n : ℕ) (cs : List ℕ) → length (rows_of w n cs) ≡ n
length_rows w zero cs = refl
length_rows w (suc n) cs = ap suc (length_rows w n (drop w cs))

drop_on : {X : Type 0} (i j : ℕ) (xs : List X) → drop j (drop i xs) ≡ drop (i + j) xs
drop_on zero j xs = ap (λ n. drop n xs) (let e : j ≡ 0 + j = omega arith in e)
drop_on (suc i) j [] = drop-nil j ∙ sym (drop-nil (suc i + j))
drop_on (suc i) j (x ∷ xs) = drop_on i j xs ∙ sym (ap (λ n. drop n (x ∷ xs)) (let e : suc i + j ≡ suc (i + j) = omega arith in e))

get_on : {X : Type 0} (i k : ℕ) (xs : List X) → slice_get (drop i xs) k ≡ slice_get xs (i + k)
get_on zero k xs = ap (λ n. slice_get xs n) (let e : k ≡ 0 + k = omega arith in e)
get_on (suc i) k [] = slice_get_past [] k (omega arith) ∙ sym (slice_get_past [] (suc i + k) (omega arith))
get_on (suc i) k (x ∷ xs) = get_on i k xs ∙ sym (ap (λ n. slice_get (x ∷ xs) n) (let e : suc i + k ≡ suc (i + k) = omega arith in e))

-- where each row is
pub row_is : (w n : ℕ) (cs : List ℕ) (t : ℕ) → t < n → row (rows_of w n cs) t ≡ take w (drop (t * w) cs)
row_is w zero cs t l = absurd (omega arith)
row_is w (suc n) cs zero l = ap (λ i. take w (drop i cs)) (let e : 0 ≡ 0 * w = omega arith in e)
row_is w (suc n) cs (suc t) l =
    row_is w n (drop w cs) t (omega arith) ∙ ap (λ xs. take w xs) (drop_on w (t * w) cs) ∙ ap (λ i. take w (drop i cs)) (let e : w + t * w ≡ suc t * w = omega arith in e)

pub row_within : (w n t : ℕ) → t < n → t * w + w ≤ n * w
row_within w n t l = let a = mul-le-mul_left {m = t + 1} {n = n} w (omega arith) in omega (arith, a)

pub cell_within : (w n t k : ℕ) → t < n → k < w → t * w + k < n * w
cell_within w n t k l m = let a = row_within w n t l in omega (arith, a)

pub row_width : (w n : ℕ) (cs : List ℕ) (t : ℕ) → length cs ≡ n * w → t < n → length (row (rows_of w n cs) t) ≡ w
row_width w n cs t whole l =
    let a = row_within w n t l in
    ap length (row_is w n cs t l) ∙ length-take-le w (drop (t * w) cs) (omega (arith, a, whole, length-drop (t * w) cs))

-- where each position is
pub cell_is : (w n : ℕ) (cs : List ℕ) (t k : ℕ) → t < n → k < w → at (rows_of w n cs) t k ≡ slice_get cs (t * w + k)
cell_is w n cs t k l m = ap (λ r. slice_get r k) (row_is w n cs t l) ∙ get_take (drop (t * w) cs) w k m ∙ get_on (t * w) k cs

-- if row `t` of the table has an element at index `k`, then `t` is below the count of rows and `k` is below the width
pub cell_low : (w n : ℕ) (cs : List ℕ) (t k : ℕ) → length cs ≡ n * w → (t < length (rows_of w n cs)) × (k < length (row (rows_of w n cs) t)) → (t < n) × (k < w)
cell_low w n cs t k whole low =
    let l : t < n = omega (arith, low.0, length_rows w n cs) in
    (l, omega (arith, low.1, row_width w n cs t whole l))

-- a position that has a number in the rows is inside the table's list
pub noted : (w n : ℕ) (cs : List ℕ) (rows : List (List ℕ)) (t k : ℕ) → rows_of w n cs ≡ rows → length cs ≡ n * w → IsSome (at rows t k) → (t < n) × (k < w) × (t * w + k < length cs)
noted w n cs rows t k is whole h =
    let low = cell_low w n cs t k whole (there (rows_of w n cs) t k (subst (λ rs. IsSome (at rs t k)) (sym is) h)) in
    let inside = cell_within w n t k low.0 low.1 in
    (low.0, low.1, omega (arith, inside, whole))

pub cell_some : (cs : List ℕ) (i v : ℕ) → i < length cs → v ≡ get_or cs i v → slice_get cs i ≡ Some v
cell_some [] i v l e = absurd (omega arith)
cell_some (x ∷ cs) zero v l e = ap Some (sym e)
cell_some (x ∷ cs) (suc i) v l e = cell_some cs i v (omega arith) e

-- a write
set_rows : (w n : ℕ) (cs : List ℕ) (t k v : ℕ) → t < n → k < w → rows_of w n (set cs (t * w + k) v) ≡ set (rows_of w n cs) t (set (row (rows_of w n cs) t) k v)
set_rows w zero cs t k v l m = absurd (omega arith)
set_rows w (suc n) cs zero k v l m =
    ap (λ i. rows_of w (suc n) (set cs i v)) (let e : 0 * w + k ≡ k = omega arith in e)
    ∙ ap (λ r. r ∷ rows_of w n (drop w (set cs k v))) (take-set-lt w cs k v m)
    ∙ ap (λ xs. set (take w cs) k v ∷ rows_of w n xs) (drop-set-lt w cs k v m)
set_rows w (suc n) cs (suc t) k v l m =
    ap (λ i. rows_of w (suc n) (set cs i v)) (let e : suc t * w + k ≡ w + (t * w + k) = omega arith in e)
    ∙ ap (λ r. r ∷ rows_of w n (drop w (set cs (w + (t * w + k)) v))) (take-set-le w cs (w + (t * w + k)) v (omega arith))
    ∙ ap (λ xs. take w cs ∷ rows_of w n xs) (drop-set-add w cs (t * w + k) v)
    ∙ ap (λ rs. take w cs ∷ rs) (set_rows w n (drop w cs) t k v (omega arith) m)

pub cell_puts : (w n : ℕ) (cs : List ℕ) (t k v : ℕ) → length cs ≡ n * w → t < n → k < w → Puts (rows_of w n cs) t k (Some v) (rows_of w n (set cs (t * w + k) v))
cell_puts w n cs t k v whole l m a b =
    ap (λ rs. at rs a b) (set_rows w n cs t k v l m)
    ∙ put_puts (rows_of w n cs) t k v (omega (arith, length_rows w n cs)) (omega (arith, row_width w n cs t whole l)) a b

pub set_width : (w n : ℕ) (cs : List ℕ) (t k v : ℕ) → t < n → k < w → (a : ℕ) → length (row (rows_of w n (set cs (t * w + k) v)) a) ≡ length (row (rows_of w n cs) a)
set_width w n cs t k v l m a =
    let rows = rows_of w n cs in
    ap (λ rs. length (row rs a)) (set_rows w n cs t k v l m)
    ∙ elim (cases_eq a t) [
      | inl e ↦ ap (λ b. length (row (set rows t (set (row rows t) k v)) b)) e ∙ ap length (row_set_same rows t (set (row rows t) k v) (omega (arith, length_rows w n cs))) ∙ length-set (row rows t) k v ∙ sym (ap (λ b. length (row rows b)) e)
      | inr d ↦ ap length (row_set_other rows t (set (row rows t) k v) a d)
    ]

-- a further row
pub push_rows : (w n : ℕ) (cs r : List ℕ) → length cs ≡ n * w → length r ≡ w → rows_of w (suc n) (cs ++ r) ≡ rows_of w n cs ++ r ∷ []
push_rows w zero [] r whole long = ap (λ xs. xs ∷ []) (all w r (omega (arith, long)))
  where
    all : {X : Type 0} (n : ℕ) (xs : List X) → length xs ≤ n → take n xs ≡ xs
    all zero [] h = refl
    all zero (x ∷ xs) h = absurd (omega arith)
    all (suc n) [] h = refl
    all (suc n) (x ∷ xs) h = ap (λ l. x ∷ l) (all n xs (omega arith))
push_rows w zero (c ∷ cs) r whole long = absurd (omega (arith, whole))
push_rows w (suc n) cs r whole long =
    let a : w ≤ length cs = omega (arith, whole) in
    let rest : length (drop w cs) ≡ n * w = omega (arith, whole, length-drop w cs) in
    ap (λ xs. xs ∷ rows_of w (suc n) (drop w (cs ++ r))) (take-append-le w cs r a)
    ∙ ap (λ xs. take w cs ∷ rows_of w (suc n) xs) (drop-append-le w cs r a)
    ∙ ap (λ rs. take w cs ∷ rs) (push_rows w n (drop w cs) r rest long)

pub push_more : (w n : ℕ) (cs r : List ℕ) → length cs ≡ n * w → length r ≡ w → rows_of w (n + 1) (cs ++ r) ≡ rows_of w n cs ++ r ∷ []
push_more w n cs r whole long = ap (λ k. rows_of w k (cs ++ r)) (let e : n + 1 ≡ suc n = omega arith in e) ∙ push_rows w n cs r whole long

pub whole_more : (w n : ℕ) (cs r : List ℕ) → length cs ≡ n * w → length r ≡ w → length (cs ++ r) ≡ (n + 1) * w
whole_more w n cs r whole long = omega (arith, length-append cs r, whole, long)

-- fewer rows
pub take_rows : (w m n : ℕ) (cs : List ℕ) → m ≤ n → rows_of w m (take (m * w) cs) ≡ take m (rows_of w n cs)
take_rows w zero n cs l = refl
take_rows w (suc m) zero cs l = absurd (omega arith)
take_rows w (suc m) (suc n) cs l =
    ap (λ i. rows_of w (suc m) (take i cs)) (let e : suc m * w ≡ w + m * w = omega arith in e)
    ∙ ap (λ xs. xs ∷ rows_of w m (drop w (take (w + m * w) cs))) (take-take w (w + m * w) cs (omega arith))
    ∙ ap (λ xs. take w cs ∷ rows_of w m xs) (drop-take w (m * w) cs)
    ∙ ap (λ rs. take w cs ∷ rs) (take_rows w m n (drop w cs) (omega arith))

-- if all rows are made wider, each number stays at its position, and there are as many rows as before
get_front : {X : Type 0} (xs ys : List X) (k : ℕ) (x : X) → slice_get xs k ≡ Some x → slice_get (xs ++ ys) k ≡ Some x
get_front [] ys k x e = absurd cc
get_front (y ∷ xs) ys zero x e = e
get_front (y ∷ xs) ys (suc k) x e = get_front xs ys k x e

pub kept_wider : (rows : List (List ℕ)) (z : List ℕ) (a b p : ℕ) → at rows a b ≡ Some p → at (map (λ r. r ++ z) rows) a b ≡ Some p
kept_wider [] z zero b p e = absurd cc
kept_wider [] z (suc a) b p e = absurd cc
kept_wider (r ∷ rows) z zero b p e = get_front r z b p e
kept_wider (r ∷ rows) z (suc a) b p e = kept_wider rows z a b p e

pub length_wider : (rows : List (List ℕ)) (z : List ℕ) → length (map (λ r. r ++ z) rows) ≡ length rows
length_wider [] z = refl
length_wider (r ∷ rows) z = ap suc (length_wider rows z)

-- each number stays at its position when a row is added
pub kept_pushed : (rows : List (List ℕ)) (r : List ℕ) (a b p : ℕ) → at rows a b ≡ Some p → at (rows ++ r ∷ []) a b ≡ Some p
kept_pushed [] r zero b p e = absurd cc
kept_pushed [] r (suc a) b p e = absurd cc
kept_pushed (x ∷ rows) r zero b p e = e
kept_pushed (x ∷ rows) r (suc a) b p e = kept_pushed rows r a b p e

-- a row that is copied over another
pub copied : (rows : List (List ℕ)) (from to n : ℕ) → length (row rows to) ≡ length (row rows from) → length (row rows from) ≤ n → (a b : ℕ) → cond (eqb a to && ltb b n) (at rows from b) (at rows a b) ≡ over (at rows) from to a b
copied rows from to n same long a b = elim (cases_eq a to) [
  | inl e ↦ elim (cases_lt b n) [
    | inl l ↦
        cond-true (eqb a to && ltb b n) (at rows from b) (at rows a b) (and_from (eqb a to) (ltb b n) (eq-eqb a to e) (lt-ltb b n l))
        ∙ sym (cond-true (eqb a to) (at rows from b) (at rows a b) (eq-eqb a to e))
    | inr g ↦
        cond-false (eqb a to && ltb b n) (at rows from b) (at rows a b) (and_right (eqb a to) (ltb b n) (le-ltb b n g))
        ∙ ap (λ z. at rows z b) e
        ∙ slice_get_past (row rows to) b (omega (arith, same))
        ∙ sym (slice_get_past (row rows from) b (omega arith))
        ∙ sym (cond-true (eqb a to) (at rows from b) (at rows a b) (eq-eqb a to e))
  ]
  | inr d ↦
      cond-false (eqb a to && ltb b n) (at rows from b) (at rows a b) (and_left (eqb a to) (ltb b n) (ne_eqb a to d))
      ∙ sym (cond-false (eqb a to) (at rows from b) (at rows a b) (ne_eqb a to d))
]

-- the last row is copied over another and then removed
pub swapped : (rows after : List (List ℕ)) (t n : ℕ) → n + 1 ≡ length rows → t ≤ n → length after ≡ length rows → ((a b : ℕ) → at after a b ≡ over (at rows) n t a b) → (a b : ℕ) → at (take n after) a b ≡ at (swap_remove rows t []) a b
swapped rows after t n e l even over a b = elim (cases_lt a n) [
  | inl m ↦
      ap (λ r. slice_get r b) (get_or-take n after a [] m) ∙ over a b ∙ elim (cases_eq a t) [
        | inl x ↦
            cond-true (eqb a t) (at rows n b) (at rows a b) (eq-eqb a t x)
            ∙ sym (ap (λ r. slice_get r b) (row_swapped rows t [] a (omega (arith, x)) x ∙ ap (λ z. row rows z) (let y : length rows - 1 ≡ n = omega arith in y)))
        | inr x ↦
            cond-false (eqb a t) (at rows n b) (at rows a b) (ne_eqb a t x)
            ∙ sym (ap (λ r. slice_get r b) (row_kept rows t [] a (omega arith) x (omega arith)))
      ]
  | inr g ↦
      ap (λ r. slice_get r b) (get_or_past (take n after) a [] (omega (arith, length-take-le n after (omega arith))))
      ∙ sym (ap (λ r. slice_get r b) (row_gone rows t [] a (omega arith)))
]

-- a row of zeros is added, and all positions stay
pub one_more_row : (w n : ℕ) (cs : List ℕ) (a b p : ℕ) → length cs ≡ n * w → at (rows_of w n cs) a b ≡ Some p → at (rows_of w (n + 1) (cs ++ replicate w 0)) a b ≡ Some p
one_more_row w n cs a b p whole e = ap (λ rs. at rs a b) (push_more w n cs (replicate w 0) whole (length-replicate w 0)) ∙ kept_pushed (rows_of w n cs) (replicate w 0) a b p e

pub wide_row : (w n k : ℕ) (cs : List ℕ) → length cs ≡ n * w → k ≡ n → length (row (rows_of w (n + 1) (cs ++ replicate w 0)) k) ≡ w
wide_row w n k cs whole e = row_width w (n + 1) (cs ++ replicate w 0) k (whole_more w n cs (replicate w 0) whole (length-replicate w 0)) (omega (arith, e))

-- one more row is made wider
pub widen_more : (w u n i : ℕ) (cs list row z : List ℕ) → i < n → length z ≡ u - w → w ≤ u → length cs ≡ n * w → row ≡ take w (drop (i * w) cs) → length list ≡ i * u →
    rows_of u i list ≡ take i (map (λ r. r ++ z) (rows_of w n cs)) → rows_of u (i + 1) ((list ++ row) ++ z) ≡ take (i + 1) (map (λ r. r ++ z) (rows_of w n cs))
widen_more w u n i cs list r z l blank le whole is long rows =
    let all = rows_of w n cs in
    let e : r ≡ row all i = is ∙ sym (row_is w n cs i l) in
    let width : length r ≡ w = ap length e ∙ row_width w n cs i whole l in
    let low : i < length all = omega (arith, length_rows w n cs, l) in
    ap (λ xs. rows_of u (i + 1) xs) (append_assoc list r z)
    ∙ push_more u i list (r ++ z) long (omega (arith, length-append r z, width, blank, le))
    ∙ ap (λ rs. rs ++ (r ++ z) ∷ []) rows
    ∙ ap (λ x. take i (map (λ r. r ++ z) all) ++ (x ++ z) ∷ []) e
    ∙ ap (λ x. take i (map (λ r. r ++ z) all) ++ x ∷ []) (sym (get_or-map (λ r. r ++ z) all i [] [] low))
    ∙ sym (take_more (map (λ r. r ++ z) all) i [] (omega (arith, length_wider all z, low)))

pub whole_wider : (w u n i : ℕ) (cs list row z : List ℕ) → i < n → length z ≡ u - w → w ≤ u → length cs ≡ n * w → row ≡ take w (drop (i * w) cs) → length list ≡ i * u → length ((list ++ row) ++ z) ≡ (i + 1) * u
whole_wider w u n i cs list r z l blank le whole is long =
    let width : length r ≡ w = ap length (is ∙ sym (row_is w n cs i l)) ∙ row_width w n cs i whole l in
    omega (arith, length-append (list ++ r) z, length-append list r, width, blank, le, long)

pub rows_all : (w u n i : ℕ) (cs list z : List ℕ) → i ≡ n → rows_of u i list ≡ take i (map (λ r. r ++ z) (rows_of w n cs)) → rows_of u n list ≡ map (λ r. r ++ z) (rows_of w n cs)
rows_all w u n i cs list z e rows =
    ap (λ k. rows_of u k list) (sym e) ∙ rows ∙ take_all i (map (λ r. r ++ z) (rows_of w n cs)) (omega (arith, length_wider (rows_of w n cs) z, length_rows w n cs, e))
