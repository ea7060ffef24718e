-- How writing to rows changes the number at each position.
use Rattle.std.proofs.Common.{IsSome, List, None, Option, Some, [], ap, arith, get_or, inl, inr, length, refl, set, slice_get, suc, sym, take, zero, ℕ, ◌++◌, ◌+◌, ◌-◌, ◌<◌, ◌∙◌, ◌∷◌, ◌≡◌, ◌≤◌}
use Rattle.std.proofs.lemmas.Bool.{cases_eq, cases_lt}
use Rattle.std.proofs.lemmas.List.{get_or-set_other, get_or-set_same, get_or-take, get_or_past, get_or_read, length-set, length-take-le}
use Rattle.std.specs.Option.{is_some}
use Rattle.std.proofs.lemmas.Option.{slice_get_past}
use Rattle.std.specs.List.{swap_remove}
use Rattle.poly_catalogue.specs.Rows.{Puts, at, row}
use Rattle.poly_catalogue.proofs.Agreed.{but_else, but_here}

pub get_set : {X : Type 0} (xs : List X) (k : ℕ) (v : X) → k < length xs → slice_get (set xs k v) k ≡ Some v
get_set [] k v l = absurd (omega arith)
get_set (x ∷ xs) zero v l = refl
get_set (x ∷ xs) (suc k) v l = get_set xs k v (omega arith)

pub get_set_other : {X : Type 0} (xs : List X) (k : ℕ) (v : X) (b : ℕ) → (b ≡ k → ⊥) → slice_get (set xs k v) b ≡ slice_get xs b
get_set_other [] k v b n = refl
get_set_other (x ∷ xs) zero v zero n = absurd (n refl)
get_set_other (x ∷ xs) zero v (suc b) n = refl
get_set_other (x ∷ xs) (suc k) v zero n = refl
get_set_other (x ∷ xs) (suc k) v (suc b) n = get_set_other xs k v b (λ e. n (ap suc e))

pub get_take : {X : Type 0} (xs : List X) (n b : ℕ) → b < n → slice_get (take n xs) b ≡ slice_get xs b
get_take [] zero b l = refl
get_take [] (suc n) b l = refl
get_take (x ∷ xs) zero b l = absurd (omega arith)
get_take (x ∷ xs) (suc n) zero l = refl
get_take (x ∷ xs) (suc n) (suc b) l = get_take xs n b (omega arith)

pub get_push : {X : Type 0} (xs : List X) (v : X) (b : ℕ) → b ≡ length xs → slice_get (xs ++ v ∷ []) b ≡ Some v
get_push [] v zero e = refl
get_push [] v (suc b) e = absurd (omega arith)
get_push (x ∷ xs) v zero e = absurd (omega arith)
get_push (x ∷ xs) v (suc b) e = get_push xs v b (omega arith)

pub get_push_other : {X : Type 0} (xs : List X) (v : X) (b : ℕ) → (b ≡ length xs → ⊥) → slice_get (xs ++ v ∷ []) b ≡ slice_get xs b
get_push_other [] v zero n = absurd (n refl)
get_push_other [] v (suc b) n = refl
get_push_other (x ∷ xs) v zero n = refl
get_push_other (x ∷ xs) v (suc b) n = get_push_other xs v b (λ e. n (ap suc e))

-- a position that has a number is inside a row of the list
pub some_low : (rows : List (List ℕ)) (i k p : ℕ) → at rows i k ≡ Some p → (i < length rows) × (k < length (row rows i))
some_low rows i k p h = elim (cases_lt i (length rows)) [
  | inl l ↦ elim (cases_lt k (length (row rows i))) [
    | inl m ↦ (l, m)
    | inr g ↦ absurd (let e = slice_get_past (row rows i) k g in let x : None ≡ Some p = sym e ∙ h in cc)
  ]
  | inr g ↦ absurd (let e : row rows i ≡ [] = get_or_past rows i [] g in let x : slice_get [] k ≡ Some p = sym (ap (λ l. slice_get l k) e) ∙ h in cc)
]

pub read_some : (rows : List (List ℕ)) (i k : ℕ) → k < length (row rows i) → at rows i k ≡ Some (get_or (row rows i) k 0)
read_some rows i k l = go (row rows i) k l
  where
    go : (xs : List ℕ) (n : ℕ) → n < length xs → slice_get xs n ≡ Some (get_or xs n 0)
    go [] n m = absurd (omega arith)
    go (x ∷ xs) zero m = refl
    go (x ∷ xs) (suc n) m = go xs n (omega arith)

-- one row is replaced
pub row_set_same : (rows : List (List ℕ)) (i : ℕ) (r : List ℕ) → i < length rows → row (set rows i r) i ≡ r
row_set_same rows i r l = get_or-set_same rows i r [] l

pub row_set_other : (rows : List (List ℕ)) (i : ℕ) (r : List ℕ) (a : ℕ) → (a ≡ i → ⊥) → row (set rows i r) a ≡ row rows a
row_set_other rows i r a n = get_or-set_other rows i a r [] n

pub puts_from : (rows : List (List ℕ)) (i k : ℕ) (o : Option ℕ) (r : List ℕ) → i < length rows → slice_get r k ≡ o → ((b : ℕ) → (b ≡ k → ⊥) → slice_get r b ≡ at rows i b) → Puts rows i k o (set rows i r)
puts_from rows i k o r l here else a b = elim (cases_eq a i) [
  | inl x ↦
      let is : row (set rows i r) a ≡ r = ap (λ z. row (set rows i r) z) x ∙ row_set_same rows i r l in
      elim (cases_eq b k) [
        | inl y ↦ ap (λ z. slice_get z b) is ∙ ap (λ z. slice_get r z) y ∙ here ∙ sym (but_here (at rows) i k o a b x y)
        | inr n ↦ ap (λ z. slice_get z b) is ∙ else b n ∙ sym (ap (λ z. at rows z b) x) ∙ sym (but_else (at rows) i k o a b (λ p. n p.1))
      ]
  | inr n ↦ ap (λ z. slice_get z b) (row_set_other rows i r a n) ∙ sym (but_else (at rows) i k o a b (λ p. n p.0))
]

pub put_puts : (rows : List (List ℕ)) (i k v : ℕ) → i < length rows → k < length (row rows i) → Puts rows i k (Some v) (set rows i (set (row rows i) k v))
put_puts rows i k v l m = puts_from rows i k (Some v) (set (row rows i) k v) l (get_set (row rows i) k v m) (λ b n. get_set_other (row rows i) k v b n)

pub cut_puts : (rows : List (List ℕ)) (i : ℕ) → i < length rows → 0 < length (row rows i) → Puts rows i (length (row rows i) - 1) None (set rows i (take (length (row rows i) - 1) (row rows i)))
cut_puts rows i l m =
    let r = row rows i in
    let n = length r - 1 in
    let short : length (take n r) ≡ n = length-take-le n r (omega arith) in
    puts_from rows i n None (take n r) l (slice_get_past (take n r) n (omega arith)) (λ b d. elim (cases_lt b n) [
      | inl low ↦ get_take r n b low
      | inr high ↦ slice_get_past (take n r) b (omega arith) ∙ sym (slice_get_past r b (omega arith))
    ])

pub append_puts : (rows : List (List ℕ)) (i v : ℕ) → i < length rows → Puts rows i (length (row rows i)) (Some v) (set rows i (row rows i ++ v ∷ []))
append_puts rows i v l = puts_from rows i (length (row rows i)) (Some v) (row rows i ++ v ∷ []) l (get_push (row rows i) v (length (row rows i)) refl) (λ b n. get_push_other (row rows i) v b n)

-- a further row that is empty changes nothing
pub empty_row : (rows : List (List ℕ)) (a b : ℕ) → at (rows ++ [] ∷ []) a b ≡ at rows a b
empty_row [] zero b = refl
empty_row [] (suc a) b = refl
empty_row (r ∷ rows) zero b = refl
empty_row (r ∷ rows) (suc a) b = empty_row rows a b

-- a further row is at the end, and changes no other row
pub row_pushed : (rows : List (List ℕ)) (r : List ℕ) → row (rows ++ r ∷ []) (length rows) ≡ r
row_pushed [] r = refl
row_pushed (x ∷ rows) r = row_pushed rows r

pub row_before : (rows : List (List ℕ)) (r : List ℕ) (a : ℕ) → (a ≡ length rows → ⊥) → row (rows ++ r ∷ []) a ≡ row rows a
row_before [] r zero n = absurd (n refl)
row_before [] r (suc a) n = refl
row_before (x ∷ rows) r zero n = refl
row_before (x ∷ rows) r (suc a) n = row_before rows r a (λ e. n (ap suc e))

-- the last row takes the index of another
pub row_swapped : (rows : List (List ℕ)) (t : ℕ) (d : List ℕ) (a : ℕ) → t + 1 < length rows → a ≡ t → row (swap_remove rows t d) a ≡ row rows (length rows - 1)
row_swapped rows t d a l e =
    let n = length rows - 1 in
    let last = get_or rows n d in
    get_or-take n (set rows t last) a [] (omega arith)
    ∙ ap (λ z. get_or (set rows t last) z []) e
    ∙ get_or-set_same rows t last [] (omega arith)
    ∙ same rows n d (omega arith)
  where
    same : (xs : List (List ℕ)) (n : ℕ) (d : List ℕ) → n < length xs → get_or xs n d ≡ get_or xs n []
    same [] n d m = absurd (omega arith)
    same (x ∷ xs) zero d m = refl
    same (x ∷ xs) (suc n) d m = same xs n d (omega arith)

pub row_kept : (rows : List (List ℕ)) (t : ℕ) (d : List ℕ) (a : ℕ) → t < length rows → (a ≡ t → ⊥) → a + 1 < length rows → row (swap_remove rows t d) a ≡ row rows a
row_kept rows t d a l n m =
    get_or-take (length rows - 1) (set rows t (get_or rows (length rows - 1) d)) a [] (omega arith)
    ∙ get_or-set_other rows t a (get_or rows (length rows - 1) d) [] n

pub row_gone : (rows : List (List ℕ)) (t : ℕ) (d : List ℕ) (a : ℕ) → length rows ≤ a + 1 → row (swap_remove rows t d) a ≡ []
row_gone rows t d a m =
    let s = set rows t (get_or rows (length rows - 1) d) in
    get_or_past (take (length rows - 1) s) a [] (omega (arith, length-take-le (length rows - 1) s (omega (arith, length-set rows t (get_or rows (length rows - 1) d)))))

-- a position is inside a row of the list even if it is only known that some number is there
pub there : (rows : List (List ℕ)) (i k : ℕ) → IsSome (at rows i k) → (i < length rows) × (k < length (row rows i))
there rows i k h = go (at rows i k) refl h
  where
    go : (o : Option ℕ) → at rows i k ≡ o → IsSome o → (i < length rows) × (k < length (row rows i))
    go None e s = cc
    go (Some p) e s = some_low rows i k p e

pub is_there : {X : Type 0} (o : Option X) (x : X) → o ≡ Some x → IsSome o
is_there o x e = ap is_some e

pub row_low : (rows : List (List ℕ)) (i : ℕ) → 0 < length (row rows i) → i < length rows
row_low rows i h = elim (cases_lt i (length rows)) [
  | inl l ↦ l
  | inr g ↦ absurd (let e : length (row rows i) ≡ 0 = ap length (get_or_past rows i [] g) in omega arith)
]

-- the value of an element that is read
pub row_read : (rows : List (List ℕ)) (i : ℕ) (x : List ℕ) → i < length rows → x ≡ get_or rows i x → x ≡ row rows i
row_read rows i x l is = get_or_read rows i x l is []

pub number_read : (rows : List (List ℕ)) (i k : ℕ) (r : List ℕ) → (i < length rows) × (k < length (row rows i)) → r ≡ row rows i → at rows i k ≡ Some (get_or r k 0)
number_read rows i k r low is = read_some rows i k low.1 ∙ ap (λ l. Some (get_or l k 0)) (sym is)
