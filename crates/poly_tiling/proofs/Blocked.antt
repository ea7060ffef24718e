-- Lists of placements in blocks of 1024, read, extended and cut.
use Rattle.std.proofs.Common.{Bor, List, Vec, None, Option, Some, [], ap, arith, drop, get_or, length, min, option_copied, refl, slice_get, subst, suc, sym, take, zero, ℕ, ◌%◌, ◌*◌, ◌++◌, ◌+◌, ◌/◌, ◌<◌, ◌∙◌, ◌∷◌, ◌≡◌, ◌≤◌}
use Rattle.std.specs.Global.{Global}
use Rattle.std.specs.Slice.{IsItemAt}
use Rattle.std.specs.declared.sync.Arc.{Arc}
use Rattle.std.proofs.Math.ListN.{get_or-map}
use Rattle.std.proofs.Math.Nat.{min-le_right}
use Rattle.std.proofs.Math.Seq.{take-add, take-append-add}
use Rattle.std.proofs.lemmas.Bool.{ltb-false, ltb-true}
use Rattle.std.proofs.lemmas.Grind.{flat_map-append}
use Rattle.std.proofs.lemmas.List.{append-nil, length-append, length-drop, length-take, length-take-le, take-map, take_all}
use Rattle.std.proofs.lemmas.List.Elements.{All-take}
use Rattle.std.proofs.lemmas.Nat.{div-add-mod'}
use Rattle.std.proofs.lemmas.Option.{slice_get_past, slice_get_read}
use Rattle.poly_design.specs.declared.placement.Placement.{Placement}
use Rattle.poly_tiling.specs.Blocks.{Begins, HaveSize, contents, joined}
use Rattle.poly_tiling.proofs.Lists.{slice_get_front}

-- what a slice lends at an index
pub item_copied : {X : Type 0} (xs : List X) (i : ℕ) (r : Option (Bor X)) → IsItemAt xs i r → option_copied r ≡ slice_get xs i
item_copied xs i None h = sym (slice_get_past xs i (ltb-false i (length xs) (sym h.0)))
item_copied xs i (Some x) h = sym (slice_get_read xs (length xs) i x.now refl (ltb-true i (length xs) (sym h.0)) h.1)

pub slice_get_back : {X : Type 0} (xs ys : List X) (n : ℕ) → slice_get (xs ++ ys) (length xs + n) ≡ slice_get ys n
slice_get_back [] ys n = ap (λ k. slice_get ys k) (omega arith)
slice_get_back (x ∷ xs) ys n =
    let e : length (x ∷ xs) + n ≡ suc (length xs + n) = omega arith in
    ap (λ k. slice_get (x ∷ (xs ++ ys)) k) e ∙ slice_get_back xs ys n

first_size : (b : List Placement) (bs : List (List Placement)) → HaveSize 1024 (b ∷ bs) → length b ≡ 1024
first_size b bs h = h 0 b (omega arith)

rest_size : (b : List Placement) (bs : List (List Placement)) → HaveSize 1024 (b ∷ bs) → HaveSize 1024 bs
rest_size b bs h = λ k d l. h (suc k) d (omega arith)

pub joined_length : (bs : List (List Placement)) → HaveSize 1024 bs → length (joined bs) ≡ 1024 * length bs
joined_length [] h = refl
joined_length (b ∷ bs) h = omega (arith, length-append b (joined bs), first_size b bs h, joined_length bs (rest_size b bs h))

block_at : (bs : List (List Placement)) (q r : ℕ) (d : List Placement) → HaveSize 1024 bs → q < length bs → r < 1024 → slice_get (joined bs) (q * 1024 + r) ≡ slice_get (get_or bs q d) r
block_at [] q r d h low small = absurd (omega arith)
block_at (b ∷ bs) zero r d h low small =
    let e : 0 * 1024 + r ≡ r = omega arith in
    ap (λ n. slice_get (b ++ joined bs) n) e ∙ slice_get_front b (joined bs) r (omega (arith, small, first_size b bs h))
block_at (b ∷ bs) (suc q) r d h low small =
    let e : suc q * 1024 + r ≡ length b + (q * 1024 + r) = omega (arith, first_size b bs h) in
    ap (λ n. slice_get (b ++ joined bs) n) e ∙ slice_get_back b (joined bs) (q * 1024 + r) ∙ block_at bs q r d (rest_size b bs h) (omega arith) small

-- the placement at an index is read in the block that the index leads to
pub block_read : (bs : List (List Placement)) (n : ℕ) (d : List Placement) → HaveSize 1024 bs → n / 1024 < length bs → slice_get (joined bs) n ≡ slice_get (get_or bs (n / 1024) d) (n % 1024)
block_read bs n d h low = ap (λ k. slice_get (joined bs) k) (sym (div-add-mod' n 1024)) ∙ block_at bs (n / 1024) (n % 1024) d h low (omega arith)

pub block_past : (bs : List (List Placement)) (n : ℕ) → HaveSize 1024 bs → length bs ≤ n / 1024 → slice_get (joined bs) n ≡ None
block_past bs n h high = slice_get_past (joined bs) n (omega (arith, joined_length bs h, div-add-mod' n 1024))

size_of : (blocks : List (Arc (Vec Placement Global) Global)) → length (contents blocks) ≡ length blocks
size_of [] = refl
size_of (b ∷ bs) = omega (arith, size_of bs)

-- the same of the blocks as they are shared
pub shared_read : (blocks : List (Arc (Vec Placement Global) Global)) (n : ℕ) (b : Arc (Vec Placement Global) Global) → HaveSize 1024 (contents blocks) → n / 1024 < length blocks → b ≡ get_or blocks (n / 1024) b →
    slice_get b.value.items (n % 1024) ≡ slice_get (joined (contents blocks)) n
shared_read blocks n b h low is =
    let f : Arc (Vec Placement Global) Global → List Placement = λ a. a.value.items in
    ap (λ a. slice_get (f a) (n % 1024)) is ∙ ap (λ l. slice_get l (n % 1024)) (sym (get_or-map f blocks (n / 1024) b)) ∙ sym (block_read (contents blocks) n (f b) h (omega (arith, low, size_of blocks)))

pub shared_past : (blocks : List (Arc (Vec Placement Global) Global)) (n : ℕ) → HaveSize 1024 (contents blocks) → length blocks ≤ n / 1024 → slice_get (joined (contents blocks)) n ≡ None
shared_past blocks n h high =
    let f : Arc (Vec Placement Global) Global → List Placement = λ a. a.value.items in
    block_past (contents blocks) n h (omega (arith, high, size_of blocks))

pub joined_more : (bs : List (List Placement)) (b : List Placement) → joined (bs ++ b ∷ []) ≡ joined bs ++ b
joined_more bs b = flat_map-append (λ x. x) bs (b ∷ []) ∙ ap (λ l. joined bs ++ l) (append-nil b)

pub joined_take : (q : ℕ) (bs : List (List Placement)) → HaveSize 1024 bs → joined (take q bs) ≡ take (q * 1024) (joined bs)
joined_take zero bs h = refl
joined_take (suc q) [] h = sym (take_all (suc q * 1024) [] (omega arith))
joined_take (suc q) (b ∷ bs) h =
    let e : length b + q * 1024 ≡ suc q * 1024 = omega (arith, first_size b bs h) in
    ap (λ l. b ++ l) (joined_take q bs (rest_size b bs h)) ∙ sym (take-append-add b (joined bs) (q * 1024)) ∙ ap (λ n. take n (b ++ joined bs)) e

-- the blocks after the first ones are dropped
pub contents_take : (q : ℕ) (now blocks : List (Arc (Vec Placement Global) Global)) → now ≡ take q blocks → contents now ≡ take q (contents blocks)
contents_take q now blocks is =
    let f : Arc (Vec Placement Global) Global → List Placement = λ a. a.value.items in
    ap contents is ∙ sym (take-map f q blocks)

pub cut_joined : (q : ℕ) (now blocks : List (Arc (Vec Placement Global) Global)) → HaveSize 1024 (contents blocks) → now ≡ take q blocks → joined (contents now) ≡ take (q * 1024) (joined (contents blocks))
cut_joined q now blocks h is = ap joined (contents_take q now blocks is) ∙ joined_take q (contents blocks) h

pub cut_size : (q : ℕ) (now blocks : List (Arc (Vec Placement Global) Global)) → HaveSize 1024 (contents blocks) → now ≡ take q blocks → HaveSize 1024 (contents now)
cut_size q now blocks h is = subst (HaveSize 1024) (sym (contents_take q now blocks is)) (All-take (λ (b : List Placement). length b ≡ 1024) q (contents blocks) h)

pub cut_count : (q count : ℕ) (now blocks : List (Arc (Vec Placement Global) Global)) → HaveSize 1024 (contents blocks) → count ≡ length (joined (contents blocks)) → now ≡ take q blocks → min (q * 1024) count ≡ length (joined (contents now))
cut_count q count now blocks h e is = ap (λ n. min (q * 1024) n) e ∙ sym (length-take (q * 1024) (joined (contents blocks))) ∙ ap length (sym (cut_joined q now blocks h is))

-- ---- lists that begin with the placements of blocks

pub begins_fits : (first all : List Placement) → Begins first all → length first ≤ length all
begins_fits first all h = omega (arith, ap length h, length-take (length first) all, min-le_right (length first) (length all))

pub begins_more : (first all part : List Placement) (n : ℕ) → Begins first all → length first + n ≤ length all → part ≡ take n (drop (length first) all) → Begins (first ++ part) all
begins_more first all part n h fits is =
    let size : length part ≡ n = ap length is ∙ length-take-le n (drop (length first) all) (omega (arith, fits, length-drop (length first) all)) in
    let e : length (first ++ part) ≡ length first + n = omega (arith, length-append first part, size) in
    ap (λ k. take k all) e ∙ take-add (length first) n all ∙ ap (λ l. l ++ take n (drop (length first) all)) h ∙ ap (λ l. first ++ l) (sym is)
