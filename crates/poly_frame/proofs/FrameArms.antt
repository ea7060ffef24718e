-- What the rows say about the arms of a Branch, about dead placements and about a base with a due item.
use Rattle.std.proofs.Common.{◌≡◌, ℕ, zero, suc, ◌+◌, ◌-◌, ◌*◌, ◌<◌, ◌≤◌, Bool, true, false, cond, eqb, max, not, refl, ◌&&◌, ◌||◌, ltb, leb, List, [], ◌∷◌, ◌++◌, sym, ap, ◌∙◌, arith, length, get_or, take}
use Rattle.std.specs.List.{list_all, list_any}
use Rattle.std.proofs.lemmas.Bool.{and_from, and_parts, eq-eqb, eqb-true, false_from_ne_true, le-leb, leb-true, ltb-true, not-true, or_parts, or_right}
use Rattle.std.proofs.lemmas.List.{take_more}
use Rattle.poly_tiling.specs.declared.bound.Bound.{Bound}
use Rattle.poly_tiling.specs.declared.item.Item.{Item}
use Rattle.poly_tiling.specs.Lists.{distinct, mem, one, tally}
use Rattle.poly_tiling.specs.Puzzle.{View, bound_in, conflicts, count, has_item, is_piece, is_tiling, items, same_item}
use Rattle.poly_tiling.proofs.Lists.{In, in_mem, mem_in, same_truth}
use Rattle.poly_tiling.proofs.Counts.{ascending_distinct, tally_within}
use Rattle.poly_tiling.proofs.Named.{tally_same_in}
use Rattle.poly_tiling.proofs.Orders.{live_once}
use Rattle.poly_tiling.proofs.Tilings.{parts, same_item_is}
use Rattle.poly_atom.specs.declared.atom.Atom.{Atom}
use Rattle.poly_atom.specs.Atoms.{in_family, meets_all}
use Rattle.poly_atom.specs.Hopeless.{base, lacks}
use Rattle.poly_atom.proofs.Bases.{base_up}
use Rattle.poly_frame.specs.Open.{least_at, dead, least_with_base, open_in, others, ruled_out, most_at}
use Rattle.poly_frame.specs.Bits.{in_both}
use Rattle.poly_frame.specs.FrameItems.{item_at, item_of}
use Rattle.poly_frame.specs.FrameConsistent.{fits_at, is_consistent, item_fits, items_fit}
use Rattle.poly_frame.specs.FrameSteps.{Kept}
use Rattle.poly_frame.specs.declared.frame.matrix.Matrix.{Matrix}
use Rattle.poly_frame.specs.declared.frame.steps.Mark.{Mark}
use Rattle.poly_frame.specs.declared.frame.table.Table.{Table}
use Rattle.poly_frame.proofs.FrameConsistent.{right_counted}
use Rattle.poly_frame.proofs.Later.{most_le_most}
use Rattle.poly_frame.proofs.Ruled.{least_is}
use Rattle.poly_frame.proofs.FrameSteps.{top_have, top_level}
use Rattle.poly_frame.proofs.FrameQueries.{open_first, row_says}

-- an open placement of the design is not dead
pub open_lives : (v : View) (A : List Atom) (p : ℕ) → mem v.live p ≡ true → open_in v A p ≡ true → dead v A p ≡ false
open_lives v A p m o =
    let free = not-true _ (and_parts (not (mem (base v A) p)) (not (ruled_out v A p)) o).1 in
    let full = list_any (λ i. leb (most_at v A i) (others v (base v A) p i)) (items v p) in
    let apart = (or_parts (list_any (λ a. lacks a p) A || list_any (λ q. conflicts v p q) (base v A)) full free).0 in
    let named = (or_parts (list_any (λ a. lacks a p) A) (list_any (λ q. conflicts v p q) (base v A)) apart).0 in
    ap (λ b. not b || list_any (λ a. lacks a p) A) m ∙ named

-- an open placement of the design is not ruled out
pub open_right : (v : View) (A : List Atom) (p : ℕ) → mem v.live p ≡ true → open_in v A p ≡ true → (mem v.live p && not (ruled_out v A p)) ≡ true
open_right v A p m o = and_from _ _ m (and_parts (not (mem (base v A) p)) (not (ruled_out v A p)) o).1

-- if too few numbers of a set have some item, the set isn't a tiling that meets the atoms
pub short_none : (v : View) (A : List Atom) (T : List ℕ) (i : Item) → ltb (count v T i) (least_at v A i) ≡ true → in_family v A T ≡ false
short_none v A T i h = false_from_ne_true (in_family v A T) (λ f.
    let fs = and_parts (is_tiling v T) (meets_all v T A) f in
    let less = ltb-true (count v T i) (least_at v A i) h in
    absurd (omega (arith, less, least_is v T i ((parts v T fs.0).enough i) A fs.1)))

pub tally_more : (g : ℕ → Bool) (xs : List ℕ) (k : ℕ) → k < length xs → tally g (take (k + 1) xs) ≡ tally g (take k xs) + one (g (get_or xs k 0))
tally_more g xs k h = ap (λ ys. tally g ys) (take_more xs k 0 h) ∙ tally_end (take k xs)
  where
    tally_end : (ys : List ℕ) → tally g (ys ++ get_or xs k 0 ∷ []) ≡ tally g ys + one (g (get_or xs k 0))
    tally_end [] = omega arith
    tally_end (y ∷ ys) = omega (arith, tally_end ys)

gap : (g : ℕ → Bool) (xs : List ℕ) (low d : ℕ) → low + d ≤ length xs → ((x : ℕ) → low ≤ x → x < low + d → g (get_or xs x 0) ≡ false) → tally g (take (low + d) xs) ≡ tally g (take low xs)
gap g xs low zero h out = ap (λ n. tally g (take n xs)) same
  where
    same : low + 0 ≡ low
    same = omega arith
gap g xs low (suc d) h out =
    ap (λ n. tally g (take n xs)) next ∙ tally_more g xs (low + d) (omega arith)
    ∙ omega (arith, gap g xs low d (omega arith) (λ x l m. out x l (omega arith)), ap one (out (low + d) (omega arith) (omega arith)))
  where
    next : low + suc d ≡ low + d + 1
    next = omega arith

pub tally_gap : (g : ℕ → Bool) (xs : List ℕ) (low j : ℕ) → low ≤ j → j ≤ length xs → ((x : ℕ) → low ≤ x → x < j → g (get_or xs x 0) ≡ false) → tally g (take j xs) ≡ tally g (take low xs)
tally_gap g xs low j h l out = ap (λ n. tally g (take n xs)) split ∙ gap g xs low (j - low) (omega arith) (λ x a b. out x a (omega arith))
  where
    split : j ≡ low + (j - low)
    split = omega arith

parted : (a b : Bool) → one a ≡ one (a && not b) + one (a && b)
parted true true = omega arith
parted true false = omega arith
parted false b = omega arith

-- the numbers that pass a test, split by a second test
pub apart : (f g : ℕ → Bool) (xs : List ℕ) → tally f xs ≡ tally (λ p. f p && not (g p)) xs + tally (λ p. f p && g p) xs
apart f g [] = omega arith
apart f g (x ∷ xs) = omega (arith, parted (f x) (g x), apart f g xs)

-- the placements that have the item and are not ruled out are counted in two parts: those that are open, and those in the base
pub loose_parts : (v : View) (A : List Atom) (first : ℕ) (matrix : Matrix) (t : Table) (live have raised : List ℕ) (marks : List Mark) → Kept v A first matrix t live have raised marks → (i : Item) →
    tally (λ p. open_in v A p && has_item v p i) matrix.numbers.items + tally (λ p. has_item v p i && (mem v.live p && not (ruled_out v A p))) (base v A)
    ≡ tally (λ p. has_item v p i && not (ruled_out v A p)) v.live
loose_parts v A first matrix t live have raised marks K i =
    omega (
      arith,
      apart f (λ p. mem T p) v.live,
      tally_within g out matrix.numbers.items v.live K.table.matrix.once down,
      tally_within out g v.live matrix.numbers.items once up,
      tally_within h in' T v.live (ascending_distinct T (base_up v A)) here,
      tally_within in' h v.live T once there,
    )
  where
    T : List ℕ
    T = base v A

    once : distinct v.live ≡ true
    once = live_once v K.table.matrix.well

    f : ℕ → Bool
    f p = has_item v p i && not (ruled_out v A p)

    g : ℕ → Bool
    g p = open_in v A p && has_item v p i

    h : ℕ → Bool
    h p = has_item v p i && (mem v.live p && not (ruled_out v A p))

    out : ℕ → Bool
    out p = f p && not (mem T p)

    in' : ℕ → Bool
    in' p = f p && mem T p

    down : (x : ℕ) → In x matrix.numbers.items → g x ≡ true → In x v.live × (out x ≡ true)
    down x k e =
        let one' = and_parts (open_in v A x) (has_item v x i) e in
        let free = and_parts (not (mem T x)) (not (ruled_out v A x)) one'.0 in
        (mem_in v.live x (K.table.matrix.live x (in_mem matrix.numbers.items x k)), and_from _ _ (and_from _ _ one'.1 free.1) free.0)

    up : (x : ℕ) → In x v.live → out x ≡ true → In x matrix.numbers.items × (g x ≡ true)
    up x k e =
        let three = and_parts (f x) (not (mem T x)) e in
        let one' = and_parts (has_item v x i) (not (ruled_out v A x)) three.0 in
        let opened : open_in v A x ≡ true = and_from _ _ three.1 one'.1 in
        (mem_in _ x (open_first v A first matrix t live have raised marks K x (in_mem v.live x k) opened), and_from _ _ opened one'.0)

    here : (x : ℕ) → In x T → h x ≡ true → In x v.live × (in' x ≡ true)
    here x k e =
        let one' = and_parts (has_item v x i) (mem v.live x && not (ruled_out v A x)) e in
        let right = and_parts (mem v.live x) (not (ruled_out v A x)) one'.1 in
        (mem_in v.live x right.0, and_from _ _ (and_from _ _ one'.0 right.1) (in_mem T x k))

    there : (x : ℕ) → In x v.live → in' x ≡ true → In x T × (h x ≡ true)
    there x k e =
        let three = and_parts (f x) (mem T x) e in
        let one' = and_parts (has_item v x i) (not (ruled_out v A x)) three.0 in
        (mem_in T x three.1, and_from _ _ one'.0 (and_from _ _ (in_mem v.live x k) one'.1))

-- the row of what is open and the item's row have in common exactly the open placements that have the item
pub loose_says : (v : View) (A : List Atom) (first : ℕ) (matrix : Matrix) (t : Table) (live have raised : List ℕ) (marks : List Mark) → Kept v A first matrix t live have raised marks → (i : Item) (at b : ℕ) → at ≡ length live - matrix.width → b < length v.bounds → same_item (item_of v b) i ≡ true →
    (j : ℕ) → j < length matrix.numbers.items → (open_in v A (get_or matrix.numbers.items j 0) && has_item v (get_or matrix.numbers.items j 0) i) ≡ in_both live at matrix.rows.items (matrix.width * b) j
loose_says v A first matrix t live have raised marks K i at b e l s j h =
    ap (λ k. open_in v A (get_or matrix.numbers.items j 0) && has_item v (get_or matrix.numbers.items j 0) k) (sym (same_item_is (item_of v b) i s))
    ∙ row_says v A first matrix t live have raised marks K at b e l j h

-- `least_with_base` is the greater of the item's entries in `leasts` and `have`
pub with_base_says : (v : View) (A : List Atom) (first : ℕ) (matrix : Matrix) (t : Table) (live have raised : List ℕ) (marks : List Mark) → Kept v A first matrix t live have raised marks → (i : Item) (b : ℕ) → b < length v.bounds → same_item (item_of v b) i ≡ true →
    max (get_or t.leasts.items b 0) (get_or have b 0) ≡ least_with_base v A i
with_base_says v A first matrix t live have raised marks K i b h s =
    let held = top_have v A first matrix t live have raised marks K b h in
    let least_there = K.table.leasts b h ∙ sym ((top_level v A first matrix t live have raised marks K).leasts (item_of v b)) in
    ap (λ n. max n (get_or have b 0)) least_there ∙ ap (λ n. max (least_at v A (item_of v b)) n) held ∙ ap (λ k. least_with_base v A k) (same_item_is (item_of v b) i s)

-- how many pass two tests, if all pass the second one
tally_both : (f g : ℕ → Bool) (xs : List ℕ) → list_all g xs ≡ true → tally (λ p. f p && g p) xs ≡ tally f xs
tally_both f g [] h = refl
tally_both f g (x ∷ xs) h =
    let hs = and_parts (g x) (list_all g xs) h in
    omega (arith, ap one (ap (λ b. f x && b) hs.0 ∙ yes (f x)), tally_both f g xs hs.1)
  where
    yes : (b : Bool) → (b && true) ≡ b
    yes true = refl
    yes false = refl

pub tally_le : (f : ℕ → Bool) (xs : List ℕ) → tally f xs ≤ length xs
tally_le f [] = omega arith
tally_le f (x ∷ xs) = omega (arith, one_le (f x), tally_le f xs)
  where
    one_le : (b : Bool) → one b ≤ 1
    one_le true = omega arith
    one_le false = omega arith

-- if the base is consistent, all members that have the item are placements of the design that are not ruled out
pub held_says : (v : View) (A : List Atom) (first : ℕ) (matrix : Matrix) (t : Table) (live have raised : List ℕ) (marks : List Mark) → Kept v A first matrix t live have raised marks → (i : Item) (b : ℕ) → b < length v.bounds → same_item (item_of v b) i ≡ true →
    is_consistent v A ≡ true → get_or have b 0 ≡ tally (λ p. has_item v p i && (mem v.live p && not (ruled_out v A p))) (base v A)
held_says v A first matrix t live have raised marks K i b h s right =
    top_have v A first matrix t live have raised marks K b h
    ∙ ap (λ k. count v (base v A) k) (same_item_is (item_of v b) i s)
    ∙ sym (tally_both (λ p. has_item v p i) (λ p. mem v.live p && not (ruled_out v A p)) (base v A) right)

-- whether an item of the view fits is told by its entries in `mosts` and `have`
pub fits_says : (v : View) (A : List Atom) (first : ℕ) (matrix : Matrix) (t : Table) (live have raised : List ℕ) (marks : List Mark) → Kept v A first matrix t live have raised marks → (i : Item) (b : ℕ) → b < length v.bounds → same_item (item_of v b) i ≡ true →
    fits_at i (get_or t.mosts.items b 0) (get_or have b 0) ≡ item_fits v A i
fits_says v A first matrix t live have raised marks K i b h s =
    let same = same_item_is (item_of v b) i s in
    let held = top_have v A first matrix t live have raised marks K b h ∙ ap (λ k. count v (base v A) k) same in
    let most_there = K.table.mosts b h ∙ sym ((top_level v A first matrix t live have raised marks K).mosts (item_of v b)) ∙ ap (λ k. most_at v A k) same in
    ap (λ n. fits_at i n (get_or have b 0)) most_there ∙ ap (λ n. fits_at i (most_at v A i) n) held

-- no member may have an item that is not among the view's
pub unlisted_fits : (v : View) (A : List Atom) (i : Item) → ((b : ℕ) → b < length v.bounds → same_item (item_of v b) i ≡ false) → (n : ℕ) → n ≡ count v (base v A) i → eqb n 0 ≡ item_fits v A i
unlisted_fits v A i out n e = same_truth _ _
    (λ z.
    let none = eqb-true n 0 z in
    and_from (leb (count v (base v A) i) (most_at v A i)) _ (le-leb _ _ (omega (arith, none, e))) (or_right (is_piece i) (leb (count v (base v A) i) 1) (le-leb _ _ (omega (arith, none, e)))))
    (λ f.
    let few = leb-true _ _ (and_parts (leb (count v (base v A) i) (most_at v A i)) _ f).0 in
    eq-eqb n 0 (omega (arith, few, e, most_le_most v i A, unbound v.bounds out)))
  where
    unbound : (bs : List Bound) → ((b : ℕ) → b < length bs → same_item (item_at bs b) i ≡ false) → bound_in bs i (λ x. x.most) ≡ 0
    unbound [] none = refl
    unbound (x ∷ bs) none = ap (λ t. cond t x.most (bound_in bs i (λ x. x.most))) (none zero (omega arith)) ∙ unbound bs (λ b h. none (suc b) (omega arith))

-- the members that have the item and are placements of the design that are not ruled out are those that fit and are not dead
pub held_counted : (v : View) (A : List Atom) (i : Item) (T : List ℕ) → T ≡ base v A → tally (λ p. has_item v p i && (items_fit v A p && not (dead v A p))) T ≡ tally (λ p. has_item v p i && (mem v.live p && not (ruled_out v A p))) T
held_counted v A i T e =
    tally_same_in (λ p. has_item v p i && (items_fit v A p && not (dead v A p))) (λ p. has_item v p i && (mem v.live p && not (ruled_out v A p))) T
    (λ p k. ap (λ b. has_item v p i && b) (right_counted v A p (ap (λ xs. mem xs p) (sym e) ∙ in_mem T p k)))
