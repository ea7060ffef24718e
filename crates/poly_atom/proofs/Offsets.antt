-- Lists kept one after another in one list, and where each starts.
use Rattle.std.proofs.Common.{List, [], add-one, ap, append_assoc, arith, drop, get_or, length, length-append, refl, suc, sym, take, zero, ℕ, ◌+◌, ◌++◌, ◌-◌, ◌<◌, ◌∙◌, ◌∷◌, ◌≡◌, ◌≤◌}
use Rattle.std.proofs.lemmas.List.{append-nil, drop_at, take_all, take_at}
use Rattle.poly_atom.specs.declared.atom.Atom.{Atom}
use Rattle.poly_atom.specs.Atoms.{AllSmall}
use Rattle.poly_atom.specs.Logs.{flat}
use Rattle.poly_atom.specs.LogKept.{IsKept, end_of, offsets, rows}
use Rattle.poly_atom.proofs.Small.{AllSmall-append, AllSmall-take}

pub flat-append : (L M : List (List Atom)) → flat (L ++ M) ≡ flat L ++ flat M
flat-append [] M = refl
flat-append (g ∷ L) M = ap (λ x. g ++ x) (flat-append L M) ∙ sym (append_assoc g (flat L) (flat M))

pub flat_push : (L : List (List Atom)) (g : List Atom) → flat (L ++ g ∷ []) ≡ flat L ++ g
flat_push L g = flat-append L (g ∷ []) ∙ ap (λ x. flat L ++ x) (append-nil g)

pub offsets_push : (n : ℕ) (L : List (List Atom)) (g : List Atom) → offsets n (L ++ g ∷ []) ≡ offsets n L ++ (n + length (flat L)) ∷ []
offsets_push n [] g = let e : n ≡ n + 0 = omega arith in ap (λ m. m ∷ []) e
offsets_push n (h ∷ L) g =
    let e : (n + length h) + length (flat L) ≡ n + length (h ++ flat L) = omega (arith, length-append h (flat L)) in
    ap (λ t. n ∷ t) (offsets_push (n + length h) L g ∙ ap (λ m. offsets (n + length h) L ++ m ∷ []) e)

pub length-rows : (s : List ℕ) (all : List Atom) → length (rows s all) ≡ length s
length-rows [] all = refl
length-rows (x ∷ s) all = ap suc (length-rows s all)

-- the first list ends where the next starts, or where all end
ends : (n : ℕ) (g : List Atom) (L : List (List Atom)) (m : ℕ) → m ≡ n + length (g ++ flat L) → end_of (offsets (n + length g) L) m ≡ n + length g
ends n g [] m e = omega (arith, e, ap length (append-nil g))
ends n g (h ∷ L) m e = refl

first_part : (n : ℕ) (front g after : List Atom) (m : ℕ) → length front ≡ n → m ≡ n + length g → take (m - n) (drop n (front ++ (g ++ after))) ≡ g
first_part n front g after m f e =
    let w : m - n ≡ length g = omega arith in
    ap (λ k. take k (drop n (front ++ (g ++ after)))) w ∙ ap (λ xs. take (length g) xs) (drop_at front (g ++ after) n f) ∙ take_at g after (length g) refl

-- cutting the joined lists at their starts gives the lists again
pub rows_back : (n : ℕ) (front : List Atom) (L : List (List Atom)) → length front ≡ n → rows (offsets n L) (front ++ flat L) ≡ L
rows_back n front [] f = refl
rows_back n front (g ∷ L) f =
    let m = ends n g L (length (front ++ (g ++ flat L))) (omega (arith, length-append front (g ++ flat L))) in
    let f2 : length (front ++ g) ≡ n + length g = omega (arith, length-append front g) in
    let here = first_part n front g (flat L) (end_of (offsets (n + length g) L) (length (front ++ (g ++ flat L)))) f m in
    let rest = ap (λ all. rows (offsets (n + length g) L) all) (sym (append_assoc front g (flat L))) ∙ rows_back (n + length g) (front ++ g) L f2 in
    cc

pub kept_rows : (L : List (List Atom)) → rows (offsets 0 L) (flat L) ≡ L
kept_rows L = rows_back 0 [] L refl

-- a list starts after the elements of all lists before it
pub offset_at : (n : ℕ) (L : List (List Atom)) (e d : ℕ) → e < length L → get_or (offsets n L) e d ≡ n + length (flat (take e L))
offset_at n [] e d h = absurd (omega arith)
offset_at n (g ∷ L) zero d h = omega arith
offset_at n (g ∷ L) (suc e) d h = omega (arith, offset_at (n + length g) L e d (omega arith), length-append g (flat (take e L)))

flat_split : (L : List (List Atom)) (e : ℕ) → flat L ≡ flat (take e L) ++ flat (drop e L)
flat_split [] zero = refl
flat_split [] (suc e) = refl
flat_split (g ∷ L) zero = refl
flat_split (g ∷ L) (suc e) = ap (λ x. g ++ x) (flat_split L e) ∙ sym (append_assoc g (flat (take e L)) (flat (drop e L)))

-- the start of part e is the number of elements in the parts before it
pub start_is : (s : List ℕ) (all : List Atom) (e x : ℕ) → IsKept s all → e < length s → x ≡ get_or s e x → x ≡ length (flat (take e (rows s all)))
start_is s all e x k h is = omega (arith, is, ap (λ t. get_or t e x) k.starts_are, offset_at 0 (rows s all) e x (omega (arith, length-rows s all)))

-- if there are at most e parts, the first e parts have all elements
pub start_past : (s : List ℕ) (all : List Atom) (e : ℕ) → IsKept s all → length s ≤ e → length all ≡ length (flat (take e (rows s all)))
start_past s all e k h = ap length (k.all_are ∙ ap flat (sym (take_all e (rows s all) (omega (arith, length-rows s all)))))

pub start_in : (s : List ℕ) (all : List Atom) (e : ℕ) → IsKept s all → length (flat (take e (rows s all))) ≤ length all
start_in s all e k =
    let L = rows s all in
    omega (arith, ap length (k.all_are ∙ flat_split L e), length-append (flat (take e L)) (flat (drop e L)))

-- the elements from the start of part e on are those of part e and of the later parts
pub tail_is : (s : List ℕ) (all : List Atom) (e x : ℕ) → IsKept s all → x ≡ length (flat (take e (rows s all))) → drop x all ≡ flat (drop e (rows s all))
tail_is s all e x k is =
    let L = rows s all in
    ap (λ t. drop x t) (k.all_are ∙ flat_split L e) ∙ drop_at (flat (take e L)) (flat (drop e L)) x (sym is)

-- the elements from the start of list e to the start of the next list are list e
between : (L : List (List Atom)) (e : ℕ) → take (length (flat (take (suc e) L)) - length (flat (take e L))) (flat (drop e L)) ≡ get_or L e []
between [] zero = refl
between [] (suc e) = refl
between (g ∷ L) zero =
    let w : length (g ++ flat (take zero L)) - 0 ≡ length g = omega (arith, ap length (append-nil g)) in
    ap (λ k. take k (g ++ flat L)) w ∙ take_at g (flat L) (length g) refl
between (g ∷ L) (suc e) =
    let w : length (g ++ flat (take (suc e) L)) - length (g ++ flat (take e L)) ≡ length (flat (take (suc e) L)) - length (flat (take e L)) =
    omega (arith, length-append g (flat (take (suc e) L)), length-append g (flat (take e L))) in
    ap (λ k. take k (flat (drop e L))) w ∙ between L e

pub part_is : (s : List ℕ) (all : List Atom) (e x y : ℕ) → IsKept s all → x ≡ length (flat (take e (rows s all))) → y ≡ length (flat (take (e + 1) (rows s all))) →
    take (y - x) (drop x all) ≡ get_or (rows s all) e []
part_is s all e x y k is to =
    let L = rows s all in
    let to2 = to ∙ ap (λ n. length (flat (take n L))) (add-one e) in
    ap (λ t. take (y - x) t) (tail_is s all e x k is) ∙ ap (λ n. take n (flat (drop e L))) (ap (λ n. n - x) to2 ∙ ap (λ n. length (flat (take (suc e) L)) - n) is) ∙ between L e

rise : (L : List (List Atom)) (e : ℕ) → length (flat (take e L)) ≤ length (flat (take (suc e) L))
rise [] zero = omega arith
rise [] (suc e) = omega arith
rise (g ∷ L) zero = omega arith
rise (g ∷ L) (suc e) = omega (arith, rise L e, length-append g (flat (take e L)), length-append g (flat (take (suc e) L)))

pub starts_rise : (L : List (List Atom)) (e : ℕ) → length (flat (take e L)) ≤ length (flat (take (e + 1) L))
starts_rise L e = omega (arith, rise L e, ap (λ n. length (flat (take n L))) (add-one e))

starts_push : (s : List ℕ) (all g : List Atom) → IsKept s all → s ++ length all ∷ [] ≡ offsets 0 (rows s all ++ g ∷ [])
starts_push s all g k =
    let L = rows s all in
    let n : length all ≡ 0 + length (flat L) = omega (arith, ap length k.all_are) in
    ap (λ t. t ++ length all ∷ []) k.starts_are ∙ ap (λ m. offsets 0 L ++ m ∷ []) n ∙ sym (offsets_push 0 L g)

-- adding a list at the end adds one part
pub rows_push : (s : List ℕ) (all g : List Atom) → IsKept s all → rows (s ++ length all ∷ []) (all ++ g) ≡ rows s all ++ g ∷ []
rows_push s all g k =
    let L = rows s all in
    let starts = starts_push s all g k in
    let whole : all ++ g ≡ flat (L ++ g ∷ []) = ap (λ t. t ++ g) k.all_are ∙ sym (flat_push L g) in
    ap (λ t. rows t (all ++ g)) starts ∙ ap (λ t. rows (offsets 0 (L ++ g ∷ [])) t) whole ∙ kept_rows (L ++ g ∷ [])

pub kept_push : (s : List ℕ) (all g : List Atom) → IsKept s all → AllSmall g → IsKept (s ++ length all ∷ []) (all ++ g)
kept_push s all g k h =
    let L = rows s all in
    let e = rows_push s all g k in
    record {
      starts_are = starts_push s all g k ∙ ap (λ t. offsets 0 t) (sym e);
      all_are = ap (λ t. t ++ g) k.all_are ∙ sym (flat_push L g) ∙ ap flat (sym e);
      small = AllSmall-append all g k.small h;
    }

offsets-take : (n k : ℕ) (L : List (List Atom)) → take k (offsets n L) ≡ offsets n (take k L)
offsets-take n zero L = refl
offsets-take n (suc k) [] = refl
offsets-take n (suc k) (g ∷ L) = ap (λ t. n ∷ t) (offsets-take (n + length g) k L)

flat-take : (L : List (List Atom)) (k : ℕ) → take (length (flat (take k L))) (flat L) ≡ flat (take k L)
flat-take L k = ap (λ t. take (length (flat (take k L))) t) (flat_split L k) ∙ take_at (flat (take k L)) (flat (drop k L)) (length (flat (take k L))) refl

-- cutting off the parts from index k on leaves the first k parts
pub rows_cut : (s : List ℕ) (all : List Atom) (k x : ℕ) → IsKept s all → x ≡ length (flat (take k (rows s all))) → rows (take k s) (take x all) ≡ take k (rows s all)
rows_cut s all k x h is =
    let L = rows s all in
    let starts : take k s ≡ offsets 0 (take k L) = ap (λ t. take k t) h.starts_are ∙ offsets-take 0 k L in
    let whole : take x all ≡ flat (take k L) = ap (λ n. take n all) is ∙ ap (λ t. take (length (flat (take k L))) t) h.all_are ∙ flat-take L k in
    ap (λ t. rows t (take x all)) starts ∙ ap (λ t. rows (offsets 0 (take k L)) t) whole ∙ kept_rows (take k L)

pub kept_cut : (s : List ℕ) (all : List Atom) (k x : ℕ) → IsKept s all → x ≡ length (flat (take k (rows s all))) → IsKept (take k s) (take x all)
kept_cut s all k x h is =
    let L = rows s all in
    let e = rows_cut s all k x h is in
    record {
      starts_are = ap (λ t. take k t) h.starts_are ∙ offsets-take 0 k L ∙ ap (λ t. offsets 0 t) (sym e);
      all_are = ap (λ n. take n all) is ∙ ap (λ t. take (length (flat (take k L))) t) h.all_are ∙ flat-take L k ∙ ap flat (sym e);
      small = AllSmall-take x all h.small;
    }
