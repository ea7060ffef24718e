-- A log without the guards of its first changes.
use Rattle.std.proofs.Common.{List, [], ap, arith, drop, get_or, length, length-append, length-drop, map, refl, set, subst, suc, sym, take, zero, ℕ, ◌++◌, ◌+◌, ◌-◌, ◌<◌, ◌∙◌, ◌∷◌, ◌≡◌, ◌≤◌}
use Rattle.std.proofs.lemmas.List.{take_all, take_at}
use Rattle.std.specs.List.{copy_within}
use Rattle.poly_atom.specs.declared.atom.Atom.{Atom}
use Rattle.poly_atom.specs.declared.stair.Stair.{Stair}
use Rattle.poly_atom.specs.Logs.{IsStairOf, flat, forgotten, stair_of}
use Rattle.poly_atom.specs.LogKept.{IsKept, offsets, rows}
use Rattle.poly_atom.specs.Stairs.{stairs}
use Rattle.poly_atom.proofs.Offsets.{kept_rows, tail_is}
use Rattle.poly_atom.proofs.Small.{AllSmall-drop}

pub length-forgotten : (e : ℕ) (log : List (List Atom)) → length (forgotten e log) ≡ length log
length-forgotten zero log = refl
length-forgotten (suc e) [] = refl
length-forgotten (suc e) (g ∷ log) = ap suc (length-forgotten e log)

-- the guards from a kept edition on are the same
pub drop-forgotten : (e m : ℕ) (log : List (List Atom)) → e ≤ m → drop m (forgotten e log) ≡ drop m log
drop-forgotten zero m log h = refl
drop-forgotten (suc e) zero log h = absurd (omega (arith, h))
drop-forgotten (suc e) (suc m) [] h = refl
drop-forgotten (suc e) (suc m) (g ∷ log) h = drop-forgotten e m log (omega (arith, h))

-- the guards of a kept edition are the same
pub get_or-forgotten : (e k : ℕ) (log : List (List Atom)) → e ≤ k → get_or (forgotten e log) k [] ≡ get_or log k []
get_or-forgotten zero k log h = refl
get_or-forgotten (suc e) zero log h = absurd (omega (arith, h))
get_or-forgotten (suc e) (suc k) [] h = refl
get_or-forgotten (suc e) (suc k) (g ∷ log) h = get_or-forgotten e k log (omega (arith, h))

-- the atoms of a stair of a kept edition are the same
pub stair_of-forgotten : (e : ℕ) (s : Stair) (log : List (List Atom)) → e ≤ s.edition → stair_of (forgotten e log) s ≡ stair_of log s
stair_of-forgotten e s log h = ap (λ g. get_or (stairs g) s.index []) (get_or-forgotten e s.edition log h)

-- a stair of a kept edition is still there
pub is_stair-forgotten : (e : ℕ) (s : Stair) (log : List (List Atom)) → e ≤ s.edition → IsStairOf log s → IsStairOf (forgotten e log) s
is_stair-forgotten e s log h i = record {
  edition_in = let k = i.edition_in in omega (arith, k, length-forgotten e log);
  index_in = subst (λ g. s.index < length g) (sym (get_or-forgotten e s.edition log h)) i.index_in;
}

flat-forgotten : (e : ℕ) (log : List (List Atom)) → flat (forgotten e log) ≡ flat (drop e log)
flat-forgotten zero log = refl
flat-forgotten (suc e) [] = refl
flat-forgotten (suc e) (g ∷ log) = flat-forgotten e log

offsets-lower : (m n : ℕ) (log : List (List Atom)) → n ≤ m → map (λ s. s - n) (offsets m log) ≡ offsets (m - n) log
offsets-lower m n [] h = refl
offsets-lower m n (g ∷ log) h =
    let next : (m + length g) - n ≡ (m - n) + length g = omega (arith, h) in
    ap (λ t. (m - n) ∷ t) (offsets-lower (m + length g) n log (omega (arith, h)) ∙ ap (λ k. offsets k log) next)

-- without the guards that were dropped, each start is lower by their number, and the starts of the changes without guards are 0
offsets-forgotten : (e m n : ℕ) (log : List (List Atom)) → n ≡ m + length (flat (take e log)) → map (λ s. s - n) (offsets m log) ≡ offsets (m - n) (forgotten e log)
offsets-forgotten zero m n log h = offsets-lower m n log (omega (arith, h))
offsets-forgotten (suc e) m n [] h = refl
offsets-forgotten (suc e) m n (g ∷ log) h =
    let on : n ≡ (m + length g) + length (flat (take e log)) = omega (arith, h, length-append g (flat (take e log))) in
    let none : (m + length g) - n ≡ (m - n) + 0 = omega (arith, on) in
    ap (λ t. (m - n) ∷ t) (offsets-forgotten e (m + length g) n log on ∙ ap (λ k. offsets k (forgotten e log)) none)

starts_are : (s : List ℕ) (all : List Atom) (e x : ℕ) → IsKept s all → x ≡ length (flat (take e (rows s all))) → map (λ a. a - x) s ≡ offsets 0 (forgotten e (rows s all))
starts_are s all e x k is =
    let log = rows s all in
    let none : 0 - x ≡ 0 = omega arith in
    ap (λ t. map (λ a. a - x) t) k.starts_are ∙ offsets-forgotten e 0 x log (omega (arith, is)) ∙ ap (λ j. offsets j (forgotten e log)) none

all_are : (s : List ℕ) (all : List Atom) (e x : ℕ) → IsKept s all → x ≡ length (flat (take e (rows s all))) → drop x all ≡ flat (forgotten e (rows s all))
all_are s all e x k is = tail_is s all e x k is ∙ sym (flat-forgotten e (rows s all))

-- dropping the guards before the start of an edition and lowering the starts forgets what is before the edition
pub rows-forgotten : (s : List ℕ) (all : List Atom) (e x : ℕ) → IsKept s all → x ≡ length (flat (take e (rows s all))) → rows (map (λ a. a - x) s) (drop x all) ≡ forgotten e (rows s all)
rows-forgotten s all e x k is =
    let log = rows s all in
    ap (λ t. rows t (drop x all)) (starts_are s all e x k is) ∙ ap (λ t. rows (offsets 0 (forgotten e log)) t) (all_are s all e x k is) ∙ kept_rows (forgotten e log)

pub kept-forgotten : (s : List ℕ) (all : List Atom) (e x : ℕ) → IsKept s all → x ≡ length (flat (take e (rows s all))) → IsKept (map (λ a. a - x) s) (drop x all)
kept-forgotten s all e x k is =
    let same = rows-forgotten s all e x k is in
    record {
      starts_are = starts_are s all e x k is ∙ ap (λ t. offsets 0 t) (sym same);
      all_are = all_are s all e x k is ∙ ap flat (sym same);
      small = AllSmall-drop x all k.small;
    }

-- the list, with its first i elements lower by n
abbrev pub lowered : ℕ → List ℕ → ℕ → List ℕ
lowered n xs zero = xs
lowered n [] (suc i) = []
lowered n (x ∷ xs) (suc i) = (x - n) ∷ lowered n xs i

pub length-lowered : (n : ℕ) (xs : List ℕ) (i : ℕ) → length (lowered n xs i) ≡ length xs
length-lowered n xs zero = refl
length-lowered n [] (suc i) = refl
length-lowered n (x ∷ xs) (suc i) = ap suc (length-lowered n xs i)

lowered_next : (n : ℕ) (xs : List ℕ) (i d : ℕ) → i < length xs → set (lowered n xs i) i (get_or (lowered n xs i) i d - n) ≡ lowered n xs (suc i)
lowered_next n [] i d h = absurd (omega (arith, h))
lowered_next n (x ∷ xs) zero d h = refl
lowered_next n (x ∷ xs) (suc i) d h = ap (λ t. (x - n) ∷ t) (lowered_next n xs i d (omega (arith, h)))

pub lowered_more : (n : ℕ) (xs : List ℕ) (i d : ℕ) → i < length xs → set (lowered n xs i) i (get_or (lowered n xs i) i d - n) ≡ lowered n xs (i + 1)
lowered_more n xs i d h = let next : suc i ≡ i + 1 = omega arith in lowered_next n xs i d h ∙ ap (λ k. lowered n xs k) next

pub lowered_all : (n : ℕ) (xs : List ℕ) (i : ℕ) → length xs ≤ i → lowered n xs i ≡ map (λ s. s - n) xs
lowered_all n [] zero h = refl
lowered_all n [] (suc i) h = refl
lowered_all n (x ∷ xs) zero h = absurd (omega (arith, h))
lowered_all n (x ∷ xs) (suc i) h = ap (λ t. (x - n) ∷ t) (lowered_all n xs i (omega (arith, h)))

-- moving the elements from index x on to the front and cutting off the rest leaves these elements
pub front_is : {X : Type 0} (xs : List X) (x m n : ℕ) → m ≡ length xs → x ≤ m → n ≡ m - x → take n (copy_within xs x m 0) ≡ drop x xs
front_is xs x m n whole inside count =
    let long : length (drop x xs) ≡ n = omega (arith, length-drop x xs, whole, count) in
    ap (λ l. take n (l ++ drop (0 + (m - x)) xs)) (take_all (m - x) (drop x xs) (omega (arith, long, count))) ∙ take_at (drop x xs) (drop (0 + (m - x)) xs) n long

-- writing a list over another one of the same length leaves the first
pub written_over : {X : Type 0} (xs ys : List X) (n : ℕ) → n ≡ length xs → length ys ≡ length xs → take n (ys ++ drop (length ys) xs) ≡ ys
written_over xs ys n whole same = take_at ys (drop (length ys) xs) n (omega (arith, whole, same))
