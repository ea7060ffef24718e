-- Which tilings a list keeps, by counts.
use Rattle.std.proofs.Common.{Bool, List, None, Some, [], ap, arith, drop, false, get_or, inl, inr, length, not, refl, slice_get, subst, suc, sym, take, true, zero, ℕ, ◌&&◌, ◌++◌, ◌||◌, ◌+◌, ◌-◌, ◌<◌, ◌∙◌, ◌∷◌, ◌≡◌, ◌≤◌}
use Rattle.std.proofs.lemmas.Bool.{both_ways, cases_lt, false_from_ne_true}
use Rattle.std.proofs.lemmas.List.{drop_all, drop_more, get_or-take, get_or_past, take-take, take_all, take_more}
use Rattle.std.proofs.lemmas.Option.{slice_get-get_or}
use Rattle.std.specs.List.{list_all, list_any}
use Rattle.poly_tiling.specs.declared.item.Item.TheVariants.{Piece}
use Rattle.poly_tiling.specs.Lists.{mem, one, tally}
use Rattle.poly_tiling.specs.Puzzle.{View, is_tiling}
use Rattle.poly_tiling.proofs.Contained.{get_in, in_get}
use Rattle.poly_tiling.proofs.Lists.{In, all_append, all_in, any_from, any_in, in_mem, mem_in, tally_append}
use Rattle.poly_tiling.proofs.Named.{tally_same_in}
use Rattle.poly_place.specs.declared.delta.Delta.{Delta}
use Rattle.poly_catalogue.specs.Listed.{AreOfEither, AreIndicesWith, Keeps}
use Rattle.poly_catalogue.specs.Rows.{row}
use Rattle.poly_catalogue.specs.Stays.{fits, has_gone, meets}
use Rattle.poly_catalogue.proofs.Decided.{decides}

and_swap : (a b c : Bool) → ((a && b) && c) ≡ (a && (c && b))
and_swap true true true = refl
and_swap true true false = refl
and_swap true false true = refl
and_swap true false false = refl
and_swap false b c = refl

-- two tests, one after the other, keep what passes both
pub keeps_on : (p q : List ℕ → Bool) (a b c : List (List ℕ)) → Keeps p a b → Keeps q b c → Keeps (λ T. p T && q T) a c
keeps_on p q a b c x y f = y f ∙ x (λ T. f T && q T) ∙ tally_same_in (λ T. (f T && q T) && p T) (λ T. f T && (p T && q T)) a (λ T i. and_swap (f T) (q T) (p T))

-- two tests that give the same for each tiling of the list keep the same tilings
pub keeps_as : (p q : List ℕ → Bool) (a b : List (List ℕ)) → Keeps p a b → ((T : List ℕ) → In T a → p T ≡ q T) → Keeps q a b
keeps_as p q a b x same f = x f ∙ tally_same_in (λ T. f T && p T) (λ T. f T && q T) a (λ T i. ap (λ z. f T && z) (same T i))

and_true : (a : Bool) → a ≡ (a && true)
and_true true = refl
and_true false = refl

pub keeps_all : (p : List ℕ → Bool) (a : List (List ℕ)) → ((T : List ℕ) → In T a → p T ≡ true) → Keeps p a a
keeps_all p a all f = tally_same_in f (λ T. f T && p T) a (λ T i. and_true (f T) ∙ ap (λ z. f T && z) (sym (all T i)))

none_of : (p : List ℕ → Bool) (a : List (List ℕ)) → list_any p a ≡ false → (T : List ℕ) → In T a → p T ≡ false
none_of p a h T i = false_from_ne_true (p T) (λ e. both_ways (list_any p a) h (any_from p a T i e))

-- once no tiling has the number and those that lack it are all still there, the list keeps exactly those that lack it
pub none_has : (n : ℕ) (a b : List (List ℕ)) → ((f : List ℕ → Bool) → tally (λ T. f T && not (mem T n)) b ≡ tally (λ T. f T && not (mem T n)) a) → list_any (λ T. mem T n) b ≡ false → Keeps (λ T. not (mem T n)) a b
none_has n a b same none f = keeps_all (λ T. not (mem T n)) b (λ T i. ap not (none_of (λ U. mem U n) b none T i)) f ∙ same f

and_none : (a b : Bool) → b ≡ true → one (a && not b) ≡ 0
and_none true true h = refl
and_none false true h = refl
and_none a false h = cc

-- the removal of a tiling that has the number doesn't change the counts of those that lack it
pub one_goes : (n t : ℕ) (a b c : List (List ℕ)) → ((f : List ℕ → Bool) → tally (λ T. f T && not (mem T n)) b ≡ tally (λ T. f T && not (mem T n)) a) → mem (row b t) n ≡ true →
    ((f : List ℕ → Bool) → tally f c + one (f (row b t)) ≡ tally f b) → (f : List ℕ → Bool) → tally (λ T. f T && not (mem T n)) c ≡ tally (λ T. f T && not (mem T n)) a
one_goes n t a b c same has gone f = omega (arith, gone (λ T. f T && not (mem T n)), and_none (f (row b t)) (mem (row b t) n) has, same f)

pub low_row : (a : List (List ℕ)) (t n : ℕ) → mem (row a t) n ≡ true → t < length a
low_row a t n h = elim (cases_lt t (length a)) [
  | inl l ↦ l
  | inr g ↦ absurd (let e : row a t ≡ [] = get_or_past a t [] g in let k : mem [] n ≡ true = sym (ap (λ r. mem r n) e) ∙ h in cc)
]

-- each of a number's indices is the index of a tiling that has the number
pub found_low : (a : List (List ℕ)) (n : ℕ) (indices : List ℕ) (k t : ℕ) → AreIndicesWith a n indices → slice_get indices k ≡ Some t → (t < length a) × (mem (row a t) n ≡ true)
found_low a n indices k t h e = let has : mem (row a t) n ≡ true = sym (h.exact t) ∙ in_mem indices t (get_in indices k t e) in (low_row a t n has, has)

row_at : (a : List (List ℕ)) (k : ℕ) (T : List ℕ) → slice_get a k ≡ Some T → row a k ≡ T
row_at [] k T e = cc
row_at (U ∷ a) zero T e = cc
row_at (U ∷ a) (suc k) T e = row_at a k T e

none_last : (xs : List ℕ) (k x : ℕ) → slice_get xs k ≡ Some x → slice_get xs (length xs - 1) ≡ None → ⊥
none_last [] k x e n = cc
none_last (y ∷ ys) k x e n = let g = slice_get-get_or (y ∷ ys) (length (y ∷ ys) - 1) 0 (omega arith) in cc

-- a number without indices is in no tiling
pub found_none : (a : List (List ℕ)) (n : ℕ) (indices : List ℕ) → AreIndicesWith a n indices → slice_get indices (length indices - 1) ≡ None → list_any (λ T. mem T n) a ≡ false
found_none a n indices h e = false_from_ne_true (list_any (λ T. mem T n) a) (λ y.
    let i = any_in (λ T. mem T n) a y in
    let g = in_get a i.0 i.1 in
    let is : row a g.0 ≡ i.0 = row_at a g.0 i.0 g.1 in
    let has : mem indices g.0 ≡ true = h.exact g.0 ∙ ap (λ r. mem r n) is ∙ i.2 in
    let j = in_get indices g.0 (mem_in indices g.0 has) in
    none_last indices j.0 g.0 j.1 e)

-- what is kept after one more test
pub keeps_more : {X : Type 0} (q : X → List ℕ → Bool) (xs : List X) (i : ℕ) (d : X) (a b c : List (List ℕ)) → i < length xs → Keeps (λ T. list_all (λ x. q x T) (take i xs)) a b → Keeps (q (get_or xs i d)) b c → Keeps (λ T. list_all (λ x. q x T) (take (i + 1) xs)) a c
keeps_more q xs i d a b c l x y =
    keeps_as (λ T. list_all (λ z. q z T) (take i xs) && q (get_or xs i d) T) (λ T. list_all (λ z. q z T) (take (i + 1) xs)) a c
    (keeps_on (λ T. list_all (λ z. q z T) (take i xs)) (q (get_or xs i d)) a b c x y)
    (λ T j.
    ap (λ z. list_all (λ w. q w T) (take i xs) && z) (and_true (q (get_or xs i d) T))
    ∙ sym (ap (λ z. list_all (λ w. q w T) z) (take_more xs i d l) ∙ all_append (λ w. q w T) (take i xs) (get_or xs i d ∷ [])))

pub keeps_first : {X : Type 0} (q : X → List ℕ → Bool) (xs : List X) (a : List (List ℕ)) → Keeps (λ T. list_all (λ x. q x T) (take 0 xs)) a a
keeps_first q xs a = keeps_all (λ T. list_all (λ x. q x T) (take 0 xs)) a (λ T i. refl)

pub keeps_whole : {X : Type 0} (q : X → List ℕ → Bool) (xs : List X) (i : ℕ) (a b : List (List ℕ)) → length xs ≤ i → Keeps (λ T. list_all (λ x. q x T) (take i xs)) a b → Keeps (λ T. list_all (λ x. q x T) xs) a b
keeps_whole q xs i a b l x = keeps_as (λ T. list_all (λ z. q z T) (take i xs)) (λ T. list_all (λ z. q z T) xs) a b x (λ T j. ap (λ g. list_all (λ z. q z T) g) (take_all i xs l))

-- from some index on, the tilings that fail are removed
pub record IsSwept (p : List ℕ → Bool) (a b : List (List ℕ)) (index : ℕ) : Type 0 where
  pub start : index ≤ length a
  pub low : index ≤ length b
  pub front : take index b ≡ take index a
  pub done : (f : List ℕ → Bool) → tally f b ≡ tally f (take index a) + tally (λ T. f T && p T) (drop index a)

one_split : (a b : Bool) → one a ≡ one (a && b) + one (a && not b)
one_split true true = omega arith
one_split true false = omega arith
one_split false b = omega arith

pub swept_first : (p : List ℕ → Bool) (a : List (List ℕ)) (n : ℕ) → n ≡ length a → IsSwept p a a n
swept_first p a n e = record {
  start = omega arith;
  low = omega arith;
  front = refl;
  done = λ f.
      let t : take n a ≡ a = take_all n a (omega arith) in
      let d : drop n a ≡ [] = drop_all n a (omega arith) in
      omega (arith, ap (λ l. tally f l) t, ap (λ l. tally (λ T. f T && p T) l) d);
}

pub swept_more : (p : List ℕ → Bool) (a b c : List (List ℕ)) (k index : ℕ) → index ≡ k + 1 → IsSwept p a b index → take k c ≡ take k b → k ≤ length c →
    ((f : List ℕ → Bool) → tally f c + one (f (row b k) && not (p (row b k))) ≡ tally f b) → IsSwept p a c k
swept_more p a b c k index e s front long gone = record {
  start = omega (arith, s.start);
  low = long;
  front =
      let sub : (xs : List (List ℕ)) → take k (take index xs) ≡ take k xs = λ xs. take-take k index xs (omega arith) in
      front ∙ sym (sub b) ∙ ap (λ l. take k l) s.front ∙ sub a;
  done = λ f.
      let T = row a k in
      let same : row b k ≡ T = sym (get_or-take index b k [] (omega arith)) ∙ ap (λ l. row l k) s.front ∙ get_or-take index a k [] (omega arith) in
      let low : k < length a = omega (arith, s.start) in
      let t : take index a ≡ take k a ++ T ∷ [] = ap (λ z. take z a) e ∙ take_more a k [] low in
      let d : drop k a ≡ T ∷ drop index a = drop_more a k [] low ∙ ap (λ z. T ∷ drop z a) (sym e) in
      let g = subst (λ z. tally f c + one (f z && not (p z)) ≡ tally f b) same (gone f) in
      omega (arith, g, s.done f, ap (λ l. tally f l) t, tally_append f (take k a) (T ∷ []), ap (λ l. tally (λ U. f U && p U) l) d, one_split (f T) (p T));
}

pub swept_all : (p : List ℕ → Bool) (a b : List (List ℕ)) (index : ℕ) → index ≡ 0 → IsSwept p a b index → Keeps p a b
swept_all p a b index e s f =
    let g = subst (λ z. tally f b ≡ tally f (take z a) + tally (λ T. f T && p T) (drop z a)) e (s.done f) in
    omega (arith, g)

either_of : (v w : View) (a : List (List ℕ)) → list_all (λ T. is_tiling v T || is_tiling w T) a ≡ true → (T : List ℕ) → In T a → (is_tiling v T || is_tiling w T) ≡ true
either_of v w a h T i = all_in (λ U. is_tiling v U || is_tiling w U) a h T i

and_flip : (a b : Bool) → (a && b) ≡ (b && a)
and_flip true true = refl
and_flip true false = refl
and_flip false true = refl
and_flip false false = refl

-- a tiling of the list is one of the view exactly if none of its numbers is gone and it meets the differences
pub stay : (w : View) (x : Delta) (a : List (List ℕ)) → AreOfEither w x a → (T : List ℕ) → In T a → is_tiling w T ≡ (not (has_gone x T) && meets w x T)
stay w x a of T i = decides of.before w x of.leads T (either_of of.before w a of.either T i) ∙ and_flip (meets w x T) (not (has_gone x T))

not_any : {X : Type 0} (q : X → Bool) (xs : List X) → not (list_any q xs) ≡ list_all (λ x. not (q x)) xs
not_any q [] = refl
not_any q (x ∷ xs) = at (q x) (list_any q xs) ∙ ap (λ z. not (q x) && z) (not_any q xs)
  where
    at : (a b : Bool) → not (a || b) ≡ (not a && not b)
    at true b = refl
    at false b = refl

and_four : (g p n r : Bool) → (((g && p) && n) && r) ≡ (g && ((p && n) && r))
and_four true p n r = refl
and_four false p n r = refl

-- removal by the gone numbers, then the pins, the items and the pieces, keeps exactly the tilings of the view
pub kept_four : (w : View) (x : Delta) (a b c d e : List (List ℕ)) → AreOfEither w x a → Keeps (λ T. list_all (λ p. not (mem T p)) x.gone.items) a b → Keeps (λ T. list_all (λ p. mem T p) x.pinned.items) b c →
    Keeps (λ T. list_all (λ i. fits w i T) x.needed.items) c d → Keeps (λ T. list_all (λ n. fits w (Piece n) T) x.narrowed.items) d e → Keeps (is_tiling w) a e
kept_four w x a b c d e of k l m n =
    let g = λ (T : List ℕ). list_all (λ p. not (mem T p)) x.gone.items in
    let p = λ (T : List ℕ). list_all (λ q. mem T q) x.pinned.items in
    let i = λ (T : List ℕ). list_all (λ j. fits w j T) x.needed.items in
    let r = λ (T : List ℕ). list_all (λ j. fits w (Piece j) T) x.narrowed.items in
    keeps_as (λ T. ((g T && p T) && i T) && r T) (is_tiling w) a e
    (keeps_on (λ T. (g T && p T) && i T) r a d e (keeps_on (λ T. g T && p T) i a c d (keeps_on g p a b c k l) m) n)
    (λ T j. and_four (g T) (p T) (i T) (r T) ∙ ap (λ z. z && meets w x T) (sym (not_any (λ q. mem T q) x.gone.items)) ∙ sym (stay w x a of T j))
