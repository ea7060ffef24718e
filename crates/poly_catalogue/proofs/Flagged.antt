-- Flags by number, and lists of tilings whose numbers have flags.
use Rattle.std.proofs.Common.{List, [], ap, arith, get_or, length, refl, take, true, ℕ, ◌&&◌, ◌++◌, ◌+◌, ◌^◌, ◌<◌, ◌∙◌, ◌∷◌, ◌≡◌, ◌≤◌}
use Rattle.std.proofs.lemmas.Bool.{and_from, lt-ltb, ltb-true}
use Rattle.std.proofs.lemmas.List.{take_more}
use Rattle.std.specs.List.{list_all}
use Rattle.std.specs.Prelude.{nat_lt}
use Rattle.poly_tiling.specs.Puzzle.{View, is_tiling}
use Rattle.poly_tiling.proofs.Lists.{all_append, all_from, all_in}
use Rattle.poly_tiling.proofs.Tilings.{parts}
use Rattle.poly_catalogue.specs.Catalogued.{HasFlags}

pub below_more : (xs : List ℕ) (n m : ℕ) → n ≤ m → list_all (λ p. nat_lt p n) xs ≡ true → list_all (λ p. nat_lt p m) xs ≡ true
below_more xs n m l h = all_from (λ p. nat_lt p m) xs (λ p i.
    let low = ltb-true p n (all_in (λ q. nat_lt q n) xs h p i) in
    lt-ltb p m (omega arith))

-- if the first numbers of a list are below `n`, and `m` is at least `n` and above the next number, all of these are below `m`
pub below_next : (xs : List ℕ) (i n m : ℕ) → i < length xs → n ≤ m → get_or xs i 0 < m → list_all (λ p. nat_lt p n) (take i xs) ≡ true → list_all (λ p. nat_lt p m) (take (i + 1) xs) ≡ true
below_next xs i n m l more low h =
    ap (λ z. list_all (λ p. nat_lt p m) z) (take_more xs i 0 l) ∙ all_append (λ p. nat_lt p m) (take i xs) (get_or xs i 0 ∷ [])
    ∙ and_from (list_all (λ p. nat_lt p m) (take i xs)) (nat_lt (get_or xs i 0) m && true) (below_more (take i xs) n m more h) (and_from (nat_lt (get_or xs i 0) m) true (lt-ltb (get_or xs i 0) m low) refl)

pub flags_more : (a : List (List ℕ)) (n m : ℕ) → n ≤ m → m ≤ 2 ^ 32 → HasFlags a n → HasFlags a m
flags_more a n m more few h = record {
  few = few;
  low = all_from (λ T. list_all (λ p. nat_lt p m) T) a (λ T i. below_more T n m more (all_in (λ U. list_all (λ p. nat_lt p n) U) a h.low T i));
}

-- if the numbers of a list and all live numbers of a view have flags, so have the numbers of the list with tilings of that
-- view added
pub flags_append : (w : View) (a b : List (List ℕ)) (m : ℕ) → HasFlags a m → list_all (λ p. nat_lt p m) w.live ≡ true → list_all (is_tiling w) b ≡ true → HasFlags (a ++ b) m
flags_append w a b m h live all = record {
  few = h.few;
  low =
      let q = λ (T : List ℕ). list_all (λ p. nat_lt p m) T in
      all_append q a b ∙ and_from (list_all q a) (list_all q b) h.low
      (all_from q b (λ T i.
      let t = parts w T (all_in (is_tiling w) b all T i) in
      all_from (λ p. nat_lt p m) T (λ p j. all_in (λ r. nat_lt r m) w.live live p (t.placed p j))));
}
