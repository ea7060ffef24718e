-- Marks for the numbers of a list, set one after another.
use Rattle.std.proofs.Common.{Bool, List, [], ap, arith, eqb, false, get_or, inl, inr, length, refl, replicate, set, subst, sym, take, true, ℕ, ◌+◌, ◌<◌, ◌||◌, ◌∙◌, ◌∷◌, ◌≡◌, ◌≤◌, filter, not}
use Rattle.std.specs.Prelude.{nat_lt}
use Rattle.std.specs.List.{list_all}
use Rattle.std.proofs.lemmas.Bool.{cases_eq, cases_lt, eq-eqb, ltb-true, ne_eqb, or_right}
use Rattle.std.proofs.lemmas.List.{get_or-replicate, get_or-set_other, get_or-set_same, get_or_past, length-replicate, length-set, take_all, take_more}
use Rattle.poly_tiling.specs.Lists.{mem}
use Rattle.poly_tiling.proofs.Contained.{at_in}
use Rattle.poly_tiling.proofs.Lists.{all_in, any_append}

pub record AreMarks (numbers : List ℕ) (marks : List Bool) (count : ℕ) : Type 0 where
  pub len : length marks ≡ count
  pub exact : (n : ℕ) → get_or marks n false ≡ mem numbers n

pub marks_none : (marks : List Bool) (count : ℕ) → marks ≡ replicate count false → AreMarks [] marks count
marks_none marks count is = record {
  len = ap length is ∙ length-replicate count false;
  exact = λ n. ap (λ l. get_or l n false) is ∙ elim (cases_lt n count) [
    | inl below ↦ get_or-replicate count n false false below
    | inr past ↦ get_or_past (replicate count false) n false (omega (arith, length-replicate count false))
  ];
}

pub low_at : (count : ℕ) (xs : List ℕ) (i : ℕ) → list_all (λ n. nat_lt n count) xs ≡ true → i < length xs → get_or xs i 0 < count
low_at count xs i low lt = ltb-true (get_or xs i 0) count (all_in (λ n. nat_lt n count) xs low (get_or xs i 0) (at_in xs i 0 lt))

pub or_false : (b : Bool) → (b || false) ≡ b
or_false true = refl
or_false false = refl

or_neither : (a b : Bool) → b ≡ false → (a || (b || false)) ≡ a
or_neither a b e = ap (λ c. a || (c || false)) e ∙ or_false a

or_true : (a b : Bool) → b ≡ true → (a || (b || false)) ≡ true
or_true a b e = ap (λ c. a || (c || false)) e ∙ or_right a true refl

pub marks_more : (xs : List ℕ) (i : ℕ) (marks marks' : List Bool) (count : ℕ) → AreMarks (take i xs) marks count → i < length xs → get_or xs i 0 < count → marks' ≡ set marks (get_or xs i 0) true → AreMarks (take (i + 1) xs) marks' count
marks_more xs i marks marks' count are lt low is = record {
  len = ap length is ∙ length-set marks (get_or xs i 0) true ∙ are.len;
  exact = λ n.
      let more : mem (take (i + 1) xs) n ≡ (mem (take i xs) n || (eqb (get_or xs i 0) n || false)) = ap (λ l. mem l n) (take_more xs i 0 lt) ∙ any_append (λ y. eqb y n) (take i xs) (get_or xs i 0 ∷ []) in
      elim (cases_eq (get_or xs i 0) n) [
        | inl same ↦
            ap (λ l. get_or l n false) is
            ∙ subst (λ k. get_or (set marks (get_or xs i 0) true) k false ≡ true) same (get_or-set_same marks (get_or xs i 0) true false (omega (arith, are.len, low)))
            ∙ sym (or_true (mem (take i xs) n) (eqb (get_or xs i 0) n) (eq-eqb (get_or xs i 0) n same))
            ∙ sym more
        | inr other ↦
            ap (λ l. get_or l n false) is
            ∙ get_or-set_other marks (get_or xs i 0) n true false (λ e. other (sym e))
            ∙ are.exact n
            ∙ sym (or_neither (mem (take i xs) n) (eqb (get_or xs i 0) n) (ne_eqb (get_or xs i 0) n other))
            ∙ sym more
      ];
}

pub marks_all : (xs : List ℕ) (i : ℕ) (marks : List Bool) (count : ℕ) → AreMarks (take i xs) marks count → length xs ≤ i → (n : ℕ) → get_or marks n false ≡ mem xs n
marks_all xs i marks count are le n = are.exact n ∙ ap (λ l. mem l n) (take_all i xs le)

-- if exactly the numbers of ys are marked, the numbers of xs without a mark are those that ys lacks
pub unmarked_are : (marks : List Bool) (ys xs : List ℕ) → ((n : ℕ) → get_or marks n false ≡ mem ys n) → filter (λ n. not (get_or marks n false)) xs ≡ filter (λ n. not (mem ys n)) xs
unmarked_are marks ys xs exact = λ i. filter (λ n. not (exact n i)) xs
