-- Two lists of numbers without repeats, `N` and `T`: `T` has all numbers of `N` exactly if the count of the numbers of `T`
-- that are in `N` is the length of `N`.
use Rattle.std.proofs.Common.{Bool, List, [], arith, eqb, false, inl, inr, length, not, refl, sym, ap, true, ℕ, ◌&&◌, ◌∙◌, ◌∷◌, ◌≡◌, ◌≤◌}
use Rattle.std.proofs.lemmas.Bool.{cases_Bool, eq-eqb, eqb-true, ne_eqb, true≢false}
use Rattle.std.specs.List.{list_all}
use Rattle.poly_tiling.specs.Lists.{distinct, mem, tally}
use Rattle.poly_tiling.proofs.Counts.{tally_fewer, tally_within}
use Rattle.poly_tiling.proofs.Lists.{In, all_from, all_in, in_mem, mem_in, same_truth}

tally_all : (xs : List ℕ) → tally (λ x. true) xs ≡ length xs
tally_all [] = refl
tally_all (x ∷ xs) = omega (arith, tally_all xs)

module _ (N T : List ℕ) (flag : ℕ → Bool) (apart : distinct N ≡ true) (once : distinct T ≡ true) (is : (k : ℕ) → flag k ≡ mem N k) where
  most : tally flag T ≤ length N
  most = omega (arith, tally_within flag (λ x. true) T N once (λ x i f. (mem_in N x (sym (is x) ∙ f), refl)), tally_all N)

  -- if `T` lacks a number of `N`, fewer numbers of `T` are in `N` than `N` has
  fewer : (p : ℕ) → In p N → mem T p ≡ false → tally flag T ≡ length N → ⊥
  fewer p i lacks e =
      let other : (x : ℕ) → In x T → eqb x p ≡ false = λ x w. ne_eqb x p (λ s. true≢false (sym (in_mem T x w) ∙ ap (mem T) s ∙ lacks)) in
      let within = tally_within flag (λ q. true && not (eqb q p)) T N once (λ x w f. (mem_in N x (sym (is x) ∙ f), ap not (other x w))) in
      omega (arith, e, within, tally_fewer (λ q. true) N p i refl, tally_all N)

  pub as_many : eqb (tally flag T) (length N) ≡ list_all (λ n. mem T n) N
  as_many = same_truth (eqb (tally flag T) (length N)) (list_all (λ n. mem T n) N)
      (λ h. all_from (λ n. mem T n) N (λ p i. elim (cases_Bool (mem T p)) [
        | inl y ↦ y
        | inr n ↦ absurd (fewer p i n (eqb-true (tally flag T) (length N) h))
      ]))
      (λ h. eq-eqb (tally flag T) (length N) (omega (arith, most, tally_all N, tally_within (λ x. true) flag N T apart (λ x i f. (mem_in T x (all_in (λ n. mem T n) N h x i), is x ∙ in_mem N x i)))))
